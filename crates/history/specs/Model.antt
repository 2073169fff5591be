-- The model (document 01's "week's book"): what a list of calls makes of the sheets, kept from the calls alone.
-- Each kind of call is taken apart by a clause of its own: its refusals, the groups that it makes, its answer.
-- Assumes nothing.
use Rattle.std.specs.Prelude.{List, [], ◌∷◌, ◌++◌, map, ℕ, ◌+◌, ◌-◌, length, take, drop, set, replicate}
use Rattle.std.proofs.Math.Option.{Option}
use Rattle.spec.specs.Lists.{concat, count, span}
use Rattle.spec.specs.Sheet.{groups_of, class_count, total}
use Rattle.spec.specs.Refusals.{Refusal, add_refusal, replace_refusal, withdraw_refusal}
use Rattle.spec.specs.Verdicts.{depends_on}
use Rattle.spec.specs.Promises.{Answer, answer_of, afterwards}

-- "call by call, the arguments alone: group, class number for a Replace"; the scratch length is handed beside it
pub data Call : Type 0 where
  add : List ℕ → Call
  replace : ℕ → List ℕ → Call
  withdraw : Call

-- "It holds the library sheet, the slate's length, a row of groups .., and the buffer's bytes past them"
pub record Model : Type 0 where
  pub library : List ℕ
  pub lines : ℕ
  pub groups : List (List ℕ)
  pub past : List ℕ

-- "Its user sheet is the groups end to end, its used length their bytes together, its user buffer that sheet and then the bytes past it"
unfoldable pub sheet : Model → List ℕ
sheet m = concat m.groups

unfoldable pub used : Model → ℕ
used m = length (sheet m)

unfoldable pub buffer : Model → List ℕ
buffer m = sheet m ++ m.past

-- "At an accepted judging it is given the library sheet, the user buffer, the used length and the slate's length"; "at first the user sheet's in order"
unfoldable pub opened : List ℕ → List ℕ → ℕ → ℕ → Model
opened library user used lines = record { library = library; lines = lines; groups = map concat (groups_of (take used user)); past = drop used user }

-- "A call is refused just as Add or Replace above says of the book's sheets, buffer and slate's length"
unfoldable pub model_refusal : Model → Call → ℕ → Option Refusal
model_refusal m (add g) scratch = add_refusal m.library (buffer m) (used m) g m.lines scratch
model_refusal m (replace c g) scratch = replace_refusal m.library (buffer m) (used m) c g m.lines scratch
model_refusal m withdraw scratch = withdraw_refusal m.library (buffer m) (used m) m.lines

-- "An accepted Add puts its group last", "An accepted Replace puts its group where the class's old one stood"; an accepted withdrawal "takes the last group out"
unfoldable pub new_groups : Model → Call → List (List ℕ)
new_groups m (add g) = m.groups ++ (g ∷ [])
new_groups m (replace c g) = set m.groups (c - class_count m.library) g
new_groups m withdraw = take (length m.groups - 1) m.groups

unfoldable pub new_sheet : Model → Call → List ℕ
new_sheet m call = concat (new_groups m call)

-- "answers that class's number", "answers how many classes of the new sheets stand on that number"
unfoldable pub model_value : Model → Call → ℕ
model_value m (add g) = class_count m.library + length m.groups
model_value m (replace c g) = let new = new_sheet m (replace c g) in count (λ d. depends_on m.library new c d) (span 0 (total m.library new))
model_value m withdraw = class_count m.library + length m.groups - 1

unfoldable pub model_answer : Model → Call → ℕ → Answer ℕ
model_answer m call scratch = answer_of (model_refusal m call scratch) (model_value m call)

-- "Buffer bytes freed by a shorter sheet become zero, the others past it stay"
unfoldable pub new_past : Model → Call → List ℕ
new_past m call = drop (length (new_sheet m call)) (replicate (used m) 0 ++ m.past)

unfoldable pub changed : Model → Call → Model
changed m call = record { library = m.library; lines = m.lines; groups = new_groups m call; past = new_past m call }

-- "then nothing changes"
unfoldable pub model_step : Model → Call → ℕ → Model
model_step m call scratch = afterwards (model_refusal m call scratch) m (changed m call)
