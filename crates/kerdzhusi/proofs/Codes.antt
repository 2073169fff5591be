-- The reply of a call from its answer, and an answer read back from the reply's two numbers.
-- Assumes nothing.
use mathlib.Core.Path.{◌≡◌, refl, subst, ◌∙◌}
use Prim.Native.Nat.{ℕ, ◌/◌, ◌%◌, ◌<◌, ◌≤◌}
use native.Mathlib.Omega.{arith}
use Rattle.std.specs.Prelude.{Result, Ok, Err}
use Rattle.std.specs.Result.{IsOkAnd, MatchResult}
use Rattle.spec.specs.Refusals as spec
use Rattle.spec.specs.Promises.{Answer, refused, accepted, Counts, Part}
use Rattle.refusals.specs.Refusals.{answer_in}
use Rattle.refusals.specs.declared.Refusal.{Refusal}
use Rattle.kerdzhusi.specs.Codes.{refusal_code, plain_value, counts_value, part_value, reply_of, Codable, Replies}
use Rattle.kerdzhusi.specs.declared.Reply.{Reply}

-- ---- from the answer to the reply: a result r, and the result m of mapping its value to the code

-- the byte that is blamed, 0 if nothing is
abbrev blamed : Answer ℕ → ℕ
blamed (refused r) = r.byte
blamed (accepted n) = 0

module _ {A B : Type 0} (value : B → ℕ) (f : A → B) where
  abbrev pub Coded : Result A Refusal → Result ℕ Refusal → Type 0
  Coded r m = MatchResult r (λ x. IsOkAnd m (λ n. n ≡ value (f x))) (λ e. m ≡ Err e)

  blamed_low : (r : Result A Refusal) (m : Result ℕ Refusal) → Coded r m → ((e : Refusal) → r ≡ Err e → e.byte ≤ 32768) → blamed (answer_in (λ n. n) m) ≤ 32768
  blamed_low (Ok x) (Ok n) h low = omega arith
  blamed_low (Ok x) (Err e) h low = absurd h
  blamed_low (Err e) m h low = rw h (low e refl)

  pub codable : (r : Result A Refusal) (m : Result ℕ Refusal) → Coded r m → ((e : Refusal) → r ≡ Err e → e.byte ≤ 32768) → Codable (answer_in (λ n. n) m)
  codable r m h low = record { low = λ e. subst (λ a. blamed a ≤ 32768) e (blamed_low r m h low) }

  coded : (r : Result A Refusal) (m : Result ℕ Refusal) → Coded r m → reply_of plain_value (answer_in (λ n. n) m) ≡ reply_of value (answer_in f r)
  unfolding reply_of plain_value
  coded (Ok x) (Ok n) h = rw h refl
  coded (Ok x) (Err e) h = absurd h
  coded (Err e) m h = rw h refl

  pub replies : (Promise : Answer B → Type 0) (r : Result A Refusal) (m : Result ℕ Refusal) {reply : Reply}
      → Promise (answer_in f r) → Coded r m → reply ≡ reply_of plain_value (answer_in (λ n. n) m) → Replies value Promise reply
  replies Promise r m p h e = record { answer = answer_in f r; promised = p; coded = e ∙ coded r m h }

-- ---- from the reply back to the answer

pub codes_apart : (r : spec.Refusal) → r.number < 256 → r.sheet < 256
    → (refusal_code r % 256 ≡ r.number) × ((refusal_code r / 256 % 256 ≡ r.sheet) × (refusal_code r / 65536 ≡ r.byte))
unfolding refusal_code
codes_apart r h k = (omega arith, (omega arith, omega arith))

-- a refusal is not taken for an accepted call
pub refused_status : (r : spec.Refusal) → (r.number ≡ 0 → ⊥) → refusal_code r ≡ 0 → ⊥
unfolding refusal_code
refused_status r h e = h (omega arith)

pub counts_apart : (c : Counts) → c.classes < 4294967296 → (counts_value c % 4294967296 ≡ c.classes) × (counts_value c / 4294967296 ≡ c.faulted)
unfolding counts_value
counts_apart c h = (omega arith, omega arith)

pub parts_apart : (p : Part) → p.sheet < 256 → p.start < 16777216
    → (part_value p % 256 ≡ p.sheet) × ((part_value p / 256 % 16777216 ≡ p.start) × (part_value p / 4294967296 ≡ p.size))
unfolding part_value
parts_apart p h k = (omega arith, (omega arith, omega arith))
