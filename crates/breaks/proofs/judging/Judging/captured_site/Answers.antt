-- The rule has no lane, the class is a root, the lane shows nothing, or it shows the first one.
use Rattle.std.proofs.Common.{◌≡◌, ◌∙◌, ◌≤◌, ◌<◌, sym, ap, arith, Some, get_or, length, [], ℕ}
use Rattle.std.specs.Option.{option_map}
use Rattle.spec.specs.Sheet.{Group}
use Rattle.spec.specs.Classes.{locals}
use Rattle.groups.proofs.Few.{group_few}
use Rattle.sheets.specs.Sheets.{groups, library_count}
use Rattle.sheets.proofs.Indexes.{indexed}
use Rattle.slots.proofs.Heads.{first_is}
use Rattle.breaks.specs.Beyond.{fault_at, first_fault, captured_at}
use Rattle.breaks.proofs.Locals.{local_low}
use Rattle.breaks.proofs.Sites.{Laned, laned, unlaned, site_library, site_none, site_some}
use Rattle.breaks.proofs.judging.Judging.captured_site.Goals as goal
use Rattle.breaks.proofs.judging.Judging.captured_site.Goals.{In_ok-variable, After-local_number-number}

pub returns-in_err-lane : goal.returns-in_err-lane
returns-in_err-lane c =
    let p = c.args.self.now.formed.now.sheets in
    ap (option_map fault_at) c.from_residual.ensures ∙ unlaned (groups p) (library_count p) c.args.rule c.args.t (sym c.lane.ensures ∙ c.in_err-lane.was)

pub returns-then-t-library_count : goal.returns-then-t-library_count
returns-then-t-library_count c =
    let p = c.args.self.now.formed.now.sheets in
    site_library (groups p) (library_count p) c.args.rule c.args.t (sym c.lane.ensures ∙ c.in_ok-lane.was) (omega (arith, c.if-t-library_count.true, c.library_count.ensures.count))

pub returns-in_err-variable : goal.returns-in_err-variable
returns-in_err-variable c =
    let j = c.args.self.now in
    let p = j.formed.now.sheets in
    let l = laned (groups p) c.args.rule (sym c.lane.ensures ∙ c.in_ok-lane.was) in
    let first = first_is p c.requires j.formed.now.passed j.formed.now.formed j.shown l.late c.in_ok-lane.lane l.asks in
    ap (option_map fault_at) c.from_residual-in_err-variable.ensures
    ∙ site_none (groups p) (library_count p) (omega (arith, c.requires, j.formed.now.passed.few)) l (omega (arith, c.if-t-library_count.false, c.library_count.ensures.count)) first
    (sym c.first_lacking.ensures ∙ c.in_err-variable.was)

-- the variable that is shown
sits : (c : In_ok-variable) → (Laned (groups c.args.self.now.formed.now.sheets) c.args.rule c.in_ok-lane.lane) × (library_count c.args.self.now.formed.now.sheets ≤ c.args.t)
    × (c.in_ok-variable.variable.owner < c.args.t) × (c.in_ok-variable.variable.index < length (locals (groups c.args.self.now.formed.now.sheets c.in_ok-variable.variable.owner)))
    × (Some (fault_at (record {
      class = c.in_ok-variable.variable.owner;
      number = (get_or (locals (groups c.args.self.now.formed.now.sheets c.in_ok-variable.variable.owner)) c.in_ok-variable.variable.index (0, [])).0;
    }))
    ≡ first_fault (captured_at (library_count c.args.self.now.formed.now.sheets) (groups c.args.self.now.formed.now.sheets) c.args.rule c.args.t))
sits c =
    let j = c.args.self.now in
    let p = j.formed.now.sheets in
    let l = laned (groups p) c.args.rule (sym c.lane.ensures ∙ c.in_ok-lane.was) in
    let user : library_count p ≤ c.args.t = omega (arith, c.if-t-library_count.false, c.library_count.ensures.count) in
    let first = first_is p c.requires j.formed.now.passed j.formed.now.formed j.shown l.late c.in_ok-lane.lane l.asks in
    let s = site_some (groups p) (library_count p) (omega (arith, c.requires, j.formed.now.passed.few)) l user first (sym c.first_lacking.ensures ∙ c.in_ok-variable.was) in
    (l, user, s.lower, s.there, s.is)

pub group-requires : goal.group-requires
group-requires c = omega (arith, (sits (goal.at.group-requires c).In_ok-variable).2, c.requires)

pub local_number-number-requires : goal.local_number-number-requires
local_number-number-requires c = rw (c.group.ensures) (sits (goal.at.local_number-number-requires c).In_ok-variable).3

-- its record's number is below 256
few : (c : After-local_number-number) → c.local_number-number.result < 256
few c =
    let j = c.args.self.now in
    let g = groups j.formed.now.sheets in
    let s = sits (goal.at.After-local_number-number c).In_ok-variable in
    omega (
      arith,
      c.local_number-number.ensures,
      ap (λ (h : Group). (get_or (locals h) c.in_ok-variable.variable.index (0, [])).0) c.group.ensures,
      local_low (g c.in_ok-variable.variable.owner) c.in_ok-variable.variable.index s.3,
      group_few (indexed j.formed.now.passed) c.in_ok-variable.variable.owner,
    )

pub overflow_cast-result : goal.overflow_cast-result
overflow_cast-result c = omega (arith, (sits (goal.at.overflow_cast-result c).In_ok-variable).2, c.requires, c.args.self.now.formed.now.passed.few)

pub overflow_cast-result-2 : goal.overflow_cast-result-2
overflow_cast-result-2 c = omega (arith, few (goal.at.overflow_cast-result-2 c).After-local_number-number)

pub returns : goal.returns
returns c =
    ap (λ (n : ℕ). Some (fault_at (record { class = c.in_ok-variable.variable.owner; number = n })))
    (c.local_number-number.ensures ∙ ap (λ (g : Group). (get_or (locals g) c.in_ok-variable.variable.index (0, [])).0) c.group.ensures)
    ∙ (sits (goal.at.returns c).In_ok-variable).4
