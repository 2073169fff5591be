-- Where a name stands, as a part of the sheet that holds it: it lies inside that sheet.
-- Assumes nothing.
use mathlib.Core.Path.{◌≡◌, ap}
use mathlib.Core.Bool.{Bool, true, false}
use mathlib.Core.List.{List, []}
use mathlib.Core.Option.{none}
use Prim.Native.Nat.{ℕ, ◌+◌, ◌-◌, ◌≤◌, ◌<◌}
use native.Mathlib.Omega.{arith}
use lib.Dec.{eqb, leb}
use lib.ListN.{length, take, drop, length-take}
use borrow.Author.Tests.{tests, leb-false}
use Rattle.std.proofs.Common.{rules}
use Rattle.spec.specs.Sheet.{class_count, total, group, class_record}
use Rattle.spec.specs.Refusals.{Refusal, unused_refusal, query_refusal}
use Rattle.spec.specs.Promises.{refused, accepted, Part, name_part, bytes_at, afterwards, Places, Names}
use Rattle.laws.proofs.Bools.{t_false}
use Rattle.theory.specs.Claims.{sheet_of}
use Rattle.theory.proofs.Answers.{first_none, plain_none}
use Rattle.theory.proofs.Promised.{told_fine, told_refused}
use Rattle.groups.specs.Groups.{sheet_number, start_of}
use Rattle.groups.proofs.Held.{sheet_low, class_room, class_long, group_tiled}
use Rattle.sheets.specs.Sheets.{Pair, Passed, count}
use Rattle.sheets.proofs.Indexes.{indexed}
use Rattle.sheets.proofs.Present.{present_passed}

-- the part by the class's sheet and start
part_is : (library user : List ℕ) (c : ℕ)
    → name_part library user c ≡ record { sheet = sheet_number (class_count library) c; start = start_of library user c + 12; size = length (class_record (group library user c)) - 12 }
unfolding name_part sheet_number start_of
part_is library user c = search (rules, tests)

module _ {p : Pair} (x : Passed p) {c : ℕ} (h : c < count p) where
  part_within : (name_part p.library p.user c).start + (name_part p.library p.user c).size ≤ length (sheet_of p.library p.user (name_part p.library p.user c).sheet)
  part_within = rw (part_is p.library p.user c) (omega (arith, class_room (indexed x) h, class_long (indexed x) h, group_tiled (indexed x) h))

  part_small : (name_part p.library p.user c).start + (name_part p.library p.user c).size ≤ 32768
  part_small = omega (arith, part_within, sheet_low (indexed x) (name_part p.library p.user c).sheet)

module _ (library user : List ℕ) (used c : ℕ) where
  abbrev both : Pair
  both = record { library = library; user = take used user }

  -- accepted sheets have the class that is asked for
  passed : query_refusal library user used c ≡ none → Passed both × (c < count both)
  unfolding query_refusal unused_refusal
  passed e =
      let q = first_none _ e in
      (present_passed library user used q.0, leb-false (total library (take used user)) c (t_false _ (plain_none (leb (total library (take used user)) c) 13 q.1.0)))

  pub start_small : query_refusal library user used c ≡ none → start_of library (take used user) c ≤ 32768
  start_small e =
      let q = passed e in omega (arith, part_small q.0 q.1, ap (λ (n : Part). n.start) (part_is library (take used user) c))

  -- refused, there is no part
  pub no_name : {r : Refusal} → Places library user used c (refused r) → Names library user used c []
  unfolding afterwards bytes_at
  no_name e = record { answered = rw (told_refused (query_refusal library user used c) _ e.answered) }

  module _ {part : Part} (e : Places library user used c (accepted part)) where
    told : (query_refusal library user used c ≡ none) × (part ≡ name_part library (take used user) c)
    told = told_fine (query_refusal library user used c) _ e.answered

    within : part.start + part.size ≤ length (sheet_of library (take used user) part.sheet)
    within = let q = passed told.0 in rw told.1 (part_within q.0 q.1)

    pub small : part.start + part.size ≤ 32768
    small = let q = passed told.0 in rw told.1 (part_small q.0 q.1)

    -- so in the buffer, where the sheet is its first bytes
    pub room : part.start + part.size ≤ length (sheet_of library user part.sheet)
    room = omega (arith, within, go (eqb part.sheet 0))
      where
        go : (b : Bool) → length (elim b as (λ (x : Bool). List ℕ) [ true ↦ library | false ↦ take used user ]) ≤ length (elim b as (λ (x : Bool). List ℕ) [ true ↦ library | false ↦ user ])
        go true = omega arith
        go false = omega (arith, length-take used user)

    pub part_name : Names library user used c (take (part.start + part.size - part.start) (drop part.start (sheet_of library user part.sheet)))
    unfolding afterwards bytes_at
    part_name =
        let n : part.start + part.size - part.start ≡ part.size = omega arith in
        record { answered = rw (told.0, ← told.1, n) }
