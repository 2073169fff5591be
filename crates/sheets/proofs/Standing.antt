-- The classes of two sheets from their index: the sheet that each stands in, and its bytes as its records.
-- Assumes nothing.
use mathlib.Core.Path.{◌≡◌, refl, sym, ap, ◌∙◌, subst}
use mathlib.Core.Bool.{Bool, true, false}
use mathlib.Core.List.{List}
use Prim.Native.Nat.{ℕ, ◌-◌, ◌≤◌, ◌<◌}
use native.Mathlib.Omega.{arith}
use lib.Dec.{T, ltb}
use lib.ListN.{length, take, drop}
use borrow.Author.Tests.{ltb-true, ltb-false}
use Rattle.spec.specs.Lists.{concat}
use Rattle.spec.specs.Sheet.{Group, records_of, group}
use Rattle.spec.specs.Refusals.{one_class}
use Rattle.records.specs.Records.{Carries}
use Rattle.records.specs.Kinds.{OneClass}
use Rattle.records.proofs.Lined.{all_between, all_lined}
use Rattle.groups.specs.Groups.{sheet_number, start_of, end_of, Indexed}
use Rattle.groups.proofs.Held.{library_number, user_number, in_user, held_end}
use Rattle.groups.proofs.Bytes as in_sheet
use Rattle.view.specs.View.{Spans}
use Rattle.sheets.specs.Sheets.{Pair, count, groups, library_count}

-- ---- a class's bytes

pub carried_class : {bytes : List ℕ} {h : Group} → Carries bytes h → T (one_class h) → OneClass bytes × (records_of bytes ≡ h)
carried_class {bytes} {h} w o =
    let e : records_of bytes ≡ h = sym (all_between bytes) ∙ w.records in
    (record { lined = all_lined w.place; one = subst (λ (g : Group). T (one_class g)) (sym e) o }, e)

-- ---- the sheet that a class stands in

library_low : (nlib c : ℕ) → 0 ≡ sheet_number nlib c → c < nlib
library_low nlib c e = go (ltb c nlib) refl
  where
    go : (b : Bool) → ltb c nlib ≡ b → c < nlib
    go true t = ltb-true c nlib t
    go false t = absurd (omega (arith, e, user_number nlib c (ltb-false c nlib t)))

user_high : (nlib c : ℕ) → 1 ≡ sheet_number nlib c → nlib ≤ c
user_high nlib c e = go (ltb c nlib) refl
  where
    go : (b : Bool) → ltb c nlib ≡ b → nlib ≤ c
    go true t = absurd (omega (arith, e, library_number nlib c (ltb-true c nlib t)))
    go false t = ltb-false c nlib t

-- the classes of two sheets by their index, whatever the pair that they are is called
module _ {library user row : List ℕ} {nlib n : ℕ} (x : Indexed library user nlib n row) {p : Pair} (e : record { library = library; user = user } ≡ p) where
  pub library_count_is : nlib ≡ library_count p
  library_count_is = x.nlib_is ∙ ap library_count e

  pub count_is : n ≡ count p
  count_is = x.n_is ∙ ap count e

  pub low_is : {c : ℕ} → c < count p → c < n
  low_is h = omega (arith, count_is)

  pub end_is : (c : ℕ) {end : ℕ} → end ≡ end_of library user c → end ≡ end_of p.library p.user c
  end_is c d = d ∙ ap (λ (q : Pair). end_of q.library q.user c) e

  -- where class c stands in its sheet
  module _ {c : ℕ} (h : c < count p) {start end : ℕ} (es : start ≡ start_of p.library p.user c) (ee : end ≡ end_of p.library p.user c) where
    low : c < n
    low = low_is h

    begins : start ≡ start_of library user c
    begins = es ∙ ap (λ (q : Pair). start_of q.library q.user c) (sym e)

    ends : end ≡ end_of library user c
    ends = ee ∙ ap (λ (q : Pair). end_of q.library q.user c) (sym e)

    carries_it : {bytes : List ℕ} → bytes ≡ concat (group library user c) → Carries bytes (groups p c)
    carries_it {bytes} b = subst (λ (q : Pair). Carries bytes (groups q c)) e (in_sheet.carries x low b)

    pub ordered : start ≤ end
    ordered = omega (arith, in_sheet.some x low begins ends)

    module _ (k : 0 ≡ sheet_number (library_count p) c) where
      below : c < nlib
      below = omega (arith, library_low (library_count p) c k, library_count_is)

      pub library_within : end ≤ length library
      library_within = in_sheet.library_within x low begins ends below

      pub library_carries : Carries (take (end - start) (drop start library)) (groups p c)
      library_carries = carries_it (in_sheet.library_bytes_lem x low begins ends below)

    module _ (k : 1 ≡ sheet_number (library_count p) c) where
      above : nlib ≤ c
      above = omega (arith, user_high (library_count p) c k, library_count_is)

      pub user_spans : Spans user start end
      user_spans =
          let held = in_user x above low in record { class = c - nlib; there = held.there; begins = begins ∙ held.start; ends = ends ∙ held_end held }

      pub user_carries : {bytes : List ℕ} → bytes ≡ take (end - start) (drop start user) → Carries bytes (groups p c)
      user_carries b = carries_it (b ∙ in_sheet.user_bytes_lem x low begins ends above)
