-- The first pass of a user sheet part by part.
-- Assumes nothing.
use mathlib.Core.Path.{◌≡◌, refl, sym, ap, ◌∙◌, subst}
use mathlib.Core.List.{List, [], ◌∷◌, ◌++◌, append-nil}
use mathlib.Core.Logic.{◌⊎◌, inl, inr}
use mathlib.Core.Option.{Option, none, some}
use Prim.Native.Nat.{ℕ, ◌+◌, ◌≤◌}
use native.Mathlib.Nat.{zero-add, add_assoc}
use native.Mathlib.Omega.{arith}
use lib.ListN.{length}
use Rattle.std.specs.Prelude.{Result}
use Rattle.spec.specs.Lists.{first_of, concat}
use Rattle.spec.specs.Sheet.{class_count}
use Rattle.spec.specs.Refusals.{Refusal}
use Rattle.theory.proofs.Cut.{IsGroup}
use Rattle.theory.proofs.Answers.{some≢none, first_some, first_past, first_none}
use Rattle.theory.proofs.Accept.{Clear, clear}
use Rattle.view.specs.View.{Around, Parted}
use Rattle.refusals.specs.declared.Refusal.{Refusal as Refused}
use Rattle.refusals.specs.Refusals.{Answers}
use Rattle.pass.specs.Pass.{pass_refusal, shifted, Filled}
use Rattle.pass.proofs.Joining.{Seam, seam_nothing, seam_groups}

-- ---- refusals further on

pub shifted_zero : (o : Option Refusal) → shifted 0 o ≡ o
shifted_zero none = refl
shifted_zero (some r) = rw (zero-add r.byte)

shifted_twice : (d e : ℕ) (o : Option Refusal) → shifted d (shifted e o) ≡ shifted (d + e) o
shifted_twice d e none = refl
shifted_twice d e (some r) = rw (add_assoc d e r.byte)

pub shifted_none : (d : ℕ) (o : Option Refusal) → shifted d o ≡ none → o ≡ none
shifted_none d none e = refl
shifted_none d (some r) e = absurd (some≢none _ e)

pub pass_clear : (sheet n : ℕ) (s : List ℕ) → pass_refusal sheet n s ≡ none → Clear sheet n s
unfolding pass_refusal
pass_clear sheet n s e = let q = first_none _ e in clear sheet n s q.0 q.1.0

-- what is refused leaves nothing to say of the row
pub refused_row : {o : Option Refusal} {n at : ℕ} {s row₀ row : List ℕ} {r : Refusal} → o ≡ some r → length row ≡ length row₀ → Filled o n at s row₀ row
refused_row e l = record { long = l; rows = λ n. absurd (some≢none _ (sym e ∙ n)) }

-- ---- one part, and what follows it

abbrev pub Counted : Option Refusal → Result ℕ Refused → ℕ → Type 0
Counted o q x = Answers o q (λ j. j ≡ x)

module _ (n at : ℕ) {a b : List ℕ} (k : Seam a b) where
  -- what is refused in the first part is refused in both
  pub stops : {r : Refusal} → shifted at (pass_refusal 1 n a) ≡ some r → shifted at (pass_refusal 1 n (a ++ b)) ≡ some r
  stops {r} e = ap (shifted at) (k.refusal 1 n) ∙ go (pass_refusal 1 n a) e
    where
      go : (o : Option Refusal) → shifted at o ≡ some r → shifted at (first_of (o ∷ shifted (length a) (pass_refusal 1 (n + class_count a) b) ∷ [])) ≡ some r
      go none e = absurd (some≢none _ (sym e))
      go (some q) e = ap (shifted at) (first_some _ refl) ∙ e

  -- the second part goes on where the first ended
  module _ (f : shifted at (pass_refusal 1 n a) ≡ none) {m : ℕ} (c : m ≡ n + class_count a) {at' : ℕ} (ea : at' ≡ at + length a) where
    fine : pass_refusal 1 n a ≡ none
    fine = shifted_none at (pass_refusal 1 n a) f

    on : shifted at (pass_refusal 1 n (a ++ b)) ≡ shifted at' (pass_refusal 1 m b)
    on = rw (k.refusal 1 n, first_past _ _ fine, shifted_twice at (length a) (pass_refusal 1 (n + class_count a) b), ← ea, ← c)

    count : m + class_count b ≡ n + class_count (a ++ b)
    count = omega (arith, c, k.classes)

    pub few : n ≤ 256 → m ≤ 256
    few h = omega (arith, c, (pass_clear 1 n a fine).few h)

    pub answer : (q : Result ℕ Refused) → Counted (shifted at' (pass_refusal 1 m b)) q (m + class_count b) → Counted (shifted at (pass_refusal 1 n (a ++ b))) q (n + class_count (a ++ b))
    answer q w = rw (on, ← count) w

    pub rows : {row₀ row₁ row₂ : List ℕ} → Filled (pass_refusal 1 n a) n at a row₀ row₁ → Filled (pass_refusal 1 m b) m at' b row₁ row₂ → Filled (pass_refusal 1 n (a ++ b)) n at (a ++ b) row₀ row₂
    rows {row₀} u v = record {
      long = v.long ∙ u.long;
      rows = λ z.
          v.rows (shifted_none at' (pass_refusal 1 m b) (sym on ∙ ap (shifted at) z))
          ∙ rw (ea, c, u.rows fine) (sym (k.row row₀ n at));
    }

-- ---- the parts of a draft

module _ {sheet head group tail : List ℕ} (p : Parted sheet head group tail) where
  pub seams_of : Seam head (group ++ tail) × Seam group tail
  seams_of = go p.seams
    where
      go : ((group ≡ []) × (tail ≡ [])) ⊎ (Around head tail × IsGroup group) → Seam head (group ++ tail) × Seam group tail
      go (inl e) = rw (e.0, e.1) (seam_nothing _, seam_nothing _)
      go (inr e) =
          let a = e.0 in
          rw (a.before, a.after)
          (unfold concat in (
            seam_groups a.earlier (group ∷ a.later) a.earlier_whole (e.1, a.later_whole),
            subst (λ (s : List ℕ). Seam s (concat a.later)) (append-nil group) (seam_groups (group ∷ []) a.later (e.1, tt) a.later_whole),
          ))

  -- the first begins the sheet, and each of the others where the one before it ends
  module _ (n : ℕ) where
    pub sheet_stops : {r : Refusal} → shifted 0 (pass_refusal 1 n (head ++ (group ++ tail))) ≡ some r → pass_refusal 1 n sheet ≡ some r
    sheet_stops e = rw p.joined (sym (shifted_zero (pass_refusal 1 n (head ++ (group ++ tail)))) ∙ e)

    pub sheet_answer : (q : Result ℕ Refused) → Counted (shifted 0 (pass_refusal 1 n (head ++ (group ++ tail)))) q (n + class_count (head ++ (group ++ tail)))
        → Counted (pass_refusal 1 n sheet) q (n + class_count sheet)
    sheet_answer q w = rw (p.joined, ← shifted_zero (pass_refusal 1 n (head ++ (group ++ tail)))) w

    pub sheet_rows : {row₀ row : List ℕ} → Filled (pass_refusal 1 n (head ++ (group ++ tail))) n 0 (head ++ (group ++ tail)) row₀ row → Filled (pass_refusal 1 n sheet) n 0 sheet row₀ row
    sheet_rows w = rw p.joined w
