-- A group put in where a cut of the user sheet stands: what is required, which classes it touches, and the edit that it is.
-- Assumes nothing.
use Rattle.std.specs.Prelude.{◌≡◌, Bool, true, false, List, ℕ, ◌+◌, ◌≤◌, ◌<◌, T, eqb, length}
use Rattle.spec.specs.Lists.{count, span}
use Rattle.spec.specs.Sheet.{class_count, total}
use Rattle.spec.specs.Verdicts.{user_verdict, flat, flat_lines, depends_on}
use Rattle.spec.specs.Refusals as spec
use Rattle.spec.specs.Promises.{State, Edit}
use Rattle.groups.specs.Groups.{start_of, end_of}
use Rattle.view.specs.declared.Cut.{Cut}
use Rattle.view.specs.View.{Sits, spliced}
use Rattle.admit.specs.Admitting.{admit_refusal, Plain}

-- ---- the classes that are touched

-- an addition, which takes nothing out, touches its class alone; a replacement the classes that depend on its class
unfoldable pub touches : List ℕ → List ℕ → Cut → ℕ → ℕ → Bool
touches library new cut c d = elim (eqb cut.from cut.used) [ true ↦ eqb d c | false ↦ depends_on library new c d ]

-- ---- the edit

unfoldable pub putting : List ℕ → State flat → List ℕ → Cut → ℕ → ℕ → Edit
putting library s g cut c scratch =
    let new = spliced s.user g cut in
    record {
      refusal = admit_refusal library s.user g new (flat_lines s.verdicts) scratch;
      sheet = new;
      answer = count (touches library new cut c) (span 0 (total library new));
      changed = λ i. touches library new cut c (class_count library + i);
      verdict = user_verdict library new;
    }

-- a cut between whole groups of an accepted sheet, and a class that is there once a group is put in
pub record Puts (library user : List ℕ) (used : ℕ) (g : List ℕ) (cut : Cut) (c : ℕ) : Type 0 where
  pub small : length library ≤ 32768
  pub sits : Sits cut user
  pub used_is : cut.used ≡ used
  pub plain : Plain library g (spliced user g cut)
  pub there : T (spec.whole_group g) → c < total library (spliced user g cut)

-- ---- where a class's group stands

abbrev pub cut_at : List ℕ → List ℕ → ℕ → ℕ → Cut
cut_at library sheet used c = record { from = start_of library sheet c; to = end_of library sheet c; used = used }
