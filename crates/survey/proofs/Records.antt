-- The records of a class that is accepted name what is there.
-- Assumes nothing.
use mathlib.Core.Path.{◌≡◌, subst}
use mathlib.Core.Option.{none}
use Prim.Native.Nat.{ℕ, ◌<◌}
use Rattle.spec.specs.Refusals.{form_refusal}
use Rattle.laws.proofs.All.{All, weaken}
use Rattle.theory.proofs.Accept.{RecordFits, form_fits}
use Rattle.theory.proofs.References.{references_refers}
use Rattle.sheets.specs.Sheets.{Pair, count, groups, library_count}
use Rattle.breaks.specs.Bans.{Refers}

pub all_refer : (p : Pair) → form_refusal p.library p.user ≡ none → (c : ℕ) → All (Refers (count p) (groups p)) (groups p c)
all_refer p ok c =
    weaken (RecordFits (library_count p) (count p) (groups p) c) (Refers (count p) (groups p))
    (λ r f. record { class = λ u. (subst (All (λ d. d < count p)) (references_refers r u) f.there).0; member = f.member })
    (groups p c) (form_fits p.library p.user ok c)
