-- The scratch after its front was used, and cleared at the end.
-- Assumes nothing.
use mathlib.Core.Path.{◌≡◌, ap, ap₂, ◌∙◌}
use mathlib.Core.List.{List, ◌++◌}
use Prim.Native.Nat.{ℕ, ◌≤◌}
use lib.ListN.{length, take, drop, replicate}
use Rattle.std.proofs.lemmas.List.{length-take-le}
use Rattle.std.proofs.lemmas.Slice.{drop-append-drop}
use Rattle.spec.specs.Refusals.{scratch_length}
use Rattle.spec.specs.Promises.{cleared}

pub clear_is : (k : ℕ) (before front : List ℕ) {part : List ℕ} → length front ≡ k → k ≤ scratch_length → scratch_length ≤ length (front ++ drop k before)
    → part ≡ replicate (length (take scratch_length (front ++ drop k before))) 0 → part ++ drop scratch_length (front ++ drop k before) ≡ cleared before
unfolding cleared
clear_is k before front l h s c =
    ap₂ (λ (a b : List ℕ). a ++ b) (c ∙ ap (λ (n : ℕ). replicate n 0) (length-take-le scratch_length (front ++ drop k before) s)) (drop-append-drop k before front scratch_length h l)
