-- What acceptance gives the walk.
-- Assumes nothing.
use mathlib.Core.Path.{◌≡◌}
use mathlib.Core.Bool.{not}
use mathlib.Core.Option.{none}
use Prim.Native.Nat.{ℕ, ◌≤◌, ◌<◌}
use lib.Dec.{T}
use Rattle.spec.specs.Record.{CLASS}
use Rattle.spec.specs.Sheet.{Group, is_interface, of_kind}
use Rattle.spec.specs.Refusals.{one_class, form_refusal}
use Rattle.laws.proofs.Sorted.{Lone}
use Rattle.theory.proofs.Falls.{Falls}
use Rattle.theory.proofs.Accept.{Sound}
use Rattle.theory.proofs.Form.{Super, sound_falls, sound_super, group_one_class, classes_lone}
use Rattle.groups.proofs.Few.{indexed_sound}
use Rattle.sheets.specs.Sheets.{Pair, Passed, count, groups, library_count}
use Rattle.sheets.proofs.Indexes.{indexed}

pub record Ground (nlib n : ℕ) (g : ℕ → Group) : Type 0 where
  pub few : n ≤ 256
  pub falls : Falls g
  pub supers : (c : ℕ) → nlib ≤ c → c < n → T (not (is_interface (g c))) → Super g c
  pub one : (c : ℕ) → c < n → T (one_class (g c))
  pub alone : (c : ℕ) → Lone (of_kind CLASS (g c))

pub ground : {p : Pair} → Passed p → form_refusal p.library p.user ≡ none → Ground (library_count p) (count p) (groups p)
ground {p} h ok = record {
  few = h.few;
  falls = sound_falls p.library p.user s;
  supers = sound_super p.library p.user s;
  one = group_one_class p.library p.user;
  alone = classes_lone p.library p.user;
}
  where
    s : Sound p.library p.user
    s = indexed_sound (indexed h) ok
