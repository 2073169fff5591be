-- What is read of the records of one kind, one after another.
-- Assumes nothing.
use mathlib.Core.Path.{◌≡◌}
use mathlib.Core.List.{List, []}
use Prim.Native.Nat.{ℕ, ◌<◌}
use lib.ListN.{length, get_or}
use Rattle.std.specs.Prelude.{Option, Some}
use Rattle.std.specs.List.{filter_map, slice_get}
use Rattle.std.specs.Option.{unwrap_or}
use Rattle.spec.specs.Record.{is_kind}
use Rattle.spec.specs.Sheet.{Group, of_kind}
use Rattle.laws.proofs.Lists.{picked, nth_picked, nth_picked_or}

module _ {A : Type 0} (k : ℕ) (f : List ℕ → A) where
  -- f of a record of the kind
  abbrev pub picked_of : List ℕ → Option A
  picked_of = picked (is_kind k) f

  pub nth_of : (h : Group) (i : ℕ) → i < length (of_kind k h) → slice_get (filter_map picked_of h) i ≡ Some (f (get_or (of_kind k h) i []))
  unfolding of_kind
  nth_of h i l = nth_picked (is_kind k) f [] h i l

  -- and what f says of no record, where there is none
  pub nth_of_or : (h : Group) (i : ℕ) → unwrap_or (slice_get (filter_map picked_of h) i) (f []) ≡ f (get_or (of_kind k h) i [])
  unfolding of_kind
  nth_of_or h i = nth_picked_or (is_kind k) f [] h i
