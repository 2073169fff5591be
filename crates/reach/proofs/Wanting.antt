-- A class none of whose named classes has a lower entry has nothing to draw.
-- Assumes nothing.
use mathlib.Core.Path.{◌≡◌, refl, sym, ap, ◌∙◌}
use mathlib.Core.Bool.{false, ◌&&◌}
use mathlib.Core.List.{List, Memᴰ}
use Prim.Native.Nat.{ℕ, ◌≤◌, ◌<◌}
use native.Mathlib.Nat.{zero-add}
use lib.Dec.{T, ltb}
use borrow.Author.Tests.{lt-ltb, le-ltb, ltb-false}
use Rattle.std.specs.Prelude.{Bool, not}
use Rattle.std.specs.List.{list_any, range_with_len}
use Rattle.spec.specs.Lists.{any, span}
use Rattle.spec.specs.Sheet.{Group}
use Rattle.laws.proofs.Bools.{t_false, false_t}
use Rattle.laws.proofs.All.{not_any, at_member, at_span}
use Rattle.records.proofs.Chains.{any_is, span_is}
use Rattle.named.specs.declared.Along.{Along}
use Rattle.lanes.specs.Lanes.{entry_at, Settled, Run, SettledAt}
use Rattle.lanes.proofs.Runs.{run_none}
use Rattle.reach.specs.Reach.{named_in, steps_of, offers}

-- ---- one class

-- the lanes of a class
abbrev pub lower_in : List ℕ → ℕ → ℕ → ℕ → Bool
lower_in row m t k = ltb (entry_at row k t) (entry_at row k m)

module _ (row : List ℕ) (n lanes m t : ℕ) where
  pub offers_past : n ≤ t → ltb t n ≡ offers row n lanes m t
  unfolding offers
  offers_past h = le-ltb t n h ∙ sym (ap (λ (b : Bool). b && any (lower_in row m t) (span 0 lanes)) (le-ltb t n h))

  offers_in : t < n → {b : Bool} → b ≡ any (lower_in row m t) (span 0 lanes) → b ≡ offers row n lanes m t
  unfolding offers
  offers_in h e = e ∙ sym (ap (λ (b : Bool). b && any (lower_in row m t) (span 0 lanes)) (lt-ltb t n h))

  pub offers_read : t < n → {b : Bool} → b ≡ list_any (lower_in row m t) (range_with_len 0 lanes) → b ≡ offers row n lanes m t
  offers_read ht e = offers_in ht (e ∙ any_is _ _ ∙ ap (any (lower_in row m t)) (span_is 0 lanes))

  offers_none : t < n → offers row n lanes m t ≡ false → (k : ℕ) → k < lanes → entry_at row k m ≤ entry_at row k t
  offers_none h e k hk =
      let none = not_any (lower_in row m t) (span 0 lanes) (false_t (offers_in h refl ∙ e)) in
      let here = rw (zero-add k) at (at_span (λ j. T (not (lower_in row m t j))) 0 lanes none k hk) in
      ltb-false (entry_at row k t) (entry_at row k m) (t_false (lower_in row m t k) here)

-- ---- a class that wants nothing

module _ (row : List ℕ) (n lanes m : ℕ) (ts : List ℕ) (none : any (offers row n lanes m) ts ≡ false) where
  none_lower : (t : ℕ) → Memᴰ t ts → t < n → (k : ℕ) → k < lanes → entry_at row k m ≤ entry_at row k t
  none_lower t x ht =
      let all = not_any (offers row n lanes m) ts (false_t none) in
      offers_none row n lanes m t ht (t_false (offers row n lanes m t) (at_member (λ s. T (not (offers row n lanes m s))) ts all x))

pub visit_unwanted : (g : ℕ → Group) (along : Along) {outer : ℕ → ℕ} {n lanes m : ℕ} (row : List ℕ) {h : Group} {told : Bool} → h ≡ g m
    → told ≡ any (offers row n lanes m) (named_in along h) → told ≡ false → Run (steps_of g along) outer n lanes (SettledAt (steps_of g along) outer n lanes m) row row false
unfolding SettledAt Settled
visit_unwanted g along {n = n} {lanes = lanes} {m = m} row eh c e =
    let none = rw (ap (named_in along) eh) at (sym c ∙ e) in
    run_none row (λ k t hk x ht b f. none_lower row n lanes m (steps_of g along m) none t x ht k hk)
