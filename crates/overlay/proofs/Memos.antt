-- A memo that a class may be asked over, and the memo that knows the classes below a number: what asking a class makes of it.
-- Assumes nothing.
use mathlib.Core.Path.{◌≡◌, refl, sym, ap, ap₂, ◌∙◌}
use mathlib.Core.Logic.{◌⊎◌, inl, inr}
use mathlib.Core.Bool.{not}
use mathlib.Core.List.{List, [], ◌∷◌, ◌++◌, map}
use Prim.Native.Nat.{ℕ, suc, ◌+◌, ◌-◌, ◌≤◌, ◌<◌, max}
use native.Mathlib.Nat.{le_refl, zero-add}
use native.Mathlib.Omega.{arith}
use lib.Dec.{T, ltb, ltb→lt, nltb→le}
use lib.ListN.{length, get_or, set, replicate, length-append, length-replicate, get_or-replicate}
use lib.Seq.{set-get_or}
use Rattle.std.specs.Prelude.{Option, None, Some}
use Rattle.std.specs.List.{range_with_len}
use Rattle.std.proofs.lemmas.List.{append_assoc, get_or-append_right, get_or_append_left, set-append_right}
use Rattle.std.proofs.lemmas.List.FromFn.{length-map-range_with_len, get_or-map-range_with_len, map-range_with_len_more}
use Rattle.std.proofs.lemmas.Option.{none-some, same_Some}
use Rattle.spec.specs.Lists.{span}
use Rattle.spec.specs.Sheet.{Group, total}
use Rattle.laws.proofs.Bools.{decide}
use Rattle.records.proofs.Chains.{span_is}
use Rattle.sheets.specs.Sheets.{Pair, library_count, count}
use Rattle.overlay.specs.Memo.{raw, memo_of, Knows}

-- the library's classes are among all classes
pub library_low : (p : Pair) → library_count p ≤ count p
unfolding total
library_low p = omega arith

-- a class that is known changes nothing
set_known : (memo : List (Option ℕ)) (c : ℕ) {v : Option ℕ} → get_or memo c None ≡ v → set memo c v ≡ memo
set_known memo c e = ap (set memo c) (sym e) ∙ set-get_or memo c None

-- ---- a memo that class c may be asked over

module _ {g : ℕ → Group} {c : ℕ} {memo : List (Option ℕ)} (k : Knows g c memo) {i : ℕ} (h : i < c) where
  -- a lower class may be asked too, and that changes nothing
  pub knows_lower : Knows g i memo
  knows_lower = record { long = k.long; lower = λ j q. k.lower j (omega arith); here = λ m e. same_Some m (raw g i) (sym e ∙ k.lower i h) }

  pub set_lower : set memo i (Some (raw g i)) ≡ memo
  set_lower = set_known memo i (k.lower i h)

-- ---- the memo that knows the classes below k

module _ (g : ℕ → Group) where
  pub memo_none : memo_of g 0 ≡ replicate 256 None
  unfolding memo_of span
  memo_none = refl

  module _ (k : ℕ) where
    -- the classes that are known
    abbrev low : List (Option ℕ)
    low = map (λ c. Some (raw g c)) (range_with_len 0 k)

    low_long : length low ≡ k
    low_long = length-map-range_with_len (λ c. Some (raw g c)) 0 k

    memo_is : memo_of g k ≡ low ++ replicate (256 - k) None
    unfolding memo_of
    memo_is = ap (λ (xs : List ℕ). map (λ c. Some (raw g c)) xs ++ replicate (256 - k) None) (sym (span_is 0 k))

    memo_long : k ≤ 256 → length (memo_of g k) ≡ 256
    memo_long h = rw memo_is (length-append low (replicate (256 - k) None) ∙ ap₂ (λ (a b : ℕ). a + b) low_long (length-replicate (256 - k) None) ∙ (omega arith))

    memo_below : (i : ℕ) → i < k → get_or (memo_of g k) i None ≡ Some (raw g i)
    memo_below i h =
        rw memo_is
        (get_or_append_left low (replicate (256 - k) None) None i (omega (arith, low_long)) ∙ get_or-map-range_with_len (λ c. Some (raw g c)) 0 k i i None h (zero-add i))

    memo_past : (i : ℕ) → k ≤ i → i < 256 → get_or (memo_of g k) i None ≡ None
    memo_past i h l =
        rw memo_is (get_or-append_right low (replicate (256 - k) None) k i None low_long h ∙ get_or-replicate (256 - k) (i - k) None None (omega arith))

  memo_next : (k : ℕ) → k < 256 → set (memo_of g k) k (Some (raw g k)) ≡ memo_of g (k + 1)
  memo_next k h =
      let known : Option ℕ = Some (raw g k) in
      let rest : List (Option ℕ) = replicate (256 - (k + 1)) None in
      let first : k - k ≡ 0 = omega arith in
      let more : 256 - k ≡ suc (256 - (k + 1)) = omega arith in
      ap (λ (memo : List (Option ℕ)). set memo k known) (memo_is k)
      ∙ set-append_right (low k) (replicate (256 - k) None) k k known (low_long k) (le_refl k)
      ∙ ap₂ (λ (n i : ℕ). low k ++ set (replicate n None) i known) more first
      ∙ sym (append_assoc (low k) (known ∷ []) rest)
      ∙ ap (λ (xs : List (Option ℕ)). xs ++ rest) (sym (map-range_with_len_more (λ c. Some (raw g c)) 0 k k (zero-add k)))
      ∙ sym (memo_is (k + 1))

  module _ (k c : ℕ) {memo : List (Option ℕ)} (e : memo ≡ memo_of g k) (h : c ≤ k) (l : c < 256) where
    pub memo_asks : k ≤ 256 → Knows g c memo
    memo_asks few = rw e (record {
      long = memo_long k few;
      lower = λ i q. memo_below k i (omega arith);
      here = λ m q. go m q (decide (ltb c k));
    })
      where
        go : (m : ℕ) → get_or (memo_of g k) c None ≡ Some m → T (ltb c k) ⊎ T (not (ltb c k)) → m ≡ raw g c
        go m q (inl t) = same_Some m (raw g c) (sym q ∙ memo_below k c (ltb→lt c k t))
        go m q (inr t) = absurd (none-some m (sym (memo_past k c (nltb→le c k t) l) ∙ q))

    -- class c is asked: it is known then
    pub memo_asked : {memo' : List (Option ℕ)} → memo' ≡ set memo c (Some (raw g c)) → (m : ℕ) → m ≡ max k (c + 1) → memo' ≡ memo_of g m
    memo_asked a m q = a ∙ rw (e, q) (go (decide (ltb c k)))
      where
        go : T (ltb c k) ⊎ T (not (ltb c k)) → set (memo_of g k) c (Some (raw g c)) ≡ memo_of g (max k (c + 1))
        go (inl t) =
            let below = ltb→lt c k t in
            let z : k ≡ max k (c + 1) = omega arith in
            set_known (memo_of g k) c (memo_below k c below) ∙ ap (memo_of g) z
        go (inr t) =
            let past = nltb→le c k t in
            let y : k ≡ c = omega arith in
            let z : c + 1 ≡ max k (c + 1) = omega arith in
            ap (λ (j : ℕ). set (memo_of g j) c (Some (raw g c))) y ∙ memo_next c l ∙ ap (memo_of g) z
