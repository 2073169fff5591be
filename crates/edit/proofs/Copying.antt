-- Loops that put the bytes of a list into a buffer one by one, from the first on or from the last back.
-- Assumes nothing.
use mathlib.Core.Path.{◌≡◌, sym, ap, ap₂, ◌∙◌}
use mathlib.Core.List.{List, [], ◌∷◌, ◌++◌, append_assoc}
use Prim.Native.Nat.{ℕ, suc, ◌+◌, ◌-◌, ◌≤◌, ◌<◌}
use native.Mathlib.Numerals.{add-one}
use native.Mathlib.Omega.{arith}
use lib.ListN.{length, take, drop, get_or, set, length-drop, get_or-append}
use lib.Seq.{paste, paste-suc, drop-paste, length_paste_head, length-take-le, take-suc, drop-cons, set_at, get_or-take, get_or-drop}

-- ---- what stands before and after the bytes put in

module _ (d : List ℕ) (at : ℕ) (s : List ℕ) (n : ℕ) (room : at + n ≤ length d) (long : n ≤ length s) where
  paste_before : (k : ℕ) → k < at → get_or (paste d at s n) k 0 ≡ get_or d k 0
  paste_before k h =
      let a = length_paste_head d at s n (omega arith) long in
      let b = length-take-le at d (omega arith) in
      get_or-append (take at d ++ take n s) (drop (at + n) d) 0 k (omega arith) ∙ get_or-append (take at d) (take n s) 0 k (omega arith) ∙ get_or-take at d k 0 h

  paste_after : (k : ℕ) → at + n ≤ k → get_or (paste d at s n) k 0 ≡ get_or d k 0
  paste_after k h =
      let e : at + n + (k - (at + n)) ≡ k = omega arith in
      ap (λ (j : ℕ). get_or (paste d at s n) j 0) (sym e)
      ∙ sym (get_or-drop (at + n) (paste d at s n) (k - (at + n)) 0)
      ∙ ap (λ (l : List ℕ). get_or l (k - (at + n)) 0) (drop-paste d at s n (omega arith) long)
      ∙ get_or-drop (at + n) d (k - (at + n)) 0
      ∙ ap (λ (j : ℕ). get_or d j 0) e

-- ---- from the first byte on

-- b is the buffer d with the first i of n bytes of s put at `at`
pub record Copied (d : List ℕ) (at : ℕ) (s : List ℕ) (n : ℕ) (b : List ℕ) (i : ℕ) : Type 0 where
  pub room : at + n ≤ length d
  pub long : n ≤ length s
  pub few : i ≤ n
  pub now : b ≡ paste d at s i

module _ {d : List ℕ} {at : ℕ} {s : List ℕ} {n : ℕ} {b : List ℕ} {i : ℕ} (c : Copied d at s n b i) where
  pub copy_ahead : (k : ℕ) → at + i ≤ k → get_or b k 0 ≡ get_or d k 0
  copy_ahead k h = ap (λ (l : List ℕ). get_or l k 0) c.now ∙ paste_after d at s i (omega arith) (omega arith) k h

  pub copy_next : i < n → {p v j : ℕ} → p ≡ at + i → v ≡ get_or s i 0 → j ≡ i + 1 → Copied d at s n (set b p v) j
  copy_next h ep ev ej = rw (ep, ev, ej) (record {
    room = c.room;
    long = c.long;
    few = omega arith;
    now = ap (λ (l : List ℕ). set l (at + i) (get_or s i 0)) c.now ∙ paste-suc d at s i 0 (omega arith) (omega arith) ∙ ap (paste d at s) (sym (add-one i));
  })

-- ---- from the last byte back

-- b is the buffer d with all but the first i of n bytes of s put at `at`
pub record Backed (d : List ℕ) (at : ℕ) (s : List ℕ) (n : ℕ) (b : List ℕ) (i : ℕ) : Type 0 where
  pub room : at + n ≤ length d
  pub long : n ≤ length s
  pub few : i ≤ n
  pub now : b ≡ paste d (at + i) (drop i s) (n - i)

-- one more byte in front
paste_front : (d : List ℕ) (m : ℕ) (s : List ℕ) (j n : ℕ) → m < length d → j < length s → j < n
    → set (paste d (suc m) (drop (suc j) s) (n - suc j)) m (get_or s j 0) ≡ paste d m (drop j s) (n - j)
paste_front d m s j n hd hs h =
    let ys : List ℕ = take (n - suc j) (drop (suc j) s) in
    let e : n - j ≡ suc (n - suc j) = omega arith in
    let k : suc m + (n - suc j) ≡ m + (n - j) = omega arith in
    let split : (x : ℕ) (r : List ℕ) → ((take m d ++ (x ∷ [])) ++ ys) ++ r ≡ take m d ++ (x ∷ (ys ++ r)) = λ x r. simp append_assoc in
    ap (λ (l : List ℕ). set ((l ++ ys) ++ drop (suc m + (n - suc j)) d) m (get_or s j 0)) (take-suc d m 0 hd)
    ∙ ap (λ (l : List ℕ). set l m (get_or s j 0)) (split (get_or d m 0) (drop (suc m + (n - suc j)) d))
    ∙ set_at (take m d) (get_or d m 0) (ys ++ drop (suc m + (n - suc j)) d) (get_or s j 0) m (length-take-le m d (omega arith))
    ∙ sym (append_assoc (take m d) (get_or s j 0 ∷ ys) (drop (suc m + (n - suc j)) d))
    ∙ ap₂ (λ (x y : List ℕ). (take m d ++ x) ++ y) (sym (ap₂ (λ (a : ℕ) (l : List ℕ). take a l) e (drop-cons s j 0 hs))) (ap (λ (a : ℕ). drop a d) k)

module _ {d : List ℕ} {at : ℕ} {s : List ℕ} {n : ℕ} {b : List ℕ} {i : ℕ} (c : Backed d at s n b i) where
  rest_long : n - i ≤ length (drop i s)
  rest_long = omega (arith, length-drop i s)

  pub back_ahead : (k : ℕ) → k < at + i → get_or b k 0 ≡ get_or d k 0
  back_ahead k h = ap (λ (l : List ℕ). get_or l k 0) c.now ∙ paste_before d (at + i) (drop i s) (n - i) (omega arith) rest_long k h

  pub back_next : {p v j : ℕ} → i ≡ suc j → p ≡ at + j → v ≡ get_or s j 0 → Backed d at s n (set b p v) j
  back_next {p} {v} {j} ei ep ev = rw (ep, ev) (record {
    room = c.room;
    long = c.long;
    few = omega arith;
    now =
        let m : at + suc j ≡ suc (at + j) = omega arith in
        ap (λ (l : List ℕ). set l (at + j) (get_or s j 0)) (c.now ∙ ap (λ (x : ℕ). paste d (at + x) (drop x s) (n - x)) ei ∙ ap (λ (x : ℕ). paste d x (drop (suc j) s) (n - suc j)) m)
        ∙ paste_front d (at + j) s j n (omega arith) (omega arith) (omega arith);
  })
