-- Rows that are lowered: one part after another, and one entry.
-- Assumes nothing.
use mathlib.Core.Path.{◌≡◌, refl, sym, ap, ◌∙◌, subst}
use mathlib.Core.Bool.{Bool, true, false}
use mathlib.Core.List.Memᴰ
use mathlib.Core.List.{List, [], ◌∷◌, Memᴰ}
use mathlib.Core.Logic.{◌⊎◌, inl, inr, ⊎_elim}
use Prim.Native.Nat.{ℕ, zero, suc, ◌+◌, ◌*◌, ◌/◌, ◌%◌, ◌^◌, ◌≤◌, ◌<◌, min}
use native.Mathlib.Nat.{le_refl}
use native.Mathlib.Decide.{ℕ_discrete}
use native.Mathlib.Omega.{arith}
use lib.Dec.{T, eqb}
use lib.ListN.{length, get_or, set}
use lib.Seq.{get_or-set_same, get_or-set_other}
use Rattle.std.proofs.lemmas.Bool.{true≢false}
use Rattle.markers.proofs.Having.{has_is}
use Rattle.captured.specs.declared.Lane.{Lane}
use Rattle.captured.specs.declared.Lane.TheVariants.{Immutable, Powerless, DeepSelfless}
use Rattle.captured.specs.Captured.{lane_marker, lane_place}
use Rattle.captured.specs.Seeds.{OneOf, Lowering, InLane, Offered}

-- ---- one part after another

module _ {Q : ℕ → ℕ → Type 0} where
  pub lower_none : (s : List ℕ) → ((i d : ℕ) → Q i d → get_or s i 65535 ≤ d) → Lowering Q s s
  lower_none s h = record { down = λ i. le_refl (get_or s i 65535); low = h; from = λ i. inl refl }

  pub lower_then : {A B : ℕ → ℕ → Type 0} {s₀ s s' : List ℕ} → Lowering A s₀ s → Lowering B s s' → ((i d : ℕ) → Q i d → A i d ⊎ B i d) → ((i d : ℕ) → A i d → Q i d)
      → ((i d : ℕ) → B i d → Q i d) → Lowering Q s₀ s'
  lower_then {A} {s₀ = s₀} {s} {s'} f h c a b =
      record {
        down = λ i. let u = f.down i in let w = h.down i in omega arith;
        low = λ i d q. ⊎_elim (λ y. let u = f.low i d y in let w = h.down i in omega arith) (λ y. h.low i d y) (c i d q);
        from = λ i.
            ⊎_elim
            (λ e. ⊎_elim (λ e'. inl (e ∙ e')) (λ y. inr (a i (get_or s' i 65535) (subst (A i) (sym e) y))) (f.from i))
            (λ y. inr (b i (get_or s' i 65535) y))
            (h.from i);
      }

  pub lower_same : {A : ℕ → ℕ → Type 0} {s₀ s : List ℕ} → Lowering A s₀ s → ((i d : ℕ) → A i d → Q i d) → ((i d : ℕ) → Q i d → A i d) → Lowering Q s₀ s
  lower_same {s = s} f a b =
      record {
        down = f.down;
        low = λ i d q. f.low i d (b i d q);
        from = λ i. ⊎_elim (λ e. inl e) (λ y. inr (a i (get_or s i 65535) y)) (f.from i);
      }

-- ---- the parts of a list

-- what is left of the list makes the whole
pub record Left {A : Type 0} (Q : A → ℕ → ℕ → Type 0) (all : List A) (s₀ s : List ℕ) (left : List A) : Type 0 where
  pub rest : (s' : List ℕ) → Lowering (OneOf Q left) s s' → Lowering (OneOf Q all) s₀ s'

module _ {A : Type 0} {Q : A → ℕ → ℕ → Type 0} where
  lower_cons : {x : A} {xs : List A} {s₀ s s' : List ℕ} → Lowering (Q x) s₀ s → Lowering (OneOf Q xs) s s' → Lowering (OneOf Q (x ∷ xs)) s₀ s'
  lower_cons {x} {xs} f h =
      lower_then f h
      (λ i d q.
      ⊎_elim (λ e. inl (subst (λ (a : A). Q a i d) e q.allows)) (λ m. inr (record { one = q.one; member = m; allows = q.allows }))
      (Memᴰ.cases_cons q.member))
      (λ i d q. record { one = x; member = Memᴰ.head refl; allows = q })
      (λ i d q. record { one = q.one; member = Memᴰ.tail q.member; allows = q.allows })

  pub left_all : {all : List A} {s : List ℕ} {left : List A} → left ≡ all → Left Q all s s left
  left_all {all} {s} e = record { rest = λ s' h. subst (λ (xs : List A). Lowering (OneOf Q xs) s s') e h }

  module _ {all left : List A} {s₀ s : List ℕ} (f : Left Q all s₀ s left) where
    pub left_next : {x : A} {left' : List A} {s' : List ℕ} → left ≡ x ∷ left' → Lowering (Q x) s s' → Left Q all s₀ s' left'
    left_next {x} {left'} {s'} e h = record { rest = λ s'' k. f.rest s'' (subst (λ (xs : List A). Lowering (OneOf Q xs) s s'') (sym e) (lower_cons h k)) }

    pub left_none : left ≡ [] → Lowering (OneOf Q all) s₀ s
    left_none e = f.rest s (lower_none s (λ i d q. absurd (Memᴰ.not-nil (subst (Memᴰ q.one) e q.member))))

-- ---- the lanes by their places

pub place_low : (lane : Lane) → lane_place lane < 3
place_low Immutable = omega arith
place_low Powerless = omega arith
place_low DeepSelfless = omega arith

abbrev pub lane_at : ℕ → Lane
lane_at zero = Immutable
lane_at (suc zero) = Powerless
lane_at (suc (suc k)) = DeepSelfless

pub place_at : (k : ℕ) → k < 3 → lane_place (lane_at k) ≡ k
place_at zero h = refl
place_at (suc zero) h = refl
place_at (suc (suc k)) h = omega arith

at_place : (lane : Lane) → lane_at (lane_place lane) ≡ lane
at_place Immutable = refl
at_place Powerless = refl
at_place DeepSelfless = refl

pub place_same : {a b : Lane} → lane_place a ≡ lane_place b → a ≡ b
place_same {a} {b} e = sym (at_place a) ∙ ap lane_at e ∙ at_place b

-- ---- one lane

lane_after : {at v : ℕ} (s : List ℕ) (y : ℕ) → v ≡ min (get_or s at 65535) y → at < length s → (i : ℕ) → i ≡ at → get_or (set s at v) i 65535 ≡ min (get_or s i 65535) y
lane_after {at} {v} s y e l i q = rw q (get_or-set_same s at v 65535 l ∙ e)

module _ {markers m y w : ℕ} {lane : Lane} {b : Bool} (eb : b ≡ eqb (markers / w % 2) 1) (ew : w ≡ 2 ^ lane_marker lane) where
  pub lane_has : (s : List ℕ) → b ≡ true → Lowering (InLane markers m y lane) s s
  lane_has s h = lower_none s (λ i x q. absurd (subst T (sym h ∙ has_is (lane_marker lane) markers ew eb ∙ q.lacking) tt))

  pub lane_lowered : {at v : ℕ} (s : List ℕ) → b ≡ false → at ≡ lane_place lane * 256 + m → v ≡ min (get_or s at 65535) y → at < length s → Lowering (InLane markers m y lane) s (set s at v)
  lane_lowered {at} {v} s f ea ev l =
      record {
        down = λ i. down i (ℕ_discrete i at);
        low = λ i x q. let e = lane_after s y ev l i (q.place ∙ sym ea) in omega (arith, q.entry);
        from = λ i. from i (ℕ_discrete i at);
      }
    where
      down : (i : ℕ) → Dec (i ≡ at) → get_or (set s at v) i 65535 ≤ get_or s i 65535
      down i (yes q) = let e = lane_after s y ev l i q in omega arith
      down i (no q) = omega (arith, get_or-set_other s at i v 65535 q)

      from : (i : ℕ) → Dec (i ≡ at) → (get_or (set s at v) i 65535 ≡ get_or s i 65535) ⊎ InLane markers m y lane i (get_or (set s at v) i 65535)
      from i (yes q) = go (ℕ_discrete (get_or (set s at v) i 65535) y)
        where
          go : Dec (get_or (set s at v) i 65535 ≡ y) → (get_or (set s at v) i 65535 ≡ get_or s i 65535) ⊎ InLane markers m y lane i (get_or (set s at v) i 65535)
          go (yes e) = inr (record { lacking = sym (has_is (lane_marker lane) markers ew eb) ∙ f; place = q ∙ ea; entry = e })
          go (no n) = let e = lane_after s y ev l i q in inl (omega arith)
      from i (no q) = inl (get_or-set_other s at i v 65535 q)

-- ---- all lanes

abbrev pub all_lanes : List Lane
all_lanes = Immutable ∷ Powerless ∷ DeepSelfless ∷ []

pub every_lane : (lane : Lane) → Memᴰ lane all_lanes
every_lane Immutable = Memᴰ.head refl
every_lane Powerless = Memᴰ.tail (Memᴰ.head refl)
every_lane DeepSelfless = Memᴰ.tail (Memᴰ.tail (Memᴰ.head refl))

module _ {marks : List Bool} {markers m y : ℕ} where
  pub not_offered : (s : List ℕ) → get_or marks (y / 256) false ≡ false → Lowering (Offered marks markers m y) s s
  not_offered s n = lower_none s (λ i x q. absurd (true≢false (sym q.marked ∙ n)))

  pub all_offered : {s s' : List ℕ} → get_or marks (y / 256) false ≡ true → Lowering (OneOf (InLane markers m y) all_lanes) s s'
      → Lowering (Offered marks markers m y) s s'
  all_offered e f =
      lower_same f (λ i x q. record { marked = e; lane = q.one; allows = q.allows }) (λ i x q. record { one = q.lane; member = every_lane q.lane; allows = q.allows })
