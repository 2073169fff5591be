-- Members that are allowed: those of a class without one that is not.
-- Assumes nothing.
use mathlib.Core.Path.{◌≡◌, refl, sym, ap, ◌∙◌}
use mathlib.Core.Bool.{Bool, true, false, not, ◌&&◌, ◌||◌}
use mathlib.Core.List.{List, [], ◌∷◌}
use Prim.Native.Nat.{ℕ, zero, suc, ◌<◌}
use native.Mathlib.Nat.{not-suc-le-zero, le_of_suc-le-suc}
use lib.ListN.{length, get_or}
use lib.Dec.{ltb}
use Rattle.spec.specs.Lists.{any, keep}
use Rattle.spec.specs.Record.{bit, is_kind, MEMBER, REFERS, flags, target, index}
use Rattle.spec.specs.Sheet.{Group, of_kind}
use Rattle.spec.specs.Rules.{member_allowed}
use Rattle.laws.proofs.Bools.{true_t}
use Rattle.breaks.specs.declared.bans.Ban.{Ban}
use Rattle.breaks.specs.Bans.{closed_member, Bans, Partial, Refers}

-- ---- a member that is not allowed

-- a class without one: each of its members is allowed
pub open_at : (h : Group) (i : ℕ) → i < length (of_kind MEMBER h) → any closed_member h ≡ false → bit 0 (flags (get_or (of_kind MEMBER h) i [])) ≡ true
unfolding of_kind keep any closed_member
open_at [] i l e = absurd (not-suc-le-zero l)
open_at (r ∷ h) i l e = go (is_kind MEMBER r) i l e (open_at h)
  where
    members : Bool → Group
    members a = elim a as (λ (y : Bool). Group) [ true ↦ r ∷ keep (is_kind MEMBER) h | false ↦ keep (is_kind MEMBER) h ]

    open_one : (b c : Bool) → (not b || c) ≡ false → b ≡ true
    open_one true c e = refl
    open_one false c e = absurd (true_t (sym e))

    open_more : (b c : Bool) → (b || c) ≡ false → c ≡ false
    open_more true c e = absurd (true_t (sym e))
    open_more false c e = e

    go : (a : Bool) (i : ℕ) → i < length (members a) → ((a && not (bit 0 (flags r))) || any closed_member h) ≡ false
        → ((i : ℕ) → i < length (keep (is_kind MEMBER) h) → any closed_member h ≡ false → bit 0 (flags (get_or (keep (is_kind MEMBER) h) i [])) ≡ true)
        → bit 0 (flags (get_or (members a) i [])) ≡ true
    go true zero l e ih = open_one (bit 0 (flags r)) (any closed_member h) e
    go true (suc i) l e ih = ih i (le_of_suc-le-suc l) (open_more (not (bit 0 (flags r))) (any closed_member h) e)
    go false i l e ih = ih i l e

-- ---- a REFERS record

module _ {n : ℕ} {g : ℕ → Group} {r : List ℕ} (f : Refers n g r) (k : is_kind REFERS r ≡ true) where
  by_kind : (b : Bool) → b ≡ not (member_allowed g (target r) (index r)) → b ≡ (is_kind REFERS r && not (member_allowed g (target r) (index r)))
  by_kind b e = e ∙ sym (ap (λ (x : Bool). x && not (member_allowed g (target r) (index r))) k)

  pub refers_told : {d i : ℕ} → d ≡ target r → i ≡ index r → {h : Group} → h ≡ g d → {b : Bool} → b ≡ bit 0 (flags (get_or (of_kind MEMBER h) i []))
      → not b ≡ (is_kind REFERS r && not (member_allowed g (target r) (index r)))
  unfolding member_allowed
  refers_told ed ei eh eb = by_kind _ (ap not (eb ∙ rw (eh, ed, ei) refl))

  -- of a class of the library without a member that is not allowed
  pub refers_open : {nlib : ℕ} {row : List Ban} {d : ℕ} → d ≡ target r → Bans nlib g row → {maybe : Bool} → Partial nlib row d maybe → not maybe ≡ true
      → false ≡ (is_kind REFERS r && not (member_allowed g (target r) (index r)))
  unfolding member_allowed
  refers_open {nlib} {d = d} ed b {maybe} o eo =
      by_kind false (sym (ap not (open_at (g (target r)) (index r) (f.member (true_t k)) (ap (λ (c : ℕ). any closed_member (g c)) (sym ed) ∙ none_closed))))
    where
      none_closed : any closed_member (g d) ≡ false
      none_closed = go maybe (not (ltb d nlib)) (any closed_member (g d)) eo (o.is g b)
        where
          go : (m a c : Bool) → not m ≡ true → m ≡ (a || c) → c ≡ false
          go true a c e q = absurd (true_t e)
          go false true c e q = absurd (true_t q)
          go false false c e q = sym q
