-- The walk up from a class, that marks each class that it meets: the CLASS record of each names the next encloser, until none or a number past the last class.
-- Assumes nothing.
use mathlib.Core.Path.{◌≡◌, refl, sym, ap, ◌∙◌}
use mathlib.Core.Bool.{Bool, true, false, ◌||◌, or-true, or-false}
use mathlib.Core.List.{List, [], ◌∷◌, append-nil}
use Prim.Native.Nat.{ℕ, zero, suc, ◌+◌, ◌≤◌, ◌<◌}
use native.Mathlib.Decide.{ℕ_discrete}
use native.Mathlib.Omega.{arith}
use lib.Dec.{eqb}
use lib.ListN.{length, get_or, set, replicate, length-set, length-replicate, get_or-replicate}
use lib.Seq.{get_or-set_same, get_or-set_other}
use borrow.Author.Tests.{eq-eqb, ne_eqb}
use Rattle.std.specs.declared.option.Option.{Option as Maybe}
use Rattle.spec.specs.Lists.{any, keep, gather, elem}
use Rattle.spec.specs.Record.{encloser, none16, unless_none}
use Rattle.spec.specs.Sheet.{Group, class_record, of_kind}
use Rattle.spec.specs.Classes.{enclosing, enclosers_in, enclosers}
use Rattle.theory.proofs.Form.{one_record, group_one_class, group_past}
use Rattle.records.specs.Kinds.{optional, head_of}
use Rattle.records.specs.declared.record.Head.{Head}
use Rattle.sheets.specs.Sheets.{Pair, count, groups}
use Rattle.second.specs.Second.{Enclosing}

-- a class is marked, or is one of those that are left
unfoldable pub met : List Bool → ℕ → List ℕ → Bool
met row t more = get_or row t false || elem t more

-- one of those that are left is marked
mark_one : (row : List Bool) (d t : ℕ) (more : List ℕ) → d < length row → met (set row d true) t more ≡ met row t (d ∷ more)
unfolding met elem any
mark_one row d t more l = go (ℕ_discrete t d)
  where
    go : Dec (t ≡ d) → met (set row d true) t more ≡ met row t (d ∷ more)
    go (yes q) = rw (q, get_or-set_same row d true false l, eq-eqb d d refl, or-true (get_or row d false))
    go (no q) = rw (get_or-set_other row d t true false q, ne_eqb t d q)

-- the encloser that stands in a class's CLASS record
pub encloser_is : {h : Head} {q g : Group} → h ≡ head_of (class_record q) → q ≡ g → h.encloser ≡ optional (encloser (class_record g))
encloser_is eh eq = ap (λ (h : Head). h.encloser) eh ∙ ap (λ (q : Group). optional (encloser (class_record q))) eq

-- the walk from c is at class e and may go up `left` times
pub record Rising (p : Pair) (c e left : ℕ) (row : List Bool) : Type 0 where
  pub there : e < count p
  pub long : length row ≡ 256
  pub same : (t : ℕ) → t < count p → met row t (enclosers_in (groups p) left e) ≡ elem t (c ∷ enclosers (groups p) c)

-- the encloser that is named, if one is and is there: then those that are left are its own and it
named : Maybe ℕ → (ℕ → List ℕ) → List ℕ
named Maybe.None f = []
named (Maybe.Some d) f = d ∷ f d

gathered : (d : ℕ) (f : ℕ → List ℕ) → gather (λ e. e ∷ f e) (unless_none d) ≡ named (optional d) f
unfolding gather unless_none named
gathered d f = go (eqb d none16)
  where
    go : (b : Bool)
        → gather (λ e. e ∷ f e) (elim b as (λ (_ : Bool). List ℕ) [ true ↦ [] | false ↦ d ∷ [] ])
        ≡ named (elim b as (λ (_ : Bool). Maybe ℕ) [ true ↦ Maybe.None | false ↦ Maybe.Some d ]) f
    go true = refl
    go false = append-nil (d ∷ f d)

module _ (p : Pair) where
  -- a class past the last has no group, so no encloser
  past_none : (d left : ℕ) → count p ≤ d → enclosers_in (groups p) left d ≡ []
  unfolding enclosers_in enclosing of_kind keep gather
  past_none d zero h = refl
  past_none d (suc left) h = rw (group_past p.library p.user d h)

  -- one level: the encloser, and its own
  level : (e left : ℕ) → e < count p → enclosers_in (groups p) (suc left) e ≡ named (optional (encloser (class_record (groups p e)))) (enclosers_in (groups p) left)
  unfolding enclosers_in enclosing gather
  level e left h =
      let o = one_record (groups p e) (group_one_class p.library p.user e h) in
      rw (o, append-nil (unless_none (encloser (class_record (groups p e))))) (gathered (encloser (class_record (groups p e))) (enclosers_in (groups p) left))

-- no class is marked
abbrev unmarked : List Bool
unmarked = replicate 256 false

room : length unmarked ≡ 256
room = length-replicate {A = Bool} 256 false

all_left : (p : Pair) (c t : ℕ) → t < 256 → met unmarked t (c ∷ enclosers_in (groups p) (c + 1) c) ≡ elem t (c ∷ enclosers (groups p) c)
unfolding met enclosers
all_left p c t l = let e : c + 1 ≡ suc c = omega arith in rw (get_or-replicate {A = Bool} 256 t false false l, e)

pub rising_start : {p : Pair} {c left : ℕ} → count p ≤ 256 → c < count p → left ≡ c + 1 → Rising p c c left (set (replicate 256 false) c true)
rising_start {p} {c} few h el = rw el (record {
  there = h;
  long = length-set unmarked c true ∙ room;
  same = λ t l. mark_one unmarked c t _ (omega (arith, room)) ∙ all_left p c t (omega arith);
})

module _ {p : Pair} {c e left : ℕ} {marks : List Bool} (few : count p ≤ 256) (r : Rising p c e left marks) where
  -- none is left
  over : ((t : ℕ) → t < count p → met marks t [] ≡ elem t (c ∷ enclosers (groups p) c)) → Enclosing p c marks
  unfolding met elem any
  over f = record { long = omega (arith, r.long); marks = λ t l. sym (or-false (get_or marks t false)) ∙ f t l }

  pub rising_end : left ≤ 0 → Enclosing p c marks
  unfolding enclosers_in
  rising_end h = let z : left ≡ 0 = omega arith in over (λ t l. rw z at (r.same t l))

  module _ (m : ℕ) (l : left ≡ m + 1) {o : Maybe ℕ} (eo : o ≡ optional (encloser (class_record (groups p e)))) where
    -- what is left from e, by the encloser that its CLASS record names
    from : (t : ℕ) → t < count p → met marks t (named o (enclosers_in (groups p) m)) ≡ elem t (c ∷ enclosers (groups p) c)
    from t h =
        let z : suc m ≡ left = omega arith in
        ap (λ (x : Maybe ℕ). met marks t (named x (enclosers_in (groups p) m))) eo
        ∙ ap (met marks t) (sym (level p e m r.there)) ∙ ap (λ (k : ℕ). met marks t (enclosers_in (groups p) k e)) z ∙ r.same t h

    pub rising_none : o ≡ Maybe.None → Enclosing p c marks
    unfolding named
    rising_none q = over (λ t h. rw q at (from t h))

    module _ {up : ℕ} (q : o ≡ Maybe.Some up) where
      here : (t : ℕ) → t < count p → met marks t (up ∷ enclosers_in (groups p) m up) ≡ elem t (c ∷ enclosers (groups p) c)
      unfolding named
      here t h = rw q at (from t h)

      pub rising_step : up < count p → Rising p c up m (set marks up true)
      rising_step h = record {
        there = h;
        long = length-set marks up true ∙ r.long;
        same = λ t l. mark_one marks up t _ (omega (arith, r.long)) ∙ here t l;
      }

      pub rising_stop : count p ≤ up → Enclosing p c marks
      unfolding met elem any
      rising_stop h = over (λ t k. rw (ne_eqb t up (λ z. omega arith), past_none p up m h) at (here t k))
