-- The first of 14, 15, of 3 to 11 and 16, and of 12 that turns a group away, test by test.
-- Assumes nothing.
use mathlib.Core.Path.{◌≡◌, refl, sym, ap, ◌∙◌}
use mathlib.Core.Bool.{Bool, true, false, not, not-not, ◌||◌}
use mathlib.Core.List.{List, [], ◌∷◌}
use mathlib.Core.Option.{Option, none, some}
use Prim.Native.Nat.{ℕ, ◌-◌, ◌≤◌, ◌<◌, min}
use native.Mathlib.Omega.{arith}
use lib.Dec.{T, ltb, nltb→le}
use lib.ListN.{length}
use borrow.Author.Tests.{lt-ltb, le-ltb, ltb-false}
use Rattle.spec.specs.Lists.{first_of}
use Rattle.spec.specs.Sheet.{class_count, total}
use Rattle.spec.specs.Refusals.{Refusal, refuse_if, refuse_plain, sheet_refusal, new_refusal, whole_group, group_refusal, room_refusal, short_refusal, scratch_length}
use Rattle.laws.proofs.Bools.{true_t, un_not, not_or_l, not_or_r}
use Rattle.theory.proofs.Answers.{first_none, first_some, first_past, skip_none, plain_none}
use Rattle.theory.proofs.Cut.{IsGroup}
use Rattle.groups.specs.Groups.{Indexed}
use Rattle.view.specs.declared.Cut.{Cut}
use Rattle.view.specs.View.{Sits, Fits}
use Rattle.view.proofs.Splice.{sits_fits}
use Rattle.admit.specs.Admitting.{admit_refusal, Plain}

-- a whole group between whole groups can be read through the view
pub group_fits : {cut : Cut} {user g : List ℕ} → Sits cut user → {b : Bool} → b ≡ whole_group g → b ≡ true → Fits cut user g
unfolding IsGroup
group_fits s e t = sits_fits s (true_t (sym e ∙ t))

-- the classes of the user sheet are what is not the library's
pub own_is : {library user row : List ℕ} {k n own : ℕ} → Indexed library user k n row → own ≡ n - k → own ≡ class_count user
unfolding total
own_is x e = omega (arith, e, x.nlib_is, x.n_is)

module _ (library user g new : List ℕ) (lines scratch : ℕ) where
  pub not_whole : {b : Bool} → b ≡ whole_group g → b ≡ false → admit_refusal library user g new lines scratch ≡ some (record { number = 14; sheet = 0; byte = 0 })
  unfolding admit_refusal group_refusal refuse_plain refuse_if
  not_whole {b} e t = first_some _ (let o : group_refusal g ≡ some (record { number = 14; sheet = 0; byte = 0 }) = rw (← e, t) in o)

  module _ {b : Bool} (eb : b ≡ whole_group g) (tb : b ≡ true) where
    past_group : admit_refusal library user g new lines scratch ≡ first_of (room_refusal user new ∷ new_refusal library new ∷ short_refusal (class_count new) lines scratch ∷ [])
    unfolding admit_refusal group_refusal refuse_plain refuse_if
    past_group = skip_none _ _ (let o : group_refusal g ≡ none = rw (← eb, tb) in o)

    pub no_room : {size : ℕ} → size ≡ length new → min (length user) 32768 < size → admit_refusal library user g new lines scratch ≡ some (record { number = 15; sheet = 0; byte = 0 })
    unfolding room_refusal refuse_plain refuse_if
    no_room e h = past_group ∙ first_some _ (ap (λ (x : Bool). refuse_plain x 15) (over (ltb (length user) (length new)) refl))
      where
        over : (x : Bool) → ltb (length user) (length new) ≡ x → (ltb (length user) (length new) || ltb 32768 (length new)) ≡ true
        over true q = rw q
        over false q = let l : length new ≤ length user = ltb-false (length user) (length new) q in rw (q, lt-ltb 32768 (length new) (omega arith))

    module _ {size : ℕ} (es : size ≡ length new) (h : size ≤ min (length user) 32768) (plain : Plain library g new) where
      whole : T (whole_group g)
      whole = true_t (sym eb ∙ tb)

      past_room : admit_refusal library user g new lines scratch ≡ first_of (sheet_refusal library new ∷ short_refusal (class_count new) lines scratch ∷ [])
      unfolding room_refusal refuse_plain refuse_if
      past_room =
          past_group
          ∙ skip_none _ _ (let o : room_refusal user new ≡ none = rw (le-ltb (length user) (length new) (omega arith), le-ltb 32768 (length new) (omega arith)) in o)
          ∙ ap (λ (x : Option Refusal). first_of (x ∷ short_refusal (class_count new) lines scratch ∷ [])) (sym (plain.is whole))

      pub sheet_refused : {r : Refusal} → sheet_refusal library new ≡ some r → admit_refusal library user g new lines scratch ≡ some r
      sheet_refused o = past_room ∙ first_some _ o

      module _ (o : sheet_refusal library new ≡ none) {own : ℕ} (eo : own ≡ class_count new) {x : Bool} (e : x ≡ not (ltb lines own || ltb scratch scratch_length)) where
        past_sheet : admit_refusal library user g new lines scratch ≡ refuse_plain (not x) 12
        unfolding short_refusal
        past_sheet = past_room ∙ first_past _ _ o ∙ rw (e, eo, not-not (ltb lines (class_count new) || ltb scratch scratch_length)) refl

        pub too_short : x ≡ false → admit_refusal library user g new lines scratch ≡ some (record { number = 12; sheet = 0; byte = 0 })
        unfolding refuse_plain refuse_if
        too_short t = past_sheet ∙ ap (λ (y : Bool). refuse_plain (not y) 12) t

        pub admitted : x ≡ true → admit_refusal library user g new lines scratch ≡ none
        unfolding refuse_plain refuse_if
        admitted t = past_sheet ∙ ap (λ (y : Bool). refuse_plain (not y) 12) t

-- ---- what an admitted group gives

pub record Admitted (library user g new : List ℕ) (lines scratch : ℕ) : Type 0 where
  pub unrefused : admit_refusal library user g new lines scratch ≡ none
  pub whole : T (whole_group g)
  pub within : length new ≤ length user
  pub room : class_count new ≤ lines
  pub enough : scratch_length ≤ scratch

pub admit_facts : {library user g new : List ℕ} {lines scratch : ℕ} → admit_refusal library user g new lines scratch ≡ none → Admitted library user g new lines scratch
unfolding admit_refusal group_refusal room_refusal short_refusal
admit_facts {library} {user} {g} {new} {lines} {scratch} e =
    let q = first_none _ e in
    let w : T (whole_group g) = un_not (whole_group g) (plain_none (not (whole_group g)) 14 q.0) in
    let m = plain_none (ltb (length user) (length new) || ltb 32768 (length new)) 15 q.1.0 in
    let z = plain_none (ltb lines (class_count new) || ltb scratch scratch_length) 12 q.1.1.1.0 in
    record {
      unrefused = e;
      whole = w;
      within = nltb→le (length user) (length new) (not_or_l (ltb (length user) (length new)) (ltb 32768 (length new)) m);
      room = nltb→le lines (class_count new) (not_or_l (ltb lines (class_count new)) (ltb scratch scratch_length) z);
      enough = nltb→le scratch scratch_length (not_or_r (ltb lines (class_count new)) (ltb scratch scratch_length) z);
    }
