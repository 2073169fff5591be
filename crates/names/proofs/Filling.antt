-- The row, class by class: those below one have entered, and of each it is known whether its name was met before.
-- Assumes nothing.
use mathlib.Core.Path.{◌≡◌, refl, sym, ap, ◌∙◌, subst}
use mathlib.Core.Bool.{Bool, false, not, ◌&&◌}
use mathlib.Core.Logic.{◌⊎◌, inl, inr}
use mathlib.Core.List.{List, ◌++◌}
use Prim.Native.Nat.{ℕ, ◌+◌, ◌-◌, ◌≤◌, ◌<◌}
use native.Mathlib.Omega.{arith}
use native.Mathlib.Numerals.{add-one}
use lib.Dec.{T, ltb, ltb→lt, lt→ltb, nltb→le}
use lib.ListN.{length, get_or, set, drop, replicate, length-append, length-drop, length-replicate}
use Rattle.std.proofs.lemmas.List.{get_or_append_left, get_or-append_right, drop-replicate}
use Rattle.std.specs.Prelude.{Option}
use Rattle.std.specs.Option.{is_some}
use Rattle.spec.specs.Record.{class_name}
use Rattle.spec.specs.Sheet.{Group, class_record}
use Rattle.spec.specs.Refusals.{name_met}
use Rattle.spec.specs.Index.{index_places, home, free_from, entered, name_of, index_of, found_from, found_in, met_through}
use Rattle.theory.proofs.Indexing.{filled, met_is}
use Rattle.theory.specs.Claims.{Held}
use Rattle.laws.proofs.Bools.{decide, t_true, t_false}
use Rattle.laws.proofs.Rows.{same_all, values_are, get_or_values}
use Rattle.names.specs.Names.{met_before}

module _ (g : ℕ → Group) where
  -- what is held when the classes below c have entered, which are among n
  pub held : (c n : ℕ) → c ≤ n → c ≤ index_places → {row : List ℕ} → row ≡ index_of g c → Held n row
  held c n l k e =
      let w = (filled g c k).placed in
      subst (Held n) (sym e) (record { long = w.held.long; holds = λ p. elim (w.held.holds p) [ inl z ↦ inl z | inr h ↦ inr (omega (arith, h)) ] })

  -- class c, whose records are h and whose name is x
  module _ {c : ℕ} {h : Group} {x : List ℕ} (eh : h ≡ g c) (ex : x ≡ class_name (class_record h)) {row : List ℕ} (er : row ≡ index_of g c) {at : ℕ} (ea : at ≡ home x) where
    name_is : x ≡ name_of g c
    unfolding name_of
    name_is = ex ∙ ap (λ (q : Group). class_name (class_record q)) eh

    pub enters : {next : List ℕ} → next ≡ set row (free_from row index_places at) c → next ≡ index_of g (c + 1)
    unfolding index_of entered
    enters e = rw add-one (e ∙ rw (er, ea, name_is) refl)

    -- it is met if a class of its name is found
    pub met_now : c ≤ 256 → {o : Option ℕ} → o ≡ found_from g row x index_places at → {b : Bool} → b ≡ is_some o → b ≡ name_met g c (class_record (g c))
    unfolding met_through found_in
    met_now l e eb = eb ∙ ap is_some (e ∙ rw (er, ea, name_is) refl) ∙ met_is g c l

-- ---- the row of those that are met

-- it holds what is known of the first n, and false past them
pub met_are : (g : ℕ → Group) (n : ℕ) (front : List Bool) → n ≤ 256 → length front ≡ n → ((d : ℕ) → d < n → get_or front d false ≡ name_met g d (class_record (g d)))
    → front ++ drop n (replicate 256 false) ≡ met_before g n
unfolding met_before
met_are g n front few long known =
    values_are test 256 false (omega (arith, long, length-append front rest, length-drop n (replicate 256 false), length-replicate 256 false)) each
  where
    rest : List Bool
    rest = drop n (replicate 256 false)

    test : ℕ → Bool
    test c = ltb c n && name_met g c (class_record (g c))

    each : (k : ℕ) → k < 256 → get_or (front ++ rest) k false ≡ test k
    each k l = go (decide (ltb k n))
      where
        go : T (ltb k n) ⊎ T (not (ltb k n)) → get_or (front ++ rest) k false ≡ test k
        go (inl t) =
            let h = ltb→lt k n t in
            get_or_append_left front rest false k (omega (arith, long, h)) ∙ known k h ∙ sym (ap (λ (b : Bool). b && name_met g k (class_record (g k))) (t_true (ltb k n) t))
        go (inr t) =
            get_or-append_right front rest n k false long (nltb→le k n t)
            ∙ ap (λ (row : List Bool). get_or row (k - n) false) (drop-replicate n 256 false) ∙ same_all false (256 - n) (k - n)
            ∙ sym (ap (λ (b : Bool). b && name_met g k (class_record (g k))) (t_false (ltb k n) t))

-- whether class c is among them
pub met_entry : (g : ℕ → Group) (n : ℕ) {c : ℕ} → c < n → n ≤ 256 → get_or (met_before g n) c false ≡ name_met g c (class_record (g c))
unfolding met_before
met_entry g n {c} l few = get_or_values (λ c. ltb c n && name_met g c (class_record (g c))) 256 false c (omega arith) ∙ ap (λ (b : Bool). b && name_met g c (class_record (g c))) (t_true (ltb c n) (lt→ltb c n l))
