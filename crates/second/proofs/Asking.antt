-- What records ask of a class by its number: how many records of a kind it has, and whether it is an interface.
-- Assumes nothing.
use mathlib.Core.Path.{◌≡◌, refl, sym, ap, ◌∙◌}
use mathlib.Core.Bool.{Bool, true, false, not}
use mathlib.Core.Logic.{◌⊎◌, inl, inr}
use mathlib.Core.List.{List, [], ◌∷◌, ◌++◌}
use Prim.Native.Nat.{ℕ, ◌≤◌, ◌<◌}
use native.Mathlib.Omega.{arith}
use lib.Dec.{T, ltb, ltb→lt, nltb→le}
use lib.ListN.{length, get_or, get_or-append, length-append}
use Rattle.spec.specs.Lists.{keep}
use Rattle.spec.specs.Record.{is_kind, LOCAL, MEMBER}
use Rattle.spec.specs.Sheet.{Group, of_kind}
use Rattle.laws.proofs.Bools.{decide}
use Rattle.laws.proofs.All.{keep_yes, keep_no}
use Rattle.records.specs.Kinds.{kind_number}
use Rattle.groups.specs.Groups.{sheet_number}
use Rattle.groups.proofs.Few.{group_few}
use Rattle.groups.proofs.Held.{library_number, user_number}
use Rattle.groups.proofs.Fitting.{library_locals, user_members}
use Rattle.refusals.specs.declared.Side.{Side}
use Rattle.refusals.specs.declared.Side.TheVariants.{Library, User}
use Rattle.refusals.specs.Refusals.{sheet_number as side_number}
use Rattle.sheets.specs.Sheets.{Pair, Passed, count, groups, library_count}
use Rattle.second.specs.declared.register.Asked.{Asked}
use Rattle.second.specs.Second.{indexed_kind, indexed_number, asked_of, Heads}
use Rattle.sheets.proofs.Indexes.{indexed}

-- no more of a kind than its records, which are few
kept_few : (k : ℕ) (h : Group) → length (of_kind k h) ≤ length h
unfolding of_kind keep
kept_few k [] = omega arith
kept_few k (r ∷ rs) = go (is_kind k r) refl (kept_few k rs)
  where
    go : (b : Bool) → is_kind k r ≡ b → length (of_kind k rs) ≤ length rs → length (of_kind k (r ∷ rs)) ≤ length (r ∷ rs)
    go true e h = omega (arith, ap length (keep_yes (is_kind k) r rs e))
    go false e h = omega (arith, ap length (keep_no (is_kind k) r rs e))

pub indexed_low : {p : Pair} → Passed p → (k c : ℕ) → length (of_kind k (groups p c)) < 256
indexed_low {p} w k c = omega (arith, kept_few k (groups p c), group_few (indexed w) c)

-- ---- the sheet of a class, by its number

library_side : (s : Side) → side_number s ≡ 0 → s ≡ Library
library_side Library e = refl
library_side User e = absurd (omega arith)

user_side : (s : Side) → side_number s ≡ 1 → s ≡ User
user_side Library e = absurd (omega arith)
user_side User e = refl

module _ {nlib c : ℕ} where
  library_of : 0 ≡ sheet_number nlib c → c < nlib
  library_of e = go (decide (ltb c nlib))
    where
      go : T (ltb c nlib) ⊎ T (not (ltb c nlib)) → c < nlib
      go (inl t) = ltb→lt c nlib t
      go (inr t) = absurd (omega (arith, user_number nlib c (nltb→le c nlib t)))

  user_of : 1 ≡ sheet_number nlib c → nlib ≤ c
  user_of e = go (decide (ltb c nlib))
    where
      go : T (ltb c nlib) ⊎ T (not (ltb c nlib)) → nlib ≤ c
      go (inl t) = absurd (omega (arith, library_number nlib c (ltb→lt c nlib t)))
      go (inr t) = nltb→le c nlib t

pub kind_is : (p : Pair) (c : ℕ) (s : Side) → side_number s ≡ sheet_number (library_count p) c → kind_number (indexed_kind s) ≡ indexed_number p c
unfolding sheet_number
kind_is p c s e = go (ltb c (library_count p)) s e
  where
    go : (b : Bool) (s : Side) → side_number s ≡ (elim b as (λ (_ : Bool). ℕ) [ true ↦ 0 | false ↦ 1 ]) → kind_number (indexed_kind s) ≡ (elim b as (λ (_ : Bool). ℕ) [ true ↦ MEMBER | false ↦ LOCAL ])
    go true s e = ap (λ (x : Side). kind_number (indexed_kind x)) (library_side s e)
    go false s e = ap (λ (x : Side). kind_number (indexed_kind x)) (user_side s e)

-- ---- the row

module _ {p : Pair} {row : List Asked} (w : Heads p row) (t : ℕ) (h : t < count p) where
  -- in a class of the sheet, and of the other one
  pub indexed_here : (s : Side) → side_number s ≡ sheet_number (library_count p) t → (e : Asked) → (get_or row t e).indexed ≡ length (of_kind (kind_number (indexed_kind s)) (groups p t))
  indexed_here s q e = ap (λ (a : Asked). a.indexed) (w.heads t e h) ∙ ap (λ (k : ℕ). length (of_kind k (groups p t))) (sym (kind_is p t s q))

  pub indexed_none : (s x : Side) → side_number x ≡ sheet_number (library_count p) t → (x ≡ s → ⊥) → 0 ≡ length (of_kind (kind_number (indexed_kind s)) (groups p t))
  indexed_none Library Library q n = absurd (n refl)
  indexed_none Library User q n = sym (w.members t (user_of q) h)
  indexed_none User Library q n = sym (w.locals t (library_of q))
  indexed_none User User q n = absurd (n refl)

pub heads_are : {p : Pair} → Passed p → (front rest : List Asked) → length front ≡ count p → ((d : ℕ) (e : Asked) → d < count p → get_or front d e ≡ asked_of p d) → Heads p (front ++ rest)
heads_are w front rest l f =
    record {
      long = omega (arith, l, length-append front rest);
      heads = λ d e h. get_or-append front rest e d (omega (arith, l)) ∙ f d e h;
      locals = λ d h. library_locals (indexed w) h;
      members = λ d h k. user_members (indexed w) h k;
    }
