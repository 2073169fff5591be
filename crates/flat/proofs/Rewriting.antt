-- The row while verdicts are written, class by class.
-- Assumes nothing.
use mathlib.Core.Path.{◌≡◌, refl, sym, ap, ap₂, ◌∙◌}
use mathlib.Core.Bool.{Bool, true, false, ◌&&◌}
use mathlib.Core.List.{List}
use Prim.Native.Nat.{ℕ, ◌+◌, ◌-◌, ◌≤◌, ◌<◌}
use native.Mathlib.Decide.{ℕ_discrete}
use native.Mathlib.Omega.{arith}
use lib.Dec.{ltb, ltb→lt, nltb→le}
use lib.ListN.{get_or}
use borrow.Author.Tests.{lt-ltb, le-ltb}
use Rattle.spec.specs.Rules.{Verdict, verdict_of}
use Rattle.spec.specs.Verdicts.{verdict_at, user_verdict, flat_lines, flat_rewritten}
use Rattle.laws.proofs.Bools.{false_t, true_t}
use Rattle.theory.proofs.FlatRow.{rewritten_lines, rewritten_none, rewritten_same, rewritten_more}
use Rattle.sheets.specs.Sheets.{Pair, groups, library_count}
use Rattle.flat.specs.Row.{put_at, chosen}

pub record Rewriting (nlib n : ℕ) (v : ℕ → Verdict) (marks : List Bool) (before row : List ℕ) (c : ℕ) : Type 0 where
  pub low : nlib ≤ c
  pub high : c ≤ n
  pub now : row ≡ flat_rewritten (chosen nlib c marks) v before

-- ---- which classes are chosen

unmarked : (nlib c : ℕ) (marks : List Bool) (i : ℕ) → c ≤ nlib + i → chosen nlib c marks i ≡ false
unfolding chosen
unmarked nlib c marks i h = rw (le-ltb (nlib + i) c h)

-- whether class c is below makes no difference to other classes
others : (nlib c : ℕ) (marks : List Bool) (i : ℕ) → (nlib + i ≡ c → ⊥) → chosen nlib c marks i ≡ chosen nlib (c + 1) marks i
unfolding chosen
others nlib c marks i h = ap (λ (b : Bool). b && get_or marks (nlib + i) false) (at (ltb (nlib + i) c) refl)
  where
    at : (b : Bool) → ltb (nlib + i) c ≡ b → ltb (nlib + i) c ≡ ltb (nlib + i) (c + 1)
    at true e = let l : nlib + i < c = ltb→lt (nlib + i) c (true_t e) in e ∙ sym (lt-ltb (nlib + i) (c + 1) (omega arith))
    at false e = let l : c ≤ nlib + i = nltb→le (nlib + i) c (false_t e) in e ∙ sym (le-ltb (nlib + i) (c + 1) (omega arith))

here : (nlib c : ℕ) (marks : List Bool) (i : ℕ) → nlib + i ≡ c → get_or marks c false ≡ true → chosen nlib (c + 1) marks i ≡ true
unfolding chosen
here nlib c marks i e h = rw (e, lt-ltb c (c + 1) (omega arith), h)

kept : (nlib c : ℕ) (marks : List Bool) (i : ℕ) → get_or marks c false ≡ false → chosen nlib c marks i ≡ chosen nlib (c + 1) marks i
kept nlib c marks i h = go (ℕ_discrete (nlib + i) c)
  where
    go : Dec (nlib + i ≡ c) → chosen nlib c marks i ≡ chosen nlib (c + 1) marks i
    go (no n) = others nlib c marks i n
    go (yes e) = unmarked nlib c marks i (omega arith) ∙ sym (unfold chosen in rw (e, h) (and_no (ltb c (c + 1))))
      where
        and_no : (b : Bool) → (b && false) ≡ false
        and_no true = refl
        and_no false = refl

-- ---- the loop

pub rewrite_start : (nlib n : ℕ) (v : ℕ → Verdict) (marks : List Bool) (row : List ℕ) → nlib ≤ n → Rewriting nlib n v marks row row nlib
rewrite_start nlib n v marks row h = record { low = omega arith; high = h; now = rewritten_none v row (chosen nlib nlib marks) (λ i. false_t (unmarked nlib nlib marks i (omega arith))) }

module _ {nlib n : ℕ} {v : ℕ → Verdict} {marks : List Bool} {before row : List ℕ} {c : ℕ} (f : Rewriting nlib n v marks before row c) where
  pub lines_same : n - nlib ≤ flat_lines before → n - nlib ≤ flat_lines row
  lines_same h = omega (arith, ap flat_lines f.now, rewritten_lines (chosen nlib c marks) v before)

  pub rewrite_passed : c < n → get_or marks c false ≡ false → {row' : List ℕ} → row' ≡ row → Rewriting nlib n v marks before row' (c + 1)
  rewrite_passed h q e = record {
    low = omega (arith, f.low);
    high = omega arith;
    now = e ∙ f.now ∙ rewritten_same v before (chosen nlib c marks) (chosen nlib (c + 1) marks) (λ i. kept nlib c marks i q);
  }

  pub rewrite_put : c < n → get_or marks c false ≡ true → n - nlib ≤ flat_lines before → {w : Verdict} → w ≡ v (c - nlib) → {row' : List ℕ} → row' ≡ put_at (c - nlib) w row
      → Rewriting nlib n v marks before row' (c + 1)
  unfolding put_at
  rewrite_put h q room ew e =
      let z : nlib + (c - nlib) ≡ c = omega (arith, f.low) in
      record {
        low = omega (arith, f.low);
        high = omega arith;
        now =
            e ∙ ap₂ (put_at (c - nlib)) ew f.now
            ∙ rewritten_more v before (chosen nlib c marks) (chosen nlib (c + 1) marks) (c - nlib) (omega (arith, f.low)) (true_t (here nlib c marks (c - nlib) z q))
            (λ k ne. others nlib c marks k (λ z. ne (omega (arith, z))));
      }

-- the verdict of a user class is that of its place in the row
pub own_verdict : (p : Pair) {c : ℕ} → library_count p ≤ c → verdict_of (library_count p) (groups p) c ≡ user_verdict p.library p.user (c - library_count p)
unfolding user_verdict verdict_at
own_verdict p {c} h = ap (verdict_of (library_count p) (groups p)) (let e : c ≡ library_count p + (c - library_count p) = omega arith in e)
