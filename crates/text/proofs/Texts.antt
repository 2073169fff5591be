-- Texts written one after another into a buffer.
-- Assumes nothing.
use mathlib.Core.Path.{◌≡◌, refl, sym, ap, ◌∙◌, subst}
use mathlib.Core.List.{List, [], ◌++◌}
use Prim.Native.Nat.{ℕ}
use native.Mathlib.Omega.{arith}
use lib.ListN.{length, length-append}
use Rattle.text.specs.Text.{put_all, overlaid}
use Rattle.text.specs.Written.{Written, Writes}
use Rattle.text.specs.declared.Writer.{Writer}
use Rattle.text.proofs.Buffer.{put_length, put_append, put_nothing, put_text}

module _ {out : List ℕ} {at : ℕ} {out' : List ℕ} {after : ℕ} where
  -- the buffer's length stays
  pub same_size : {text : List ℕ} → Written out at text out' after → length out' ≡ length out
  same_size {text} w = ap length w.bytes ∙ put_length out at text

  pub same_text : {s t : List ℕ} → s ≡ t → Written out at s out' after → Written out at t out' after
  same_text e w = subst (λ (x : List ℕ). Written out at x out' after) e w

  pub no_text : out' ≡ out → after ≡ at → Written out at [] out' after
  unfolding put_all
  no_text e q = record { place = omega arith; bytes = e }

-- one text, then another
pub then : {out : List ℕ} {at : ℕ} {out' : List ℕ} {place : ℕ} {out'' : List ℕ} {after : ℕ} {s t : List ℕ}
    → Written out at s out' place → Written out' place t out'' after → Written out at (s ++ t) out'' after
then {out} {at} {s = s} {t = t} v w = record {
  place = w.place ∙ rw v.place (simp length-append (omega arith));
  bytes = w.bytes ∙ rw (v.place, v.bytes) (sym (put_append out at s t));
}

-- a text from the buffer's start
pub all_overlaid : (text out : List ℕ) → put_all out 0 text ≡ overlaid text out
all_overlaid text out = ap (λ (o : List ℕ). put_all o 0 text) (sym (put_nothing out)) ∙ put_text [] out text

pub from_start : {out : List ℕ} {text : List ℕ} {out' : List ℕ} {after : ℕ} → Written out 0 text out' after → (after ≡ length text) × (out' ≡ overlaid text out)
from_start {out} {text} w = (omega (arith, w.place), w.bytes ∙ all_overlaid text out)

-- ---- the same of a writer

module _ {w w' : Writer} where
  pub put_same : {s t : List ℕ} → s ≡ t → Writes w s w' → Writes w t w'
  put_same e p = record { same_reference = p.same_reference; written = same_text e p.written }

  pub put_then : {w'' : Writer} {s t : List ℕ} → Writes w s w' → Writes w' t w'' → Writes w (s ++ t) w''
  put_then p q = record { same_reference = q.same_reference ∙ p.same_reference; written = then p.written q.written }

pub put_none : {w : Writer} → Writes w [] w
put_none = record { same_reference = refl; written = no_text refl refl }
