-- Reads one after the other, each into what is left of a buffer.
-- Assumes nothing.
use mathlib.Core.Path.{◌≡◌, sym, ap, ◌∙◌}
use mathlib.Core.List.{List, ◌++◌}
use Prim.Native.Nat.{ℕ, ◌+◌, ◌≤◌}
use native.Mathlib.Omega.{arith}
use lib.ListN.{length, take}
use lib.Seq.{length-take-le}
use Rattle.std.proofs.lemmas.List.{take-append-le, append_assoc}
use Rattle.std.proofs.Math.Seq.{take-append-add}
use Rattle.std.proofs.lemmas.Slice.{overwrites}
use Rattle.std.specs.Prelude.{Option, None, Some}
use Rattle.std.specs.Io.KnownBytes.{Consumes, Keeps}
use borrow.Rule.Slice.PartMut.{put_mid, post_of}

pub consumes_more : (a b c : Option (List ℕ)) (xs ys : List ℕ) → Consumes a b xs → Consumes b c ys → Consumes a c (xs ++ ys)
consumes_more None b c xs ys p q = tt
consumes_more (Some us) None c xs ys p q = elim p [ ]
consumes_more (Some us) (Some vs) None xs ys p q = elim q [ ]
consumes_more (Some us) (Some vs) (Some ws) xs ys p q = p ∙ ap (λ (z : List ℕ). xs ++ z) q ∙ sym (append_assoc xs ys ws)

pub consumes_kept : (a b c : Option (List ℕ)) (xs : List ℕ) → Consumes a b xs → Keeps b c → Consumes a c xs
consumes_kept None b c xs p q = tt
consumes_kept (Some us) None c xs p q = elim p [ ]
consumes_kept (Some us) (Some vs) None xs p q = elim q [ ]
consumes_kept (Some us) (Some vs) (Some ws) xs p q = p ∙ ap (λ (z : List ℕ). xs ++ z) (sym q)

-- the bytes in front of the part are as they were, and those of the part come after them
pub front_more : (row new : List ℕ) (done k n : ℕ) → done ≤ length row → n ≤ length new → take (done + n) (put_mid done k row new) ≡ take done row ++ take n new
front_more row new done k n h l =
    let front = take done row in
    ap (λ (m : ℕ). take (m + n) (put_mid done k row new)) (sym (length-take-le done row h)) ∙ take-append-add front (new ++ post_of done k row) n
    ∙ ap (λ (xs : List ℕ). front ++ xs) (take-append-le n new (post_of done k row) l)

pub room_more : (row new : List ℕ) (done k n : ℕ) → done ≤ length row → n ≤ length new → done + n ≤ length (put_mid done k row new)
room_more row new done k n h l =
    grind (arith, overwrites)
