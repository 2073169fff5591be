-- Records in bytes: the records between two of them, and a class's bytes, which are its records end to end.
-- Assumes nothing.
use Rattle.std.specs.Prelude.{◌≡◌, Bool, true, false, ◌&&◌, List, [], ◌∷◌, ℕ, ◌+◌, ◌-◌, ◌≤◌, T, eqb, leb, length, get_or, take, drop}
use Rattle.spec.specs.Record.{is_kind, length_fits}
use Rattle.spec.specs.Sheet.{Group, records_of, whole_end}
use Rattle.laws.proofs.All.{All}

-- ---- one record

-- a record of the kind may have the length
unfoldable pub size_fits : ℕ → ℕ → Bool
size_fits k n = get_or
    (false
    ∷ (leb 13 n && leb n 112)
    ∷ eqb n 6
    ∷ (leb 11 n && leb n 110)
    ∷ (leb 9 n && leb n 108)
    ∷ eqb n 8
    ∷ eqb n 6
    ∷ (leb 7 n && leb n 106)
    ∷ eqb n 8
    ∷ []) k false

-- ---- records end to end

-- the records between two bytes of a sheet
unfoldable pub between : List ℕ → ℕ → ℕ → List (List ℕ)
between s at end = records_of (take (end - at) (drop at s))

-- the bytes between the two are whole records
pub record Tiled (s : List ℕ) (at end : ℕ) : Type 0 where
  pub ordered : at ≤ end
  pub within : end ≤ length s
  pub whole : whole_end (take (end - at) (drop at s)) ≡ end - at

-- the bytes from `at` up to `end` are whole records of lengths that their kinds can have
pub record AtRecord (s : List ℕ) (end at : ℕ) : Type 0 where
  pub tiled : Tiled s at end
  pub small : end ≤ 32768
  pub sizes : All (λ r. T (length_fits r)) (between s at end)

-- bytes that are the records of a group end to end
pub record Carries (bytes : List ℕ) (h : Group) : Type 0 where
  pub place : AtRecord bytes (length bytes) 0
  pub records : between bytes 0 (length bytes) ≡ h

-- the byte where number i of a kind begins among records of which the first begins at `at`; the byte after the last one if there is none
unfoldable pub nth_byte : ℕ → ℕ → ℕ → Group → ℕ
nth_byte kind i at [] = at
nth_byte kind i at (r ∷ rs) = elim (is_kind kind r) [
  | true ↦ elim (eqb i 0) [ true ↦ at | false ↦ nth_byte kind (i - 1) (at + length r) rs ]
  | false ↦ nth_byte kind i (at + length r) rs
]
