-- Rows of entries, and the least entry that a class draws. Both dependents and captured variables are found so.
-- An entry stands for a variable: 256 times its owner, a class number, plus its index there; 65,535 is none. 0 is the mark in a search for dependents.
-- A lane belongs to one marker and holds 256 entries, one a class; a row is lane after lane, two bytes an entry.
-- Two functions stand for the sheets: step m lists the classes that m draws from, outer m is the class that encloses m.
-- Only the n classes below n and the first `lanes` lanes count.
-- Assumes nothing.
use Rattle.std.specs.Prelude.{◌≡◌, Bool, true, false, ◌&&◌, ◌||◌, ◌⊎◌, ℕ, zero, suc, ◌+◌, ◌*◌, ◌-◌, ◌/◌, ◌≤◌, ◌<◌, eqb, ltb, length, get_or, set}
use mathlib.Core.List.{List, [], ◌∷◌, Memᴰ}

-- the entries that bytes hold, the low byte first; a last byte by itself belongs to none
unfoldable pub words : List ℕ → List ℕ
words [] = []
words (x ∷ []) = []
words (x ∷ y ∷ s) = (x + 256 * y) ∷ words s

-- a lane has room for the n classes, and the bytes for that many lanes
pub record Room (n lanes : ℕ) (bytes : List ℕ) : Type 0 where
  pub few : n ≤ 256
  pub long : lanes * 512 ≤ length bytes

-- ---- enclosers

-- class m lies strictly inside class x; a number that is not below m encloses nothing
pub data Nested (outer : ℕ → ℕ) (x : ℕ) : ℕ → Type 0 where
  direct : {m : ℕ} → outer m ≡ x → x < m → Nested outer x m
  deeper : {m e : ℕ} → outer m ≡ e → e < m → Nested outer x e → Nested outer x m

-- the row of marks holds true for the enclosers of m and for nothing else
pub record Enclosers (outer : ℕ → ℕ) (m : ℕ) (marks : List Bool) : Type 0 where
  pub only : (x : ℕ) → get_or marks x false ≡ true → Nested outer x m
  pub every : (x : ℕ) → Nested outer x m → get_or marks x false ≡ true

-- m may have the entry y: its owner encloses m; or it is 0, the mark, which any class may have
abbrev pub OwnerFits : (ℕ → ℕ) → ℕ → ℕ → Type 0
OwnerFits outer y m = (y ≡ 0) ⊎ Nested outer (y / 256) m

-- the same, asked of a row of marks
unfoldable pub fits_row : List Bool → ℕ → Bool
fits_row marks y = eqb y 0 || get_or marks (y / 256) false

-- ---- what is to be found

-- the entry of class m in lane k
abbrev pub entry_at : List ℕ → ℕ → ℕ → ℕ
entry_at s k m = get_or s (k * 256 + m) 65535

-- a chain of steps leads from m to a class whose seed is y, and y fits each class on it
pub data Draws (step : ℕ → List ℕ) (outer : ℕ → ℕ) (n : ℕ) (seed : ℕ → ℕ) (y : ℕ) : ℕ → Type 0 where
  own : {m : ℕ} → seed m ≡ y → OwnerFits outer y m → Draws step outer n seed y m
  via : {m t : ℕ} → OwnerFits outer y m → Memᴰ t (step m) → t < n → Draws step outer n seed y t → Draws step outer n seed y m

-- each seed in the row g fits its class
unfoldable pub SeedsFit : (ℕ → ℕ) → ℕ → ℕ → List ℕ → Type 0
SeedsFit outer n lanes g = (k m : ℕ) → k < lanes → m < n → entry_at g k m < 65535 → OwnerFits outer (entry_at g k m) m

-- each entry in the row s is drawn from the seeds in the row g
unfoldable pub Sound : (ℕ → List ℕ) → (ℕ → ℕ) → ℕ → ℕ → List ℕ → List ℕ → Type 0
Sound step outer n lanes g s = (k m : ℕ) → k < lanes → m < n → entry_at s k m < 65535 → Draws step outer n (entry_at g k) (entry_at s k m) m

-- place i of a row is no entry that counts
unfoldable pub Other : ℕ → ℕ → ℕ → Type 0
Other n lanes i = (k m : ℕ) → k < lanes → m < n → i ≡ k * 256 + m → ⊥

-- the row s holds, for each class and lane, the least entry that the class draws from the seeds in g, and 65,535 where it draws none
pub record Least (step : ℕ → List ℕ) (outer : ℕ → ℕ) (n lanes : ℕ) (g s : List ℕ) : Type 0 where
  pub sound : (k m : ℕ) → k < lanes → m < n → entry_at s k m < 65535 → Draws step outer n (entry_at g k) (entry_at s k m) m
  pub least : (k m y : ℕ) → k < lanes → m < n → Draws step outer n (entry_at g k) y m → entry_at s k m ≤ y
  pub down : (i : ℕ) → get_or s i 65535 ≤ get_or g i 65535
  pub kept : (i : ℕ) → Other n lanes i → get_or s i 65535 ≡ get_or g i 65535

-- ---- how far the search has come

-- m has taken what t has for it in lane k
unfoldable pub Settled : (ℕ → ℕ) → ℕ → ℕ → ℕ → List ℕ → ℕ → Type 0
Settled outer n k m s t = t < n → entry_at s k t < 65535 → OwnerFits outer (entry_at s k t) m → entry_at s k m ≤ entry_at s k t

-- m has taken what any class that it draws from has for it
unfoldable pub SettledAt : (ℕ → List ℕ) → (ℕ → ℕ) → ℕ → ℕ → ℕ → List ℕ → Type 0
SettledAt step outer n lanes m s = (k t : ℕ) → k < lanes → Memᴰ t (step m) → Settled outer n k m s t

unfoldable pub AllSettled : (ℕ → List ℕ) → (ℕ → ℕ) → ℕ → ℕ → List ℕ → Type 0
AllSettled step outer n lanes s = (m : ℕ) → m < n → SettledAt step outer n lanes m s

-- the sum of a row: each change lowers it, so the search ends
unfoldable pub sum_of : List ℕ → ℕ
sum_of [] = 0
sum_of (x ∷ xs) = x + sum_of xs

-- A part of the search leads from the row s₀ to the row s. It answers whether it changed anything; if not, P holds of the row.
pub record Run (step : ℕ → List ℕ) (outer : ℕ → ℕ) (n lanes : ℕ) (P : List ℕ → Type 0) (s₀ s : List ℕ) (r : Bool) : Type 0 where
  pub keeps : (g : List ℕ) → Sound step outer n lanes g s₀ → Sound step outer n lanes g s
  pub down : (i : ℕ) → get_or s i 65535 ≤ get_or s₀ i 65535
  pub kept : (i : ℕ) → Other n lanes i → get_or s i 65535 ≡ get_or s₀ i 65535
  pub less : r ≡ true → sum_of s < sum_of s₀
  pub still : r ≡ false → s ≡ s₀
  pub closed : r ≡ false → P s₀

-- ---- one class draws from one other

-- in lane k class t has an entry that is lower than that of m and fits m
unfoldable pub lowers : List Bool → ℕ → ℕ → ℕ → List ℕ → Bool
lowers marks m t k row = ltb (entry_at row k t) (entry_at row k m) && fits_row marks (entry_at row k t)

-- then m takes it, and nothing else changes
unfoldable pub drawn : List Bool → ℕ → ℕ → ℕ → List ℕ → List ℕ
drawn marks m t k row = elim (lowers marks m t k row) [ true ↦ set row (k * 256 + m) (entry_at row k t) | false ↦ row ]

-- the same in the first `lanes` lanes, one after another; and whether any of them changes
unfoldable pub drawn_lanes : List Bool → ℕ → ℕ → ℕ → List ℕ → List ℕ
drawn_lanes marks m t zero row = row
drawn_lanes marks m t (suc k) row = drawn marks m t k (drawn_lanes marks m t k row)

unfoldable pub drew_lanes : List Bool → ℕ → ℕ → ℕ → List ℕ → Bool
drew_lanes marks m t zero row = false
drew_lanes marks m t (suc k) row = drew_lanes marks m t k row || lowers marks m t k (drawn_lanes marks m t k row)

-- a number that is no class offers nothing in any lane
unfoldable pub lanes_of : ℕ → ℕ → ℕ → ℕ
lanes_of n lanes t = elim (ltb t n) [ true ↦ lanes | false ↦ 0 ]

-- the i-th class of a sweep upwards or downwards
unfoldable pub swept_of : Bool → ℕ → ℕ → ℕ
swept_of true n i = i
swept_of false n i = n - 1 - i
