-- Document 01's words about classes as relations, with no search and no bound: references, supertypes, superclasses, root, lying inside, chains of BUILDS, captured variables.
-- Assumes nothing.
use Rattle.std.specs.Prelude.{◌≡◌, ◌≢◌, ℕ, suc, ◌≤◌, ◌<◌, T}
use mathlib.Core.List.{List, [], ◌∷◌, Memᴰ}
use Rattle.spec.specs.Record.{kind, bit, none16, is_kind, CLASS, IMPLEMENTS, USES, BUILDS, own_markers, superclass, encloser, target, index, references}
use Rattle.spec.specs.Sheet.{Group}
use Rattle.spec.specs.Markers.{gives}

-- ---- records of a group

-- record number k of a list is r
pub data At {A : Type 0} : List A → ℕ → A → Type 0 where
  here : {x : A} {xs : List A} → At (x ∷ xs) 0 x
  next : {x y : A} {xs : List A} {k : ℕ} → At xs k x → At (y ∷ xs) (suc k) x

-- document 02, C-13: "kinds inside a group never fall"
abbrev pub Rising : Group → Type 0
Rising g = (k : ℕ) (r s : List ℕ) → At g k r → At g (suc k) s → kind r ≤ kind s

-- a record of the group has that kind, and a number in it is v
pub record Says (kind : ℕ) (number : List ℕ → ℕ) (g : Group) (v : ℕ) : Type 0 where
  pub bytes : List ℕ
  pub member : Memᴰ bytes g
  pub of_kind : T (is_kind kind bytes)
  pub is : number bytes ≡ v

-- s is the superclass, e the encloser: "65,535 means none"
pub record Superclass (g : Group) (s : ℕ) : Type 0 where
  pub said : Says CLASS superclass g s
  pub some : s ≢ none16

pub record Encloser (g : Group) (e : ℕ) : Type 0 where
  pub said : Says CLASS encloser g e
  pub some : e ≢ none16

abbrev pub Implements : Group → ℕ → Type 0
Implements g i = Says IMPLEMENTS target g i

abbrev pub Builds : Group → ℕ → Type 0
Builds g m = Says BUILDS target g m

-- the group USES variable i of class d
pub record Uses (g : Group) (d i : ℕ) : Type 0 where
  pub bytes : List ℕ
  pub member : Memᴰ bytes g
  pub of_kind : T (is_kind USES bytes)
  pub owner : target bytes ≡ d
  pub variable : index bytes ≡ i

-- record k of the group is r, and it is number i of its kind: "Indexes count from 0 in record order"
pub data Nth (kind : ℕ) : Group → ℕ → ℕ → List ℕ → Type 0 where
  here : {r : List ℕ} {g : Group} → T (is_kind kind r) → Nth kind (r ∷ g) 0 0 r
  over : {r l : List ℕ} {g : Group} {i k : ℕ} → T (is_kind kind l) → Nth kind g i k r → Nth kind (l ∷ g) (suc i) (suc k) r
  past : {r x : List ℕ} {g : Group} {i k : ℕ} → (T (is_kind kind x) → ⊥) → Nth kind g i k r → Nth kind (x ∷ g) i (suc k) r

-- a record of the group names d
pub record References (g : Group) (d : ℕ) : Type 0 where
  pub bytes : List ℕ
  pub member : Memᴰ bytes g
  pub names : Memᴰ d (references bytes)

-- ---- places in a walk

-- a list of numbers comes before another: at the first place where they differ it has the lower one, or it ends there
pub data Before : List ℕ → List ℕ → Type 0 where
  ends : {y : ℕ} {ys : List ℕ} → Before [] (y ∷ ys)
  lower : {x y : ℕ} {xs ys : List ℕ} → x < y → Before (x ∷ xs) (y ∷ ys)
  same : {x : ℕ} {xs ys : List ℕ} → Before xs ys → Before (x ∷ xs) (x ∷ ys)

-- ---- chains. Each is read from a class c.

-- "C stands on D if D is C, or a chain of namings (any record) leads from C to D"
pub data Depends (group : ℕ → Group) (c : ℕ) : ℕ → Type 0 where
  self : Depends group c c
  onward : {d e : ℕ} → Depends group c d → References (group d) e → Depends group c e

-- c itself and "all supertypes": superclasses and interfaces, at any height
pub data Supertype (group : ℕ → Group) (c : ℕ) : ℕ → Type 0 where
  self : Supertype group c c
  above : {d e : ℕ} → Supertype group c d → Superclass (group d) e → Supertype group c e
  beside : {d e : ℕ} → Supertype group c d → Implements (group d) e → Supertype group c e

-- c "has" marker k by its overlay: an own marker of itself or a supertype, or one that such a marker gives
pub data Marked (group : ℕ → Group) (c : ℕ) : ℕ → Type 0 where
  own : {d k : ℕ} {r : List ℕ} → Supertype group c d → At (group d) 0 r → k < 8 → T (bit k (own_markers r)) → Marked group c k
  given : {j k : ℕ} → Marked group c j → Memᴰ (j, k) gives → Marked group c k

-- 02, C-16: "own class, then upward": h steps to the superclass, all of them to user classes, lead from c to t
pub data Lineage (nlib : ℕ) (group : ℕ → Group) (c : ℕ) : ℕ → ℕ → Type 0 where
  self : Lineage nlib group c 0 c
  up : {h s t : ℕ} → Lineage nlib group c h s → Superclass (group s) t → nlib ≤ t → Lineage nlib group c (suc h) t

-- "The walk ends at the first library superclass, called its root"
pub record Root (nlib : ℕ) (group : ℕ → Group) (c d : ℕ) : Type 0 where
  pub height : ℕ
  pub last : ℕ
  pub line : Lineage nlib group c height last
  pub above : Superclass (group last) d
  pub library : d < nlib

-- l "lies strictly inside" d
pub data Inside (group : ℕ → Group) (d : ℕ) : ℕ → Type 0 where
  direct : {l : ℕ} → Encloser (group l) d → Inside group d l
  deeper : {l e : ℕ} → Encloser (group l) e → Inside group d e → Inside group d l

-- "a chain from L, of no or more BUILDS steps", "and every class on the chain lies strictly inside D"
pub data Chain (group : ℕ → Group) (d l : ℕ) : ℕ → Type 0 where
  start : Inside group d l → Chain group d l l
  step : {m k : ℕ} → Chain group d l m → Builds (group m) k → Inside group d k → Chain group d l k

-- variable i of class d "is captured by L": such a chain "ends at a class that USES it"
pub record Captures (group : ℕ → Group) (l d i : ℕ) : Type 0 where
  pub last : ℕ
  pub chain : Chain group d l last
  pub uses : Uses (group last) d i
