-- Sets of markers as numbers below 256 (document 01, "Marks"; its word for a marker is mark).
-- Assumes nothing.
use Rattle.std.specs.Prelude.{Bool, not, ◌&&◌, ◌||◌, List, [], ◌∷◌, map, ℕ, ◌^◌, get_or}
use Rattle.std.specs.Int.Bits.{bit_or}
use Rattle.spec.specs.Lists.{all, keep, span}
use Rattle.spec.specs.Record.{bit}

-- "Bits: 0 Immutable, 1 Powerless, 2 Selfless, 3 Equatable, 4 Token, 5 Throwable, 6 Enum, 7 DeepSelfless"
abbrev pub Immutable : ℕ
Immutable = 0

abbrev pub Powerless : ℕ
Powerless = 1

abbrev pub Selfless : ℕ
Selfless = 2

abbrev pub Equatable : ℕ
Equatable = 3

abbrev pub Token : ℕ
Token = 4

abbrev pub Throwable : ℕ
Throwable = 5

abbrev pub Enum : ℕ
Enum = 6

abbrev pub DeepSelfless : ℕ
DeepSelfless = 7

unfoldable pub markers : List ℕ
markers = span 0 8

-- "Powerless gives Immutable; Token gives Immutable and Equatable; Throwable gives Powerless; Enum gives Equatable; DeepSelfless gives Selfless"
unfoldable pub gives : List (ℕ × ℕ)
gives =
    (Powerless, Immutable)
    ∷ (Token, Immutable) ∷ (Token, Equatable)
    ∷ (Throwable, Powerless)
    ∷ (Enum, Equatable)
    ∷ (DeepSelfless, Selfless)
    ∷ []

unfoldable pub implies : Bool → Bool → Bool
implies a b = not a || b

-- a set is "closed" if it holds what its markers give
unfoldable pub is_closed : ℕ → Bool
is_closed m = all (λ g. implies (bit g.0 m) (bit g.1 m)) gives

-- set s holds set m
unfoldable pub contains : ℕ → ℕ → Bool
contains s m = all (λ k. implies (bit k m) (bit k s)) markers

-- "joined"
unfoldable pub union : ℕ → ℕ → ℕ
union a b = bit_or a b

unfoldable pub union_all : List ℕ → ℕ
union_all [] = 0
union_all (m ∷ ms) = union m (union_all ms)

-- "A table of 256 entries gives for each set of marks the least closed set that holds it"
unfoldable pub closures : List ℕ
closures =
    0 ∷ 1 ∷ 3 ∷ 3 ∷ 4 ∷ 5 ∷ 7 ∷ 7 ∷ 8 ∷ 9 ∷ 11 ∷ 11 ∷ 12 ∷ 13 ∷ 15 ∷ 15 ∷
    25 ∷ 25 ∷ 27 ∷ 27 ∷ 29 ∷ 29 ∷ 31 ∷ 31 ∷ 25 ∷ 25 ∷ 27 ∷ 27 ∷ 29 ∷ 29 ∷ 31 ∷ 31 ∷
    35 ∷ 35 ∷ 35 ∷ 35 ∷ 39 ∷ 39 ∷ 39 ∷ 39 ∷ 43 ∷ 43 ∷ 43 ∷ 43 ∷ 47 ∷ 47 ∷ 47 ∷ 47 ∷
    59 ∷ 59 ∷ 59 ∷ 59 ∷ 63 ∷ 63 ∷ 63 ∷ 63 ∷ 59 ∷ 59 ∷ 59 ∷ 59 ∷ 63 ∷ 63 ∷ 63 ∷ 63 ∷
    72 ∷ 73 ∷ 75 ∷ 75 ∷ 76 ∷ 77 ∷ 79 ∷ 79 ∷ 72 ∷ 73 ∷ 75 ∷ 75 ∷ 76 ∷ 77 ∷ 79 ∷ 79 ∷
    89 ∷ 89 ∷ 91 ∷ 91 ∷ 93 ∷ 93 ∷ 95 ∷ 95 ∷ 89 ∷ 89 ∷ 91 ∷ 91 ∷ 93 ∷ 93 ∷ 95 ∷ 95 ∷
    107 ∷ 107 ∷ 107 ∷ 107 ∷ 111 ∷ 111 ∷ 111 ∷ 111 ∷ 107 ∷ 107 ∷ 107 ∷ 107 ∷ 111 ∷ 111 ∷ 111 ∷ 111 ∷
    123 ∷ 123 ∷ 123 ∷ 123 ∷ 127 ∷ 127 ∷ 127 ∷ 127 ∷ 123 ∷ 123 ∷ 123 ∷ 123 ∷ 127 ∷ 127 ∷ 127 ∷ 127 ∷
    132 ∷ 133 ∷ 135 ∷ 135 ∷ 132 ∷ 133 ∷ 135 ∷ 135 ∷ 140 ∷ 141 ∷ 143 ∷ 143 ∷ 140 ∷ 141 ∷ 143 ∷ 143 ∷
    157 ∷ 157 ∷ 159 ∷ 159 ∷ 157 ∷ 157 ∷ 159 ∷ 159 ∷ 157 ∷ 157 ∷ 159 ∷ 159 ∷ 157 ∷ 157 ∷ 159 ∷ 159 ∷
    167 ∷ 167 ∷ 167 ∷ 167 ∷ 167 ∷ 167 ∷ 167 ∷ 167 ∷ 175 ∷ 175 ∷ 175 ∷ 175 ∷ 175 ∷ 175 ∷ 175 ∷ 175 ∷
    191 ∷ 191 ∷ 191 ∷ 191 ∷ 191 ∷ 191 ∷ 191 ∷ 191 ∷ 191 ∷ 191 ∷ 191 ∷ 191 ∷ 191 ∷ 191 ∷ 191 ∷ 191 ∷
    204 ∷ 205 ∷ 207 ∷ 207 ∷ 204 ∷ 205 ∷ 207 ∷ 207 ∷ 204 ∷ 205 ∷ 207 ∷ 207 ∷ 204 ∷ 205 ∷ 207 ∷ 207 ∷
    221 ∷ 221 ∷ 223 ∷ 223 ∷ 221 ∷ 221 ∷ 223 ∷ 223 ∷ 221 ∷ 221 ∷ 223 ∷ 223 ∷ 221 ∷ 221 ∷ 223 ∷ 223 ∷
    239 ∷ 239 ∷ 239 ∷ 239 ∷ 239 ∷ 239 ∷ 239 ∷ 239 ∷ 239 ∷ 239 ∷ 239 ∷ 239 ∷ 239 ∷ 239 ∷ 239 ∷ 239 ∷
    255 ∷ 255 ∷ 255 ∷ 255 ∷ 255 ∷ 255 ∷ 255 ∷ 255 ∷ 255 ∷ 255 ∷ 255 ∷ 255 ∷ 255 ∷ 255 ∷ 255 ∷ 255 ∷ []

unfoldable pub closure : ℕ → ℕ
closure m = get_or closures m 0

-- every set of markers
unfoldable pub sets : List ℕ
sets = span 0 256

-- its markers, each as a set of its own
unfoldable pub singles : ℕ → List ℕ
singles m = map (λ k. 2 ^ k) (keep (λ k. bit k m) markers)

-- of the given closed sets, each that holds m holds its closure
unfoldable pub is_least_in : List ℕ → ℕ → Bool
is_least_in closed m = all (λ s. implies (contains s m) (contains s (closure m))) closed

-- "Marks that clash: Powerless with Token, Selfless with Equatable"
unfoldable pub clash : ℕ → Bool
clash m = (bit Powerless m && bit Token m) || (bit Selfless m && bit Equatable m)
