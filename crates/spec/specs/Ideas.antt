-- Four ideas of document 01 "that read well and fail", and one that request C-16 rules out, as a list of claims that each of them would break. All use its library L.
-- Assumes nothing.
use Rattle.std.specs.Prelude.{List, [], ◌∷◌, ◌++◌, ℕ, replicate}
use Rattle.spec.specs.Examples.{Claim, judges, replaces, none², number, class, x, v, uses, builds}

-- class 1 is Immutable, with a static field or without; 2 and 3 have it from their superclass; 4 is Immutable and holds a 3; 5 is by itself
abbrev pub chain : List ℕ → List ℕ
chain first = first ++ (class 0 1 none² 0x42 ++ (class 0 2 none² 0x43 ++ (class 1 0 none² 0x44 ++ (x 1 0 0 3 ++ class 0 0 none² 0x45))))

unfoldable pub ideas : List Claim
ideas =
    -- "a final array taken as immutable": an Immutable class with a final int array
    judges (class 1 0 none² 0x41 ++ x 1 1 4 0) 1 1 (7 ∷ 1 ∷ 1 ∷ [])
    -- "captures counted without the BUILDS chain": 2 builds 3, 3 builds 4, and 4 uses the LOCAL of 1, all inside 1
    ∷ judges (class 0 0 none² 0x41 ++ (v 0 ++ (class 1 0 (number 1) 0x42 ++ (builds 3 ++ (class 0 0 (number 1) 0x43 ++ (builds 4 ++ (class 0 0 (number 1) 0x44 ++ uses 1 0)))))))
    4 1 (0 ∷ 0 ∷ 0 ∷ 7 ∷ 1 ∷ 1 ∷ 0 ∷ 0 ∷ 0 ∷ 0 ∷ 0 ∷ 0 ∷ [])
    -- "a subclass judged by its own fields only": a private mutable field of the superclass; so in a class below
    ∷ judges (class 0 0 none² 0x41 ++ (x 0 0 4 0 ++ (class 1 1 none² 0x42 ++ (x 1 0 4 0 ++ class 0 2 none² 0x43)))) 3 2 (0 ∷ 0 ∷ 0 ∷ 7 ∷ 1 ∷ 1 ∷ 7 ∷ 1 ∷ 1 ∷ [])
    -- the lowest place, or the lowest class, and not the first in the walk: 2 lies in 1 and captures its LOCAL, but its own field comes first
    ∷ judges (class 0 0 none² 0x41 ++ (v 0 ++ (class 1 0 (number 1) 0x42 ++ (x 0 0 4 0 ++ uses 1 0)))) 2 1 (0 ∷ 0 ∷ 0 ∷ 7 ∷ 1 ∷ 2 ∷ [])
    -- "a replacement rejudging only the classes that name the replaced one directly": 1 loses its marker and a static field; 4, three references away, is spoilt
    ∷ replaces (chain (class 1 0 none² 0x41 ++ x 5 0 4 0)) (replicate 15 0) 1 (class 0 0 none² 0x41)
    4 (chain (class 0 0 none² 0x41) ++ replicate 11 0) (replicate 9 0 ++ (7 ∷ 1 ∷ 4 ∷ replicate 3 0))
    ∷ []
