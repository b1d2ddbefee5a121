-- Vectors of numbers: the two orders, sums.
use Rattle.std.specs.Prelude.{Bool, true, false, ◌&&◌, ◌||◌, not, List, [], ◌∷◌, ℕ, ◌+◌, eqb, ltb, leb}

-- at most as large everywhere: "matches or beats" (reference, section 2), and costs that keep their ceilings
unfoldable pub at_most : List ℕ → List ℕ → Bool
at_most [] ys = true
at_most (x ∷ xs) [] = true
at_most (x ∷ xs) (y ∷ ys) = leb x y && at_most xs ys

unfoldable pub same : List ℕ → List ℕ → Bool
same [] [] = true
same [] (y ∷ ys) = false
same (x ∷ xs) [] = false
same (x ∷ xs) (y ∷ ys) = eqb x y && same xs ys

-- "beats" (reference, section 2), which others call "dominates": at most as large everywhere, and different
abbrev pub beats : List ℕ → List ℕ → Bool
beats xs ys = at_most xs ys && not (same xs ys)

-- lexicographic order: cost vectors from objective 0 on, choices from variable 0 on
unfoldable pub earlier : List ℕ → List ℕ → Bool
earlier [] ys = false
earlier (x ∷ xs) [] = false
earlier (x ∷ xs) (y ∷ ys) = ltb x y || (eqb x y && earlier xs ys)

unfoldable pub added : List ℕ → List ℕ → List ℕ
added [] ys = []
added (x ∷ xs) [] = []
added (x ∷ xs) (y ∷ ys) = (x + y) ∷ added xs ys
