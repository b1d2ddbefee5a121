-- Bytes for the rows: the three records, written without the encoding of the definitions.
use mathlib.Core.List.{List, [], ◌∷◌, ◌++◌}
use Prim.Native.Nat.{ℕ, ◌/◌, ◌%◌}
use lib.ListN.{length}

-- a number in four bytes, and several
abbrev pub word : ℕ → List ℕ
word x = x % 256 ∷ x / 256 % 256 ∷ x / 65536 % 256 ∷ x / 16777216 ∷ []

abbrev pub words : List ℕ → List ℕ
words [] = []
words (x ∷ xs) = word x ++ words xs

-- `HD` with n, p, r and ceilings; a `DO` for each size; `CF` with objective, scope and costs
abbrev pub head : ℕ → ℕ → ℕ → List ℕ → List ℕ
head n p r ceilings = 72 ∷ 68 ∷ n ∷ p ∷ r % 256 ∷ r / 256 ∷ words ceilings

abbrev pub domains : List ℕ → List ℕ
domains [] = []
domains (d ∷ ds) = 68 ∷ 79 ∷ d ∷ domains ds

abbrev pub table : ℕ → List ℕ → List ℕ → List ℕ
table objective scope costs = 67 ∷ 70 ∷ objective ∷ length scope ∷ scope ++ words costs

abbrev pub joined : List (List ℕ) → List ℕ
joined [] = []
joined (xs ∷ xss) = xs ++ joined xss

-- a problem of ceilings, domain sizes and `CF` records
abbrev pub problem : List ℕ → List ℕ → List (List ℕ) → List ℕ
problem ceilings ds tables = head (length ds) (length ceilings) (length tables) ceilings ++ domains ds ++ joined tables
