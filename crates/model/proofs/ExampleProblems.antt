-- The example problems of the rows, as bytes.
use mathlib.Core.List.{List, [], ◌∷◌}
use Prim.Native.Nat.{ℕ}
use Rattle.model.specs.Costs.{forbidden}
use Rattle.model.proofs.ExampleBytes.{table, problem}

-- The problems of the reference, section 12, by their ceilings.
abbrev pub colours : ℕ → ℕ → List ℕ
colours c e =
    problem (c ∷ e ∷ []) (2 ∷ 2 ∷ 2 ∷ []) (
    table 0 (0 ∷ 1 ∷ []) (1 ∷ 0 ∷ 0 ∷ 1 ∷ [])
    ∷ table 0 (0 ∷ 2 ∷ []) (3 ∷ 0 ∷ 0 ∷ 3 ∷ [])
    ∷ table 0 (1 ∷ 2 ∷ []) (6 ∷ 0 ∷ 0 ∷ 6 ∷ [])
    ∷ table 1 (0 ∷ 1 ∷ []) (0 ∷ 6 ∷ 6 ∷ 0 ∷ [])
    ∷ table 1 (0 ∷ 2 ∷ []) (0 ∷ 3 ∷ 3 ∷ 0 ∷ [])
    ∷ table 1 (1 ∷ 2 ∷ []) (0 ∷ 1 ∷ 1 ∷ 0 ∷ [])
    ∷ [])

-- n = p = 1, r = 0, by the domain size and the ceiling
abbrev pub bare : ℕ → ℕ → List ℕ
bare d ceiling = problem (ceiling ∷ []) (d ∷ []) []

abbrev pub three : ℕ → ℕ → List ℕ
three c e = problem (c ∷ e ∷ []) (3 ∷ []) (table 0 (0 ∷ []) (0 ∷ 1 ∷ 2 ∷ []) ∷ table 1 (0 ∷ []) (2 ∷ 1 ∷ 0 ∷ []) ∷ [])

abbrev pub pair_tables : List (List ℕ)
pair_tables =
    table 0 (0 ∷ []) (0 ∷ 1 ∷ []) ∷ table 1 (0 ∷ []) (1 ∷ 0 ∷ []) ∷ table 0 (1 ∷ []) (0 ∷ 1 ∷ [])
    ∷ table 1 (1 ∷ []) (1 ∷ 0 ∷ []) ∷ []

abbrev pub pair : ℕ → ℕ → List ℕ
pair c e = problem (c ∷ e ∷ []) (2 ∷ 2 ∷ []) pair_tables

-- the scopes (1,0) and (0,1)
abbrev pub turned : List ℕ
turned =
    problem (9 ∷ 9 ∷ []) (2 ∷ 3 ∷ []) (
    table 0 (1 ∷ 0 ∷ []) (4 ∷ 1 ∷ 3 ∷ 5 ∷ 2 ∷ 0 ∷ []) ∷ table 1 (0 ∷ 1 ∷ []) (0 ∷ 3 ∷ 1 ∷ 2 ∷ 6 ∷ 5 ∷ []) ∷ [])

-- Pair with an entry of arity 0 in front: the half that has it loses a point to the first ceiling
abbrev pub pair_and_constant : List ℕ
pair_and_constant = problem (1 ∷ 9 ∷ []) (2 ∷ 2 ∷ []) (table 0 [] (1 ∷ []) ∷ pair_tables)

-- p = 4, unequal domains, arity 0 to 3; to read a table in another order gives other points and another bound
abbrev pub mixed : List ℕ
mixed =
    problem (9 ∷ 9 ∷ 9 ∷ 9 ∷ []) (2 ∷ 3 ∷ 2 ∷ []) (
    table 0 (0 ∷ 1 ∷ 2 ∷ []) (9 ∷ 5 ∷ 8 ∷ 3 ∷ 5 ∷ 1 ∷ 0 ∷ 3 ∷ 4 ∷ 9 ∷ 9 ∷ 3 ∷ [])
    ∷ table 1 (0 ∷ 1 ∷ []) (1 ∷ 5 ∷ 2 ∷ 4 ∷ 7 ∷ 0 ∷ [])
    ∷ table 2 (1 ∷ 2 ∷ []) (0 ∷ 5 ∷ 1 ∷ 4 ∷ 5 ∷ 0 ∷ [])
    ∷ table 3 (2 ∷ []) (2 ∷ 2 ∷ [])
    ∷ table 3 [] (5 ∷ [])
    ∷ [])

-- the same problem with scopes that do not rise, and tables to fit
abbrev pub mixed_turned : List ℕ
mixed_turned =
    problem (9 ∷ 9 ∷ 9 ∷ 9 ∷ []) (2 ∷ 3 ∷ 2 ∷ []) (
    table 0 (2 ∷ 0 ∷ 1 ∷ []) (9 ∷ 8 ∷ 5 ∷ 0 ∷ 4 ∷ 9 ∷ 5 ∷ 3 ∷ 1 ∷ 3 ∷ 9 ∷ 3 ∷ [])
    ∷ table 1 (1 ∷ 0 ∷ []) (1 ∷ 4 ∷ 5 ∷ 7 ∷ 2 ∷ 0 ∷ [])
    ∷ table 2 (2 ∷ 1 ∷ []) (0 ∷ 1 ∷ 5 ∷ 5 ∷ 4 ∷ 0 ∷ [])
    ∷ table 3 (2 ∷ []) (2 ∷ 2 ∷ [])
    ∷ table 3 [] (5 ∷ [])
    ∷ [])

-- costs and ceilings that need the second, third and fourth byte; sums that need more than four
abbrev pub large : List ℕ
large =
    problem (256 ∷ 65536 ∷ 16777216 ∷ forbidden ∷ []) (3 ∷ []) (
    table 0 (0 ∷ []) (0 ∷ 0 ∷ 256 ∷ [])
    ∷ table 1 (0 ∷ []) (0 ∷ 0 ∷ 65536 ∷ [])
    ∷ table 2 (0 ∷ []) (0 ∷ 0 ∷ 16777216 ∷ [])
    ∷ table 3 (0 ∷ []) (forbidden ∷ forbidden ∷ 5 ∷ [])
    ∷ table 3 (0 ∷ []) (2 ∷ 0 ∷ 5 ∷ [])
    ∷ [])

-- a vector beaten in one objective and equal in the other, and two equal vectors
abbrev pub ties : List ℕ
ties = problem (9 ∷ 9 ∷ []) (3 ∷ []) (table 0 (0 ∷ []) (1 ∷ 1 ∷ 1 ∷ []) ∷ table 1 (0 ∷ []) (2 ∷ 1 ∷ 1 ∷ []) ∷ [])

-- 72 choices of costs i and 71 - i; the first ceiling says how many are consistent
abbrev stair_tables : List (List ℕ)
stair_tables =
    table 0 (0 ∷ []) (0 ∷ 9 ∷ 18 ∷ 27 ∷ 36 ∷ 45 ∷ 54 ∷ 63 ∷ [])
    ∷ table 0 (1 ∷ []) (0 ∷ 3 ∷ 6 ∷ [])
    ∷ table 0 (2 ∷ []) (0 ∷ 1 ∷ 2 ∷ [])
    ∷ table 1 (0 ∷ []) (63 ∷ 54 ∷ 45 ∷ 36 ∷ 27 ∷ 18 ∷ 9 ∷ 0 ∷ [])
    ∷ table 1 (1 ∷ []) (6 ∷ 3 ∷ 0 ∷ [])
    ∷ table 1 (2 ∷ []) (2 ∷ 1 ∷ 0 ∷ [])
    ∷ []

abbrev pub stairs : ℕ → List ℕ
stairs c = problem (c ∷ 71 ∷ []) (8 ∷ 3 ∷ 3 ∷ []) stair_tables

-- the same with a variable 3 of one value, whose costs put every sum over a ceiling
abbrev pub stairs_over : ℕ → ℕ → List ℕ
stairs_over c cost =
    problem (c ∷ 71 ∷ []) (8 ∷ 3 ∷ 3 ∷ 1 ∷ []) (table 0 (3 ∷ []) (cost ∷ []) ∷ table 1 (3 ∷ []) (1 ∷ []) ∷ stair_tables)

-- records over variables 0 and 2, and over 1
abbrev pub interleaved : List ℕ
interleaved =
    problem (8 ∷ 8 ∷ []) (2 ∷ 3 ∷ 2 ∷ []) (
    table 0 (0 ∷ 2 ∷ []) (5 ∷ 1 ∷ 3 ∷ 0 ∷ [])
    ∷ table 1 (0 ∷ 2 ∷ []) (0 ∷ 2 ∷ 1 ∷ 4 ∷ [])
    ∷ table 0 (1 ∷ []) (4 ∷ 0 ∷ 2 ∷ [])
    ∷ table 1 (1 ∷ []) (0 ∷ 3 ∷ 1 ∷ [])
    ∷ [])

-- the same with scopes that fall, and tables to fit
abbrev pub interleaved_turned : List ℕ
interleaved_turned =
    problem (8 ∷ 8 ∷ []) (2 ∷ 3 ∷ 2 ∷ []) (
    table 0 (2 ∷ 0 ∷ []) (5 ∷ 3 ∷ 1 ∷ 0 ∷ [])
    ∷ table 1 (2 ∷ 0 ∷ []) (0 ∷ 1 ∷ 2 ∷ 4 ∷ [])
    ∷ table 0 (1 ∷ []) (4 ∷ 0 ∷ 2 ∷ [])
    ∷ table 1 (1 ∷ []) (0 ∷ 3 ∷ 1 ∷ [])
    ∷ [])

-- four objects, each taken or left; forbidden pairs, and three objectives
abbrev pub objects : List ℕ
objects =
    problem (12 ∷ 100 ∷ 100 ∷ []) (2 ∷ 2 ∷ 2 ∷ 2 ∷ []) (
    table 0 (0 ∷ 2 ∷ []) (forbidden ∷ 0 ∷ 0 ∷ forbidden ∷ [])
    ∷ table 0 (2 ∷ 3 ∷ []) (forbidden ∷ 0 ∷ 0 ∷ 0 ∷ [])
    ∷ table 0 (1 ∷ 3 ∷ []) (0 ∷ 0 ∷ 0 ∷ forbidden ∷ [])
    ∷ table 0 (0 ∷ []) (1 ∷ 0 ∷ [])
    ∷ table 0 (1 ∷ []) (2 ∷ 0 ∷ [])
    ∷ table 0 (2 ∷ []) (3 ∷ 0 ∷ [])
    ∷ table 0 (3 ∷ []) (4 ∷ 0 ∷ [])
    ∷ table 0 (1 ∷ 2 ∷ []) (3 ∷ 3 ∷ 3 ∷ 0 ∷ [])
    ∷ table 1 (0 ∷ []) (0 ∷ 4 ∷ [])
    ∷ table 1 (1 ∷ []) (0 ∷ 3 ∷ [])
    ∷ table 1 (2 ∷ []) (0 ∷ 2 ∷ [])
    ∷ table 1 (3 ∷ []) (0 ∷ 1 ∷ [])
    ∷ table 2 (0 ∷ []) (0 ∷ 1 ∷ [])
    ∷ table 2 (1 ∷ []) (0 ∷ 2 ∷ [])
    ∷ table 2 (2 ∷ []) (0 ∷ 3 ∷ [])
    ∷ table 2 (3 ∷ []) (0 ∷ 4 ∷ [])
    ∷ [])
