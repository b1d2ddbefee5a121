-- Ceilings that are met exactly, and forbidden entries under every ceiling, in whole and halves.
use mathlib.Core.Path.{refl}
use mathlib.Core.List.{List, [], ◌∷◌}
use Prim.Native.Nat.{ℕ}
use Rattle.model.specs.Basics.{All}
use Rattle.model.specs.Costs.{forbidden}
use Rattle.model.specs.Frontiers.{point}
use Rattle.model.proofs.Computing.{computing}
use Rattle.model.proofs.ExampleBytes.{table, problem}
use Rattle.model.proofs.ExampleRow.{Row, Right}
use Rattle.model.proofs.RowBuilders.{usual, answered}

-- two entries that are allowed, of the sum 4,294,967,295: one over a variable, one of arity 0
abbrev exact : ℕ → List ℕ
exact ceiling =
    problem (ceiling ∷ []) (1 ∷ []) (table 0 (0 ∷ []) (4294967294 ∷ []) ∷ table 0 [] (1 ∷ []) ∷ [])

-- one variable and two objectives; its first value costs c and e
abbrev first_costs : ℕ → ℕ → List ℕ
first_costs c e =
    problem (forbidden ∷ forbidden ∷ []) (2 ∷ []) (
    table 0 (0 ∷ []) (c ∷ 7 ∷ []) ∷ table 1 (0 ∷ []) (e ∷ 3 ∷ []) ∷ [])

abbrev pub ceiling_rows : List Row
ceiling_rows =
    -- a forbidden entry under the ceiling 4,294,967,295; the bound counts it as the number that it is
    answered usual (problem (forbidden ∷ []) (2 ∷ []) (table 0 (0 ∷ []) (forbidden ∷ 5 ∷ []) ∷ [])) (0 ∷ []) (0 ∷ [])
    (point (5 ∷ []) (1 ∷ []) ∷ []) 1 1 (forbidden ∷ []) ∷
    -- a sum of exactly 4,294,967,295 under that ceiling, in whole and of two halves
    answered usual (exact forbidden) (1 ∷ []) [] (point (forbidden ∷ []) (0 ∷ []) ∷ []) 1 1 (forbidden ∷ []) ∷
    -- under the ceiling one smaller each half has its point, and their sum is over it
    answered usual (exact 4294967294) (1 ∷ []) [] [] 1 1 (forbidden ∷ []) ∷
    -- a forbidden entry in one objective, where the other's sum is far below its ceiling
    answered usual (first_costs 0 forbidden) (0 ∷ []) (0 ∷ []) (point (7 ∷ 3 ∷ []) (1 ∷ []) ∷ []) 1 1
    (0 ∷ forbidden ∷ []) ∷
    -- and in the other
    answered usual (first_costs forbidden 0) (1 ∷ []) (0 ∷ []) (point (7 ∷ 3 ∷ []) (1 ∷ []) ∷ []) 1 1
    (forbidden ∷ 0 ∷ []) ∷
    -- an entry of arity 0 forbids all; half 0 has it, and half 1 has its point
    answered usual
    (problem (forbidden ∷ []) (2 ∷ []) (table 0 [] (forbidden ∷ []) ∷ table 0 (0 ∷ []) (0 ∷ 1 ∷ []) ∷ [])) (1 ∷ []) []
    [] 0 1 (forbidden ∷ []) ∷
    -- a forbidden entry in half 1
    answered usual
    (problem (forbidden ∷ forbidden ∷ []) (2 ∷ 2 ∷ []) (
    table 0 (0 ∷ []) (0 ∷ 1 ∷ []) ∷ table 1 (0 ∷ []) (1 ∷ 0 ∷ []) ∷ table 0 (1 ∷ []) (forbidden ∷ 2 ∷ [])
    ∷ table 1 (1 ∷ []) (0 ∷ 3 ∷ []) ∷ []))
    (0 ∷ 1 ∷ []) (0 ∷ 0 ∷ [])
    (point (2 ∷ 4 ∷ []) (0 ∷ 1 ∷ []) ∷ point (3 ∷ 3 ∷ []) (1 ∷ 1 ∷ []) ∷ []) 2 1 (forbidden ∷ 1 ∷ []) ∷
    []

pub ceiling_right : All Right ceiling_rows
unfolding computing
ceiling_right = (
  (refl, refl, refl, refl),
  (
    (refl, refl, refl, refl),
    (
      (refl, refl, refl, refl),
      (
        (refl, refl, refl, refl),
        ((refl, refl, refl, refl), ((refl, refl, refl, refl), ((refl, refl, refl, refl), tt))),
      ),
    ),
  ),
)
