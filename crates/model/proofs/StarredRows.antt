-- The starred cases of the reference, section 12, in its order.
use mathlib.Core.Path.{refl}
use mathlib.Core.List.{List, [], ◌∷◌}
use Rattle.model.specs.Basics.{All}
use Rattle.model.specs.Frontiers.{point}
use Rattle.model.proofs.Computing.{computing}
use Rattle.model.proofs.ExampleProblems.{colours, bare, three, pair, turned}
use Rattle.model.proofs.ExampleRow.{Row, Right}
use Rattle.model.proofs.RowBuilders.{lent, usual, full, bounds, row, answered, uncut}

abbrev pub starred_rows : List Row
starred_rows =
    -- Colours; choice 1 1 0 also costs 1 4 and is later
    answered usual (colours 100 100) (0 ∷ 0 ∷ 0 ∷ []) (0 ∷ 0 ∷ [])
    (point (1 ∷ 4 ∷ []) (0 ∷ 0 ∷ 1 ∷ []) ∷ point (10 ∷ 0 ∷ []) (0 ∷ 0 ∷ 0 ∷ []) ∷ []) 2 1 (1 ∷ 0 ∷ []) ∷
    -- Colours, ceilings 10 and 100: a cost equal to its ceiling
    answered usual (colours 10 100) (0 ∷ 0 ∷ 0 ∷ []) (0 ∷ 1 ∷ [])
    (point (1 ∷ 4 ∷ []) (0 ∷ 0 ∷ 1 ∷ []) ∷ point (10 ∷ 0 ∷ []) (0 ∷ 0 ∷ 0 ∷ []) ∷ []) 2 1 (0 ∷ 6 ∷ []) ∷
    -- Colours, ceilings 11 and 100
    answered usual (colours 11 100) (1 ∷ 1 ∷ 1 ∷ []) (0 ∷ 0 ∷ 1 ∷ [])
    (point (1 ∷ 4 ∷ []) (0 ∷ 0 ∷ 1 ∷ []) ∷ point (10 ∷ 0 ∷ []) (0 ∷ 0 ∷ 0 ∷ []) ∷ []) 1 2 (1 ∷ 4 ∷ []) ∷
    -- Colours, ceilings 9 and 100
    answered usual (colours 9 100) (1 ∷ 1 ∷ 1 ∷ []) (0 ∷ 0 ∷ 1 ∷ []) (point (1 ∷ 4 ∷ []) (0 ∷ 0 ∷ 1 ∷ []) ∷ []) 1 1
    (1 ∷ 4 ∷ []) ∷
    -- Colours, ceilings 2 and 4
    answered usual (colours 2 4) (0 ∷ 0 ∷ 0 ∷ []) [] (point (1 ∷ 4 ∷ []) (0 ∷ 0 ∷ 1 ∷ []) ∷ []) 1 1 (0 ∷ 0 ∷ []) ∷
    -- Colours, ceilings 2 and 5
    answered usual (colours 2 5) (1 ∷ 1 ∷ 1 ∷ []) (1 ∷ []) (point (1 ∷ 4 ∷ []) (0 ∷ 0 ∷ 1 ∷ []) ∷ []) 1 1 (0 ∷ 0 ∷ []) ∷
    -- Colours, ceilings 2 and 3
    answered usual (colours 2 3) (1 ∷ 1 ∷ 1 ∷ []) (1 ∷ []) [] 1 0 (0 ∷ 0 ∷ []) ∷
    -- n = p = d = 1, r = 0, ceiling 1
    answered usual (bare 1 1) (0 ∷ []) [] (point (0 ∷ []) (0 ∷ []) ∷ []) 1 1 (0 ∷ []) ∷
    -- the same, ceiling 0
    answered usual (bare 1 0) (0 ∷ []) [] (point (0 ∷ []) (0 ∷ []) ∷ []) 1 1 (0 ∷ []) ∷
    -- the same, room 0
    row (lent 0 0 0) (bare 1 0) (0 ∷ []) (0 ∷ []) full full full 0 0 (bounds (0 ∷ [])) ∷
    -- n = p = 1, d = 8, r = 0, ceiling 1
    answered usual (bare 8 1) (1 ∷ []) (7 ∷ []) (point (0 ∷ []) (0 ∷ []) ∷ []) 1 1 (0 ∷ []) ∷
    -- Three
    answered usual (three 3 3) (0 ∷ []) (1 ∷ [])
    (point (0 ∷ 2 ∷ []) (0 ∷ []) ∷ point (1 ∷ 1 ∷ []) (1 ∷ []) ∷ point (2 ∷ 0 ∷ []) (2 ∷ []) ∷ []) 3 1 (1 ∷ 1 ∷ []) ∷
    -- Pair
    answered usual (pair 9 9) (0 ∷ 1 ∷ []) (1 ∷ [])
    (point (0 ∷ 2 ∷ []) (0 ∷ 0 ∷ []) ∷ point (1 ∷ 1 ∷ []) (0 ∷ 1 ∷ []) ∷ point (2 ∷ 0 ∷ []) (1 ∷ 1 ∷ []) ∷ []) 2 2
    (1 ∷ 0 ∷ []) ∷
    -- Pair, ceilings 2 and 2
    answered usual (pair 2 2) (0 ∷ 1 ∷ []) []
    (point (0 ∷ 2 ∷ []) (0 ∷ 0 ∷ []) ∷ point (1 ∷ 1 ∷ []) (0 ∷ 1 ∷ []) ∷ point (2 ∷ 0 ∷ []) (1 ∷ 1 ∷ []) ∷ []) 2 2
    (0 ∷ 0 ∷ []) ∷
    -- Pair, ceilings 1 and 1
    answered usual (pair 1 1) (0 ∷ 1 ∷ []) [] (point (1 ∷ 1 ∷ []) (0 ∷ 1 ∷ []) ∷ []) 2 2 (0 ∷ 0 ∷ []) ∷
    -- Turned; a prefix for the second variable that the scope (1,0) names, and sides that both scopes cross
    uncut turned (0 ∷ 1 ∷ []) (0 ∷ [])
    (point (0 ∷ 5 ∷ []) (1 ∷ 2 ∷ []) ∷ point (1 ∷ 2 ∷ []) (1 ∷ 0 ∷ []) ∷ point (2 ∷ 1 ∷ []) (0 ∷ 2 ∷ [])
    ∷ point (4 ∷ 0 ∷ []) (0 ∷ 0 ∷ []) ∷ [])
    14 20 (2 ∷ 0 ∷ []) ∷
    []

pub starred_right : All Right starred_rows
unfolding computing
starred_right = (
  (refl, refl, refl, refl),
  (
    (refl, refl, refl, refl),
    (
      (refl, refl, refl, refl),
      (
        (refl, refl, refl, refl),
        (
          (refl, refl, refl, refl),
          (
            (refl, refl, refl, refl),
            (
              (refl, refl, refl, refl),
              (
                (refl, refl, refl, refl),
                (
                  (refl, refl, refl, refl),
                  (
                    (refl, refl, refl, refl),
                    (
                      (refl, refl, refl, refl),
                      (
                        (refl, refl, refl, refl),
                        (
                          (refl, refl, refl, refl),
                          ((refl, refl, refl, refl), ((refl, refl, refl, refl), ((refl, refl, refl, refl), tt))),
                        ),
                      ),
                    ),
                  ),
                ),
              ),
            ),
          ),
        ),
      ),
    ),
  ),
)
