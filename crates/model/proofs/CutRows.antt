-- The cut call: sides, halves, merged choices.
use mathlib.Core.Path.{refl}
use mathlib.Core.List.{List, [], ◌∷◌}
use Rattle.model.specs.Basics.{All}
use Rattle.model.specs.Frontiers.{point}
use Rattle.model.proofs.Computing.{computing}
use Rattle.model.proofs.ExampleProblems.{colours, pair, pair_and_constant, interleaved, interleaved_turned}
use Rattle.model.proofs.ExampleProblems.{stairs_over}
use Rattle.model.proofs.ExampleRow.{Row, Right}
use Rattle.model.proofs.RowBuilders.{lent, usual, lists, refuses, full, bounds, row, answered, uncut}

abbrev pub cut_rows : List Row
cut_rows =
    -- an entry of arity 0 is in half 0, and both halves keep the ceilings
    answered usual pair_and_constant (0 ∷ 1 ∷ []) [] (point (1 ∷ 2 ∷ []) (0 ∷ 0 ∷ []) ∷ []) 1 2 (1 ∷ 0 ∷ []) ∷
    -- the same with the sides exchanged
    answered usual pair_and_constant (1 ∷ 0 ∷ []) (1 ∷ []) (point (1 ∷ 2 ∷ []) (0 ∷ 0 ∷ []) ∷ []) 1 2 (2 ∷ 0 ∷ []) ∷
    -- Pair with the sides exchanged: the first pair that gives 1 1 has a later choice
    answered usual (pair 9 9) (1 ∷ 0 ∷ []) []
    (point (0 ∷ 2 ∷ []) (0 ∷ 0 ∷ []) ∷ point (1 ∷ 1 ∷ []) (0 ∷ 1 ∷ []) ∷ point (2 ∷ 0 ∷ []) (1 ∷ 1 ∷ []) ∷ []) 2 2
    (0 ∷ 0 ∷ []) ∷
    -- variables 0 and 2 against 1, with unequal domains: renumbered
    answered usual interleaved (0 ∷ 1 ∷ 0 ∷ []) (0 ∷ 1 ∷ [])
    (point (0 ∷ 7 ∷ []) (1 ∷ 1 ∷ 1 ∷ []) ∷ point (1 ∷ 5 ∷ []) (0 ∷ 1 ∷ 1 ∷ []) ∷ point (3 ∷ 3 ∷ []) (0 ∷ 2 ∷ 1 ∷ [])
    ∷ point (5 ∷ 2 ∷ []) (0 ∷ 0 ∷ 1 ∷ []) ∷ point (7 ∷ 1 ∷ []) (0 ∷ 2 ∷ 0 ∷ []) ∷ [])
    4 3 (1 ∷ 3 ∷ []) ∷
    -- the same with the sides exchanged
    answered usual interleaved (1 ∷ 0 ∷ 1 ∷ []) (1 ∷ 2 ∷ [])
    (point (0 ∷ 7 ∷ []) (1 ∷ 1 ∷ 1 ∷ []) ∷ point (1 ∷ 5 ∷ []) (0 ∷ 1 ∷ 1 ∷ []) ∷ point (3 ∷ 3 ∷ []) (0 ∷ 2 ∷ 1 ∷ [])
    ∷ point (5 ∷ 2 ∷ []) (0 ∷ 0 ∷ 1 ∷ []) ∷ point (7 ∷ 1 ∷ []) (0 ∷ 2 ∷ 0 ∷ []) ∷ [])
    3 4 (2 ∷ 2 ∷ []) ∷
    -- the same with falling scopes: a half keeps their order
    answered usual interleaved_turned (0 ∷ 1 ∷ 0 ∷ []) (0 ∷ 1 ∷ [])
    (point (0 ∷ 7 ∷ []) (1 ∷ 1 ∷ 1 ∷ []) ∷ point (1 ∷ 5 ∷ []) (0 ∷ 1 ∷ 1 ∷ []) ∷ point (3 ∷ 3 ∷ []) (0 ∷ 2 ∷ 1 ∷ [])
    ∷ point (5 ∷ 2 ∷ []) (0 ∷ 0 ∷ 1 ∷ []) ∷ point (7 ∷ 1 ∷ []) (0 ∷ 2 ∷ 0 ∷ []) ∷ [])
    4 3 (1 ∷ 3 ∷ []) ∷
    -- 65 points in half 0, and every sum over a ceiling
    row usual (stairs_over 64 64) (0 ∷ 0 ∷ 0 ∷ 1 ∷ []) [] (lists []) (lists []) full 0 0 (bounds (64 ∷ 1 ∷ [])) ∷
    -- the same in half 1
    row usual (stairs_over 64 64) (1 ∷ 1 ∷ 1 ∷ 0 ∷ []) [] (lists []) (lists []) full 0 0 (bounds (64 ∷ 1 ∷ [])) ∷
    -- a side byte of 2, and records with both sides
    uncut (colours 9 100) (0 ∷ 1 ∷ 2 ∷ []) [] (point (1 ∷ 4 ∷ []) (0 ∷ 0 ∷ 1 ∷ []) ∷ []) 13 0 (0 ∷ 0 ∷ []) ∷
    -- Colours, sides 0,0,1, room 1: the record over (0,2)
    row (lent 3 5 1) (colours 100 100) (0 ∷ 0 ∷ 1 ∷ []) [] full full (refuses 14 45) 0 0 (bounds (0 ∷ 0 ∷ [])) ∷
    []

pub cut_right : All Right cut_rows
unfolding computing
cut_right = (
  (refl, refl, refl, refl),
  (
    (refl, refl, refl, refl),
    (
      (refl, refl, refl, refl),
      (
        (refl, refl, refl, refl),
        (
          (refl, refl, refl, refl),
          (
            (refl, refl, refl, refl),
            (
              (refl, refl, refl, refl),
              ((refl, refl, refl, refl), ((refl, refl, refl, refl), ((refl, refl, refl, refl), tt))),
            ),
          ),
        ),
      ),
    ),
  ),
)
