-- Points, room and the work buffer.
use mathlib.Core.Path.{refl}
use mathlib.Core.List.{List, [], ◌∷◌}
use Prim.Native.Nat.{ℕ, zero, suc, ◌-◌, ◌/◌, ◌%◌}
use lib.ListN.{replicate}
use Rattle.model.specs.Basics.{All}
use Rattle.model.specs.Frontiers.{Point, point}
use Rattle.model.proofs.Computing.{computing}
use Rattle.model.proofs.ExampleBytes.{problem}
use Rattle.model.proofs.ExampleProblems.{bare, three, mixed, mixed_turned, large, ties, stairs, objects}
use Rattle.model.proofs.ExampleRow.{Row, Right}
use Rattle.model.proofs.RowBuilders.{held, enough, lent, lent_work, usual, lists, refuses, full, bounds, row}
use Rattle.model.proofs.RowBuilders.{answered, uncut}

-- the first n points of the 72, from the i-th on
abbrev pub steps : ℕ → ℕ → List Point
steps zero i = []
steps (suc n) i = point (i ∷ (71 - i) ∷ []) (i / 9 ∷ i / 3 % 3 ∷ i % 3 ∷ []) ∷ steps n (suc i)

abbrev pub frontier_rows : List Row
frontier_rows =
    -- p = 4, unequal domains, arity 0 to 3: the last scope variable runs fastest
    answered usual mixed (0 ∷ 0 ∷ 0 ∷ []) (1 ∷ 2 ∷ [])
    (point (0 ∷ 4 ∷ 0 ∷ 7 ∷ []) (1 ∷ 0 ∷ 0 ∷ []) ∷ point (1 ∷ 2 ∷ 0 ∷ 7 ∷ []) (0 ∷ 2 ∷ 1 ∷ [])
    ∷ point (3 ∷ 0 ∷ 0 ∷ 7 ∷ []) (1 ∷ 2 ∷ 1 ∷ []) ∷ [])
    3 1 (3 ∷ 0 ∷ 0 ∷ 7 ∷ []) ∷
    -- the same over the scopes (2,0,1), (1,0) and (2,1): the variable written last runs fastest
    answered usual mixed_turned (0 ∷ 0 ∷ 0 ∷ []) (1 ∷ 2 ∷ [])
    (point (0 ∷ 4 ∷ 0 ∷ 7 ∷ []) (1 ∷ 0 ∷ 0 ∷ []) ∷ point (1 ∷ 2 ∷ 0 ∷ 7 ∷ []) (0 ∷ 2 ∷ 1 ∷ [])
    ∷ point (3 ∷ 0 ∷ 0 ∷ 7 ∷ []) (1 ∷ 2 ∷ 1 ∷ []) ∷ [])
    3 1 (3 ∷ 0 ∷ 0 ∷ 7 ∷ []) ∷
    -- costs and ceilings from 2^8, 2^16 and 2^24 on; a sum that does not fit four bytes; an entry that forbids; a side
    -- list one too long
    uncut large (1 ∷ 0 ∷ []) (0 ∷ []) (point (256 ∷ 65536 ∷ 16777216 ∷ 10 ∷ []) (2 ∷ []) ∷ []) 13 0
    (0 ∷ 0 ∷ 0 ∷ 4294967297 ∷ []) ∷
    -- beaten in one objective and equal in the other; of equal vectors the earlier choice; a side list one short
    uncut ties [] [] (point (1 ∷ 1 ∷ []) (1 ∷ []) ∷ []) 13 0 (1 ∷ 1 ∷ []) ∷
    -- Objects, p = 3; room for exactly its three points
    answered (lent 9 12 3) objects (0 ∷ 0 ∷ 0 ∷ 0 ∷ []) (0 ∷ 0 ∷ 1 ∷ [])
    (point (5 ∷ 5 ∷ 5 ∷ []) (0 ∷ 1 ∷ 1 ∷ 0 ∷ []) ∷ point (6 ∷ 3 ∷ 7 ∷ []) (0 ∷ 0 ∷ 1 ∷ 1 ∷ [])
    ∷ point (10 ∷ 2 ∷ 3 ∷ []) (0 ∷ 0 ∷ 1 ∷ 0 ∷ []) ∷ [])
    3 1 (6 ∷ 2 ∷ 3 ∷ []) ∷
    -- n = 24
    answered (lent 1 24 1) (problem (1 ∷ []) (replicate 24 1) []) (replicate 24 1) (replicate 24 0)
    (point (0 ∷ []) (replicate 24 0) ∷ []) 1 1 (0 ∷ []) ∷
    -- Three, cost buffer of 5
    row (lent 5 3 3) (three 3 3) (0 ∷ []) [] full
    (lists (point (0 ∷ 2 ∷ []) (0 ∷ []) ∷ point (1 ∷ 1 ∷ []) (1 ∷ []) ∷ point (2 ∷ 0 ∷ []) (2 ∷ []) ∷ [])) full 0 0
    (bounds (0 ∷ 0 ∷ [])) ∷
    -- Three, choice buffer of 2, two point records
    row (lent 6 2 2) (three 3 3) (0 ∷ []) [] full full full 0 0 (bounds (0 ∷ 0 ∷ [])) ∷
    -- Three, ceilings 2 and 3, cost buffer of 4
    row (lent 4 2 2) (three 2 3) (1 ∷ []) [] full full full 0 0 (bounds (0 ∷ 0 ∷ [])) ∷
    -- Three, ceilings 1 and 3, cost buffer of 4
    answered (lent 4 2 2) (three 1 3) (1 ∷ []) [] (point (0 ∷ 2 ∷ []) (0 ∷ []) ∷ point (1 ∷ 1 ∷ []) (1 ∷ []) ∷ []) 1 2
    (0 ∷ 0 ∷ []) ∷
    -- 64 points
    answered (lent 130 200 64) (stairs 63) (0 ∷ 0 ∷ 1 ∷ []) (7 ∷ []) (steps 64 0) 22 3 (63 ∷ 0 ∷ []) ∷
    -- 65 points, with buffers for more
    row (lent 140 210 70) (stairs 64) (0 ∷ 1 ∷ 0 ∷ []) (7 ∷ 2 ∷ 2 ∷ []) full full full 0 0 (bounds (71 ∷ 0 ∷ [])) ∷
    -- a work buffer of 8,191; the sides are not asked
    row (lent_work (held 8191)) (bare 1 1) [] [] (refuses 12 0) (refuses 12 0) (refuses 12 0) 0 0 (bounds (0 ∷ [])) ∷
    -- a longer work buffer is zero to its end
    answered (lent_work (8193 ∷ enough)) (bare 1 1) (0 ∷ []) [] (point (0 ∷ []) (0 ∷ []) ∷ []) 1 1 (0 ∷ []) ∷
    []

pub frontier_right : All Right frontier_rows
unfolding computing
frontier_right = (
  (refl, refl, refl, refl),
  (
    (refl, refl, refl, refl),
    (
      (refl, refl, refl, refl),
      (
        (refl, refl, refl, refl),
        (
          (refl, refl, refl, refl),
          (
            (refl, refl, refl, refl),
            (
              (refl, refl, refl, refl),
              (
                (refl, refl, refl, refl),
                (
                  (refl, refl, refl, refl),
                  (
                    (refl, refl, refl, refl),
                    (
                      (refl, refl, refl, refl),
                      ((refl, refl, refl, refl), ((refl, refl, refl, refl), ((refl, refl, refl, refl), tt))),
                    ),
                  ),
                ),
              ),
            ),
          ),
        ),
      ),
    ),
  ),
)
