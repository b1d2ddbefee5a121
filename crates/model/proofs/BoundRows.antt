-- The bound call, which asks for no work buffer.
use mathlib.Core.Path.{refl}
use mathlib.Core.List.{List, [], ◌∷◌}
use Rattle.model.specs.Basics.{All}
use Rattle.model.proofs.Computing.{computing}
use Rattle.model.proofs.ExampleProblems.{three, mixed, mixed_turned, objects}
use Rattle.model.proofs.ExampleRow.{Row, Right}
use Rattle.model.proofs.RowBuilders.{bounds, no_bound, only_bound}

abbrev pub bound_rows : List Row
bound_rows =
    -- Objects, no prefix
    only_bound objects [] (bounds (0 ∷ 0 ∷ 0 ∷ [])) ∷
    -- Objects, prefix 0
    only_bound objects (0 ∷ []) (bounds (1 ∷ 0 ∷ 0 ∷ [])) ∷
    -- Objects, prefix 1
    only_bound objects (1 ∷ []) (bounds (0 ∷ 4 ∷ 1 ∷ [])) ∷
    -- Objects, prefix 0 0
    only_bound objects (0 ∷ 0 ∷ []) (bounds (6 ∷ 0 ∷ 0 ∷ [])) ∷
    -- a complete prefix over unequal domains
    only_bound mixed (0 ∷ 1 ∷ 1 ∷ []) (bounds (3 ∷ 5 ∷ 4 ∷ 7 ∷ [])) ∷
    -- a prefix that fixes the second written variable of the scopes (2,0,1) and (1,0), and no first one
    only_bound mixed_turned (0 ∷ []) (bounds (1 ∷ 1 ∷ 0 ∷ 7 ∷ [])) ∷
    -- one that fixes the last two of (2,0,1), and the second of (2,1)
    only_bound mixed_turned (0 ∷ 1 ∷ []) (bounds (3 ∷ 5 ∷ 1 ∷ 7 ∷ [])) ∷
    -- a prefix longer than n
    only_bound (three 3 3) (0 ∷ 0 ∷ []) (no_bound 16 0) ∷
    -- a value not in its domain
    only_bound (three 3 3) (3 ∷ []) (no_bound 16 0) ∷
    -- a second value not in its domain
    only_bound mixed (1 ∷ 3 ∷ []) (no_bound 16 0) ∷
    []

pub bound_right : All Right bound_rows
unfolding computing
bound_right = (
  (refl, refl, refl, refl),
  (
    (refl, refl, refl, refl),
    (
      (refl, refl, refl, refl),
      (
        (refl, refl, refl, refl),
        (
          (refl, refl, refl, refl),
          (
            (refl, refl, refl, refl),
            (
              (refl, refl, refl, refl),
              ((refl, refl, refl, refl), ((refl, refl, refl, refl), ((refl, refl, refl, refl), tt))),
            ),
          ),
        ),
      ),
    ),
  ),
)
