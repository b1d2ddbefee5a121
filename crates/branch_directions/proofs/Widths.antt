-- How many directions and weights there are, and that the leading one is among them.
use mathlib.Core.Path.{◌≡◌}
use mathlib.Core.Logic.{⊎_elim}
use mathlib.Core.Bool.{true, false}
use mathlib.Core.List.{List}
use Prim.Native.Nat.{◌≤◌, ◌<◌}
use native.Mathlib.Omega.{arith}
use lib.Dec.{eqb}
use lib.ListN.{length}
use borrow.Author.Tests.{eqb-false}
use mir.Val.{Val}
use denote.Laws.{Is}
use denote.Struct.Declared.{row}
use Rattle.model.proofs.Bits.{test}
use Rattle.branch_directions.specs.Directions.{max_directions, width_of, lead_at, Sensible}
use Rattle.branch_directions.specs.declared.Directions as DD
use Rattle.branch_directions.specs.contracts.Directions.{the_type}

pub lead_inside : (d : DD.Directions) → Sensible d → lead_at d < width_of d
lead_inside d h =
    ⊎_elim
    (λ (t : eqb d.sums 0 ≡ true). rw t (omega (arith, h.some)))
    (λ (t : eqb d.sums 0 ≡ false). let n : d.sums ≡ 0 → ⊥ = eqb-false d.sums 0 t in rw t (omega arith))
    (test (eqb d.sums 0))

pub width_few : (d : DD.Directions) → Sensible d → width_of d ≤ max_directions
width_few d h = omega (arith, h.few, h.few_sums)

-- a value that is a parameter has sixteen weights
pub weights_long : (d : DD.Directions) (vs : List Val) → Is (row the_type) d vs → length d.weights ≡ 16
weights_long d vs good = good.1.1.1.1.0.1.0.1
