-- What `is_above_at` leaves to show: a cost or a sum tells.
use Rattle.std.proofs.Common.{List, ℕ, take, drop, w64, arith}
use Rattle.model.specs.Vectors.{at_most}
use Rattle.rows.proofs.Arrays.{array_length}
use Rattle.branch_archive.proofs.RowReads.{front_costs, row_test}
use Rattle.branch_directions.specs.Directions.{max_directions, sums_from}
use Rattle.branch_pruning.proofs.Ties.{surpassed_costs, surpassed_sums}
use Rattle.branch_pruning.proofs.is_above_at.Goals as goal

pub returns-then-not-is_at_most : goal.returns-then-not-is_at_most
returns-then-not-is_at_most c =
    let a = c.args in
    let d = a.d in
    let few = c.requires.0.few in
    let long = array_length w64 max_directions a.b _ c.well_formed.1.0 in
    λ e. surpassed_costs d a.work.now a.b a.i (omega (arith, long, few))
    (row_test d.objectives a.work.now a.i c.row_costs-costs.result few c.row_costs-costs.ensures
    (at_most (take d.objectives a.b)) _ _ c.if-not-is_at_most.true c.is_at_most.ensures)

pub is_within-requires : goal.is_within-requires
is_within-requires c =
    let a = c.args in
    let front = front_costs a.d.objectives a.work.now _ a.i c.requires.0.few c.row_costs-costs.ensures in
    (c.requires.0, rw front c.requires.3)

pub returns : goal.returns
returns c =
    let a = c.args in
    let d = a.d in
    let few = c.requires.0.few in
    let long = array_length w64 max_directions a.b _ c.well_formed.1.0 in
    λ e. surpassed_sums d a.work.now a.b a.i (omega (arith, long, few))
    (row_test d.objectives a.work.now a.i c.row_costs-costs.result few c.row_costs-costs.ensures
    (λ (u : List ℕ). at_most (take d.sums (drop d.objectives a.b)) (sums_from d d.sums 0 u)) _ _ e
    c.is_within.ensures)
