-- What the loop of `weights_for` leaves to show: a row is written anew.
use Rattle.std.proofs.Common.{◌≡◌, ◌≤◌, length, arith}
use Rattle.model.proofs.Elements.{all_take}
use Rattle.branch_archive.specs.Changes.{max_weight}
use Rattle.branch_directions.proofs.TableRows.{put_row, with_row_long, with_row_all, with_row_first}
use Rattle.branch_directions.proofs.weights_for.Goals as goal

pub loop-i-preserved : goal.loop-i-preserved
loop-i-preserved c =
    let w = c.loop-i in
    let row = c.sum_weights-row.result in
    let new = c.sum_weights-row.ensures in
    let here = c.copy_from_slice.ensures.after in
    let four : length row ≡ 4 = omega (arith, c.sum_weights-row.type_inv) in
    record {
      long = rw (here, put_row w.weights row w.i) (with_row_long w.weights row w.i four w.invariant.long (omega arith));
      small =
          rw (here, put_row w.weights row w.i)
          (with_row_all (λ x. x ≤ max_weight) w.weights row w.i w.invariant.small new.0);
      lead =
          λ h. rw (here, put_row w.weights row w.i)
          (with_row_first (λ x. 1 ≤ x) w.weights row w.i 4 (omega arith) four w.invariant.long (omega arith)
          w.invariant.lead
          (λ z. new.1 4 (all_take (λ x. 1 ≤ x) 4 c.shares_at.result (c.shares_at.ensures.1 z))));
    }
