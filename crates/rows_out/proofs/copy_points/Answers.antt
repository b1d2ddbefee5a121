-- `rows_out::copy_points` meets its contract: each turn writes the record of one more row.
use Rattle.std.proofs.Common.{arith, sym}
use native.Mathlib.Nat.{zero-add}
use Rattle.rows.proofs.RowParts.{row_has}
use Rattle.rows_out.specs.Records.{WordCosts}
use Rattle.rows_out.proofs.RecordsOut.{written_none, written_next}
use Rattle.rows_out.proofs.copy_points.Goals as goal

pub loop-row-init : goal.loop-row-init
loop-row-init c = (omega arith, sym (written_none c.args.p c.args.n c.args.work.now c.args.points.now))

pub point_at-requires : goal.point_at-requires
point_at-requires c =
    let holds = c.requires.1 in
    let words = row_has c.args.p c.args.n c.args.work.now WordCosts 0 c.args.k holds.words c.loop-row.row
    (omega arith) in (
      holds.memory (omega arith),
      omega (arith, holds.few),
      holds.variables,
      holds.objectives,
      rw zero-add at words,
    )

pub loop-row-preserved : goal.loop-row-preserved
loop-row-preserved c =
    let row = c.loop-row.row in (
      omega arith,
      rw (c.loop-row.invariant.1, c.point_at.ensures)
          (written_next c.args.p c.args.n c.args.work.now c.args.points.now row (omega arith)),
    )
