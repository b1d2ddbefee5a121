-- What the loop of `copy_costs` leaves to show.
use Rattle.std.proofs.Common.{◌≡◌, length, take, arith}
use native.Mathlib.Nat.{zero-add}
use Rattle.model.specs.Limits.{max_objectives}
use Rattle.model.proofs.Numbers.{row_room}
use Rattle.rows.specs.Rows.{costs_in}
use Rattle.rows.proofs.RowParts.{row_has}
use Rattle.rows.proofs.RowNumbers.{costs_long, costs_front}
use Rattle.rows_out.specs.Records.{WordCosts}
use Rattle.rows_out.proofs.RowsOut.{out_start, out_length, out_next}
use Rattle.rows_out.proofs.FlatRows.{flat_costs_lem}
use Rattle.rows_out.proofs.copy_costs.Goals as goal

pub loop-row-init : goal.loop-row-init
loop-row-init c = out_start (costs_in c.args.p c.args.work.now) c.args.p c.args.costs.now

pub put_costs-requires : goal.put_costs-requires
put_costs-requires c =
    let a = c.args in
    let i = c.loop-row.row in
    let work = a.work.now in
    let room = row_room a.p a.k i (length a.costs.now) c.requires.3 (omega arith) in
    let words = row_has a.p a.n work WordCosts 0 a.k c.requires.4 i (omega arith) in
    let front = costs_front work i a.p max_objectives c.requires.2 in
    let here = rw zero-add at words in
    (c.requires.2, omega (arith, room, out_length c.loop-row.invariant), rw (c.row_costs.ensures, front) here)

pub loop-row-preserved : goal.loop-row-preserved
loop-row-preserved c =
    let a = c.args in
    let i = c.loop-row.row in
    let work = a.work.now in
    let room = row_room a.p a.k i (length a.costs.now) c.requires.3 (omega arith) in
    let row : take a.p c.row_costs.result ≡ costs_in a.p work i =
    rw c.row_costs.ensures (costs_front work i a.p max_objectives c.requires.2) in
    out_next c.loop-row.invariant room (costs_long work i a.p) _ (rw row at c.put_costs.ensures)

pub returns : goal.returns
returns c =
    let a = c.args in
    let last : c.loop-row.row ≡ a.k = omega arith in
    rw (flat_costs_lem a.p a.n a.work.now 0 a.k) (rw last at c.loop-row.invariant.holds)
