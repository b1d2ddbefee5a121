-- What the loop of `copy_choices` leaves to show.
use Rattle.std.proofs.Common.{◌≡◌, length, take, arith}
use Rattle.model.specs.Limits.{max_variables}
use Rattle.model.proofs.Numbers.{row_room}
use Rattle.rows.specs.Rows.{values_in}
use Rattle.rows.proofs.RowNumbers.{values_long, values_front}
use Rattle.rows_out.proofs.RowsOut.{out_start, out_length, out_next}
use Rattle.rows_out.proofs.FlatRows.{flat_choices_lem}
use Rattle.rows_out.proofs.copy_choices.Goals as goal

pub loop-row-init : goal.loop-row-init
loop-row-init c = out_start (values_in c.args.n c.args.work.now) c.args.n c.args.choices.now

pub put_choice-requires : goal.put_choice-requires
put_choice-requires c =
    let a = c.args in
    let room = row_room a.n a.k c.loop-row.row (length a.choices.now) c.requires.3 (omega arith) in
    (c.requires.2, omega (arith, room, out_length c.loop-row.invariant))

pub loop-row-preserved : goal.loop-row-preserved
loop-row-preserved c =
    let a = c.args in
    let i = c.loop-row.row in
    let work = a.work.now in
    let room = row_room a.n a.k i (length a.choices.now) c.requires.3 (omega arith) in
    let row : take a.n c.row_choice.result ≡ values_in a.n work i =
    rw c.row_choice.ensures (values_front work i a.n max_variables c.requires.2) in
    out_next c.loop-row.invariant room (values_long work i a.n) _ (rw row at c.put_choice.ensures)

pub returns : goal.returns
returns c =
    let a = c.args in
    let last : c.loop-row.row ≡ a.k = omega arith in
    rw (flat_choices_lem a.p a.n a.work.now 0 a.k) (rw last at c.loop-row.invariant.holds)
