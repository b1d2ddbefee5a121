-- What `put_spaced` leaves to show: the number that is due has its place and is written, and none is left.
use Rattle.std.proofs.Common.{◌≡◌, [], drop, arith, add-one}
use Rattle.std.proofs.Math.ListN.{drop_of_length-le}
use Rattle.text_lines.proofs.Lines.{spaced_next, spaced_none}
use Rattle.text_lines.proofs.Writing.{due, go_on, done}
use Rattle.text_lines.proofs.put_spaced.Goals as goal

pub put_number-next-requires : goal.put_number-next-requires
put_number-next-requires c =
    rw c.from.ensures (due (spaced_next c.args.numbers.now c.loop-n.n-index (omega arith)) c.loop-n.invariant)

pub loop-n-preserved : goal.loop-n-preserved
loop-n-preserved c =
    rw add-one
    (go_on (spaced_next c.args.numbers.now c.loop-n.n-index (omega arith)) c.loop-n.invariant
    (rw c.from.ensures at c.put_number-next.ensures))

pub returns : goal.returns
returns c =
    let numbers = c.args.numbers.now in
    let all : drop c.loop-n.n-index numbers ≡ [] =
    drop_of_length-le numbers {i = c.loop-n.n-index} (omega arith) in
    done (rw (all, spaced_none) at c.loop-n.invariant)
