-- What `tuple_index` leaves to show: the value that is due completes the index further, and none is left.
use Rattle.std.proofs.Common.{◌≡◌, length, arith, rules}
use Rattle.text_tuples.proofs.Reading.{left_all, left_due, left_none, fits, value_below, left_less}
use Rattle.text_tuples.proofs.tuple_index.Goals as goal

pub loop-i-init : goal.loop-i-init
loop-i-init c =
    let three : length c.args.sizes ≡ 3 = search rules in
    left_all c.args.s.now c.args.at c.args.arity c.args.sizes three c.requires

pub overflow_mul-index : goal.overflow_mul-index
overflow_mul-index c =
    let three : length c.args.sizes ≡ 3 = search rules in
    let due = left_due c.args.arity c.loop-i.i c.args.sizes three c.requires.few (omega arith) c.loop-i.invariant in
    record { fits = omega (arith, fits due) }

pub overflow_add-index : goal.overflow_add-index
overflow_add-index c =
    let three : length c.args.sizes ≡ 3 = search rules in
    let due = left_due c.args.arity c.loop-i.i c.args.sizes three c.requires.few (omega arith) c.loop-i.invariant in
    record {
      fits = omega (arith, fits due, value_below due c.read_number-read.result c.read_number-read.ensures);
    }

pub loop-i-preserved : goal.loop-i-preserved
loop-i-preserved c =
    let three : length c.args.sizes ≡ 3 = search rules in
    let due = left_due c.args.arity c.loop-i.i c.args.sizes three c.requires.few (omega arith) c.loop-i.invariant in
    left_less due c.read_number-read.result c.read_number-read.ensures

pub returns : goal.returns
returns c =
    let three : length c.args.sizes ≡ 3 = search rules in
    left_none c.args.s.now c.args.at c.loop-i.index c.loop-i.end c.args.arity c.loop-i.i c.args.sizes three
    c.requires.few (omega arith) c.loop-i.invariant
