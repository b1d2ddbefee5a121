-- What `tuples_repeat` leaves to show: the tuple that is due is met the second time, or marked, and none is left.
use Rattle.std.proofs.Common.{◌≡◌, length, take, arith, rules}
use Rattle.std.proofs.Math.Seq.{length-take-le}
use Rattle.text_tuples.proofs.Tuples.{unmet_all, unmet_due, unmet_none, tuple_right, met_twice, unmet_less}
use Rattle.text_tuples.proofs.tuples_repeat.Goals as goal

pub loop-k-init : goal.loop-k-init
loop-k-init c =
    let a = c.args in
    let p = c.requires in
    let three : length a.sizes ≡ 3 = search rules in
    unmet_all a.s.now a.at a.count a.arity (take a.arity a.sizes)
    (length-take-le a.arity a.sizes (omega (arith, p.1))) p.1 p.2 p.0 p.3

pub tuple_index-entry-requires : goal.tuple_index-entry-requires
tuple_index-entry-requires c =
    let due = unmet_due c.args.count c.loop-k._k (omega arith) c.loop-k.invariant in
    record {
      within = c.loop-k.invariant.within;
      few = c.requires.1;
      small = c.requires.2;
      right = tuple_right due;
    }

pub returns-then-met-index : goal.returns-then-met-index
returns-then-met-index c =
    let due = unmet_due c.args.count c.loop-k._k (omega arith) c.loop-k.invariant in
    let entry = c.tuple_index-entry in
    met_twice due entry.result.index entry.result.end entry.ensures.index c.if-met-index.true

pub loop-k-preserved : goal.loop-k-preserved
loop-k-preserved c =
    let due = unmet_due c.args.count c.loop-k._k (omega arith) c.loop-k.invariant in
    let entry = c.tuple_index-entry in
    unmet_less due entry.result.index entry.result.end entry.ensures.index c.if-met-index.false entry.ensures.rest
    c.read_number-cost.result c.read_number-cost.ensures

pub returns : goal.returns
returns c = unmet_none c.args.count c.loop-k._k (omega arith) c.loop-k.invariant
