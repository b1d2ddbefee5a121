-- What the loop of `solve_frames` leaves to show: what is lent of the batch is the frames that are left.
use Rattle.std.proofs.Common.{arith}
use Rattle.model.proofs.Lists.{take_rest}
use Rattle.batch_call.proofs.Turns.{none_turned, all_turned, next_asked, next_turned}
use Rattle.batch_call.proofs.solve_frames.Goals as goal

pub loop-at-init : goal.loop-at-init
loop-at-init c = none_turned _ _ _ _ _

pub solve_frame-at-requires : goal.solve_frame-at-requires
solve_frame-at-requires c =
    let l = c.loop-at in
    rw (take_rest c.args.batch.now l.at)
    (next_asked _ _ _ _ _ l.at l.k _ _ _ _ l.invariant c.requires c.loop-at-test.true)

-- the problem there is solved
pub overflow_add-at : goal.overflow_add-at
overflow_add-at c =
    let l = c.loop-at in
    let solved = rw (take_rest c.args.batch.now l.at) at c.solve_frame-at.ensures in
    let kept = c.solve_frame-at.auto in
    let next =
    next_turned _ _ _ _ _ l.at l.k _ _ _ _ l.invariant c.requires c.loop-at-test.true _ _ _ _ _ solved
    kept.costs kept.choices kept.results kept.work in
    record { fits = omega (arith, next.read) }

pub loop-at-preserved : goal.loop-at-preserved
loop-at-preserved c =
    let l = c.loop-at in
    let solved = rw (take_rest c.args.batch.now l.at) at c.solve_frame-at.ensures in
    let kept = c.solve_frame-at.auto in
    next_turned _ _ _ _ _ l.at l.k _ _ _ _ l.invariant c.requires c.loop-at-test.true _ _ _ _ _ solved
    kept.costs kept.choices kept.results kept.work

pub returns : goal.returns
returns c =
    let l = c.loop-at in
    all_turned _ _ _ _ _ l.at l.k _ _ _ _ l.invariant c.loop-at-test.false
