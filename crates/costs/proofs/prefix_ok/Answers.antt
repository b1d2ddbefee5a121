-- What `prefix_ok` leaves to show.
use Rattle.std.proofs.Common.{sym, arith, drop_of_length-le, ◌≤◌, length}
use borrow.Author.Tests.{lt-ltb, le-ltb}
use Rattle.model.specs.Bounds.{prefix_ok}
use Rattle.costs.proofs.PrefixSteps.{prefix_long, prefix_next}
use Rattle.costs.proofs.prefix_ok.Goals as goal

pub returns-then-sizes-prefix : goal.returns-then-sizes-prefix
returns-then-sizes-prefix c = sym (prefix_long c.args.sizes.now c.args.prefix.now c.if-sizes-prefix.true)

pub returns-then-sizes-i : goal.returns-then-sizes-i
returns-then-sizes-i c =
    let next = prefix_next c.args.sizes.now c.args.prefix.now c.loop-i.i (omega arith) (omega arith) in
    rw (next, le-ltb _ _ c.if-sizes-i.true) at c.loop-i.invariant

pub loop-i-preserved : goal.loop-i-preserved
loop-i-preserved c =
    let next = prefix_next c.args.sizes.now c.args.prefix.now c.loop-i.i (omega arith) (omega arith) in
    rw (next, lt-ltb _ _ c.if-sizes-i.false) at c.loop-i.invariant

pub returns : goal.returns
unfolding prefix_ok
returns c =
    let h : length c.args.prefix.now ≤ c.loop-i.i = omega arith in
    rw (drop_of_length-le c.args.prefix.now h) at c.loop-i.invariant
