-- What the loop of `bounds_over` leaves to show.
use Rattle.std.proofs.Common.{arith}
use Rattle.model.specs.Bounds.{least_of}
use Rattle.problem.proofs.Scopes.{whole_inside}
use Rattle.groups.proofs.SumsOver.{sums_start, sums_next, sums_end, place_whole}
use Rattle.groups.proofs.bounds_over.Goals as goal

pub loop-i-init : goal.loop-i-init
loop-i-init c =
    let a = c.args in
    let q = c.requires in
    sums_start (least_of a.sizes.now a.prefix.now) a.sizes.now a.s.now a.work.now a.from a.to q.1 q.2 q.3 q.4

pub objective_at-o-requires : goal.objective_at-o-requires
objective_at-o-requires c =
    whole_inside c.args.sizes.now c.args.s.now _ (place_whole c.loop-i.invariant (omega arith))

pub bounds-sums-o : goal.bounds-sums-o
bounds-sums-o c = rw c.objective_at-o.ensures (place_whole c.loop-i.invariant (omega arith)).owner

pub least_at-requires : goal.least_at-requires
least_at-requires c = (place_whole c.loop-i.invariant (omega arith), c.requires.0, c.requires.5)

pub bounds-sums-o-in-loop-i : goal.bounds-sums-o-in-loop-i
bounds-sums-o-in-loop-i c = rw c.objective_at-o.ensures (place_whole c.loop-i.invariant (omega arith)).owner

pub loop-i-preserved : goal.loop-i-preserved
loop-i-preserved c =
    sums_next c.loop-i.invariant (omega arith) _ c.least_at.result c.objective_at-o.ensures c.least_at.ensures.0
    c.least_at.ensures.1

pub returns : goal.returns
returns c = sums_end c.loop-i.invariant (omega arith)
