-- What `entry_run` leaves to show: the variables of the scope are the choice's, and nothing wraps.
use Rattle.std.proofs.Common.{◌+◌, ◌*◌, ◌<◌, length, get_or, arith}
use Rattle.problem.proofs.Scopes.{whole_inside}
use Rattle.costs.proofs.ScopeVariables.{value_exists}
use Rattle.branch_buckets.proofs.EntryRuns.{EntrySteps, entry_step, entry_end_lem}
use Rattle.branch_buckets.proofs.entry_run.Goals.{After-term_of-t}
use Rattle.branch_buckets.proofs.entry_run.Goals as goal

pub arity_at-a-requires : goal.arity_at-a-requires
arity_at-a-requires c = whole_inside c.args.sizes.now c.args.s.now c.args.at c.requires.0

pub scope_at-u-requires : goal.scope_at-u-requires
scope_at-u-requires c =
    (whole_inside c.args.sizes.now c.args.s.now c.args.at c.requires.0, omega (arith, c.arity_at-a.ensures))

pub term_of-t-requires : goal.term_of-t-requires
term_of-t-requires c =
    (omega arith, value_exists c.args.sizes.now c.args.choice.now c.requires.3 c.args.v c.requires.2)

-- one variable more
step : (c : After-term_of-t)
    → let d = get_or c.args.sizes.now c.scope_at-u.result 0 in
    let first = c.loop-k.first * d + c.term_of-t.result.first in
    let stride = c.loop-k.stride * d + c.term_of-t.result.stride in
    EntrySteps c.args.sizes.now c.args.s.now c.args.at c.args.v c.args.choice.now (c.loop-k.k + 1) first stride
    × (first < length c.args.s.now) × (stride < 4096)
step c =
    let q = c.requires in
    entry_step c.args.sizes.now c.args.s.now c.args.at c.args.v c.args.choice.now q.0 q.1 q.2 q.3 c.loop-k.invariant
    (omega (arith, c.arity_at-a.ensures)) c.scope_at-u.result c.scope_at-u.ensures c.term_of-t.result
    c.term_of-t.ensures

pub overflow_mul-first : goal.overflow_mul-first
overflow_mul-first c = omega (arith, step (goal.at.overflow_mul-first c).After-term_of-t)

pub overflow_add-first : goal.overflow_add-first
overflow_add-first c = omega (arith, step (goal.at.overflow_add-first c).After-term_of-t)

pub overflow_mul-stride : goal.overflow_mul-stride
overflow_mul-stride c = omega (arith, step (goal.at.overflow_mul-stride c).After-term_of-t)

pub overflow_add-stride : goal.overflow_add-stride
overflow_add-stride c = omega (arith, step (goal.at.overflow_add-stride c).After-term_of-t)

pub loop-k-preserved : goal.loop-k-preserved
loop-k-preserved c = (step (goal.at.loop-k-preserved c).After-term_of-t).0

pub returns : goal.returns
returns c =
    let q = c.requires in
    entry_end_lem c.args.sizes.now c.args.s.now c.args.at c.args.v c.args.choice.now q.0 q.1 q.2 q.3
    c.loop-k.invariant (omega (arith, c.arity_at-a.ensures))
