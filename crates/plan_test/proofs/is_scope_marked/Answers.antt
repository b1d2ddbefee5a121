-- What `is_scope_marked` leaves to show: no variable is left.
use Rattle.std.proofs.Common.{arith}
use Rattle.problem.proofs.Scopes.{scope_end}
use Rattle.plan_test.proofs.is_scope_marked.Goals as goal

pub returns : goal.returns
returns c =
    let a = c.args in
    λ _. c.loop-i.invariant (rw (scope_end a.s.now a.at c.loop-i.i (omega (arith, c.arity_at-a.ensures))) tt)
