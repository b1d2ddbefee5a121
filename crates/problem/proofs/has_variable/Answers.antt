-- The variables of a scope stand from byte 4 of its record on.
use Rattle.problem.proofs.Scopes.{scope_taken}
use Rattle.problem.proofs.has_variable.Goals as goal

pub returns : goal.returns
returns c = rw (scope_taken c.args.s.now c.args.at, ← c.arity_at-a.ensures) c.is_named.ensures
