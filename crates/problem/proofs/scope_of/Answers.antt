-- The variables of a scope stand from byte 4 of its record on.
use Rattle.std.proofs.Common.{◌≡◌, sym, ◌+◌, ◌-◌, drop, arith}
use Rattle.model.specs.Reading.{table_arity}
use Rattle.problem.proofs.Scopes.{scope_taken}
use Rattle.problem.proofs.scope_of.Goals as goal

pub returns : goal.returns
returns c =
    let at = c.args.at in
    let long : at + 4 + c.arity_at-a.result - (at + 4) ≡ table_arity (drop at c.args.s.now) =
    omega (arith, c.arity_at-a.ensures) in
    rw long (sym (scope_taken c.args.s.now at))
