-- The loop of `scope_ok`: what is left of the scope keeps the rule as the whole does.
use Rattle.std.proofs.Common.{◌≡◌, ◌+◌, ◌-◌, take, drop}
use Rattle.model.specs.Problems.{scope_rule}
use Rattle.problem.proofs.scope_ok.Given as goal

abbrev pub invariant-loop-i : goal.invariant-loop-i
invariant-loop-i l =
    scope_rule l.n (take (l.arity - l.i) (drop (l.at + l.i) l.s))
    ≡ scope_rule l.n (take l.arity (drop l.at l.s))
