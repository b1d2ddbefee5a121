-- Number k of a scope's variables stands k bytes behind its record's byte 4.
use Rattle.std.proofs.Common.{sym}
use Rattle.problem.proofs.Scopes.{scope_variable}
use Rattle.problem.proofs.scope_at.Goals as goal

pub returns : goal.returns
returns c = sym (scope_variable c.args.s.now c.args.at c.args.k c.requires.1)
