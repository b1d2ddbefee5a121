-- `bound_prefix` promises what `bound_of` does, and that the problem's elements are bytes.
use Rattle.std.proofs.Common.{arith}
use Rattle.frontier.proofs.Promises.{bound_promise}
use Rattle.frontier.proofs.bound_prefix.Goals as goal

pub returns : goal.returns
returns c =
    bound_promise c.args.problem.now (λ i. omega (arith, c.type_inv.problem i)) c.args.prefix.now c.bound_of.result
    c.bound_of.ensures
