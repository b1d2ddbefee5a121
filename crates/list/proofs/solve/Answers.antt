-- A problem that was read has an objective and a variable.
use Rattle.problem.proofs.Accepted.{read_accepted}
use Rattle.list.proofs.solve.Goals as goal

pub returns : goal.returns
returns c =
    let a = read_accepted c.args.problem.now c.in_ok-q.q c.in_ok-q.ensures.problem in
    (a.few_objectives.0, a.few_variables.0)
