-- `problem_to_text` promises what `to_text` does, and that what is read are bytes.
use Rattle.std.proofs.Common.{arith}
use Rattle.text_networks.specs.Conversions.{to_text_outcome}
use Rattle.frontier.proofs.Promises.{convert_promise}
use Rattle.frontier.proofs.problem_to_text.Goals as goal

pub returns : goal.returns
returns c =
    let a = c.args in
    convert_promise a.problem.now (λ i. omega (arith, c.type_inv.problem i))
    (to_text_outcome a.problem.now a.text.now) c.to_text.result c.to_text.ensures
