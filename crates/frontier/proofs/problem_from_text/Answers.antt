-- `problem_from_text` promises what `from_text` does, and that what is read are bytes.
use Rattle.std.proofs.Common.{arith}
use Rattle.text_networks.specs.Conversions.{from_text_outcome}
use Rattle.frontier.proofs.Promises.{convert_promise}
use Rattle.frontier.proofs.problem_from_text.Goals as goal

pub returns : goal.returns
returns c =
    let a = c.args in
    convert_promise a.text.now (λ i. omega (arith, c.type_inv.text i))
    (from_text_outcome a.text.now a.problem.now) c.from_text.result c.from_text.ensures
