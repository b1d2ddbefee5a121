-- `frontier_to_text`: what `problem_to_text` promises, as C is told it.
use Rattle.text_networks.specs.Conversions.{to_text_outcome}
use Rattle.frontier.proofs.Places.{to_text_place}
use Rattle.frontier.proofs.Promises.{convert_export}
use Rattle.frontier.proofs.frontier_to_text.Goals as goal

pub returns : goal.returns
returns c =
    let a = c.args in
    let told = c.tell_count.ensures in
    convert_export {o = to_text_outcome a.problem.now a.text.now}
    c.problem_to_text-converted.result c.problem_to_text-converted.ensures
    (to_text_place a.problem.now a.text.now)
    _ _ _ told.number told.place told.count
