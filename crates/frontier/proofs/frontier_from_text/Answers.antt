-- `frontier_from_text`: what `problem_from_text` promises, as C is told it.
use Rattle.text_networks.specs.Conversions.{from_text_outcome}
use Rattle.frontier.proofs.Places.{from_text_place}
use Rattle.frontier.proofs.Promises.{convert_export}
use Rattle.frontier.proofs.frontier_from_text.Goals as goal

pub returns : goal.returns
returns c =
    let a = c.args in
    let told = c.tell_count.ensures in
    convert_export {o = from_text_outcome a.text.now a.problem.now}
    c.problem_from_text-converted.result c.problem_from_text-converted.ensures
    (from_text_place a.text.now a.problem.now)
    _ _ _ told.number told.place told.count
