-- What `least_at` leaves to show: in the core the least entry is what the least number weighs.
use Rattle.std.proofs.Common.{sym, ap, ◌∙◌, drop}
use Rattle.model.specs.Core.{entry}
use Rattle.model.specs.Reading.{table_of}
use Rattle.model.proofs.Core.{core_least}
use Rattle.costs.proofs.least_at.Goals as goal

pub returns : goal.returns
returns c =
    let a = c.args in
    let weighs = core_least a.sizes.now a.prefix.now (table_of a.sizes.now (drop a.at a.s.now)) in
    (c.weigh.ensures.0 ∙ ap entry c.least_number.ensures ∙ sym weighs, c.weigh.ensures.1)
