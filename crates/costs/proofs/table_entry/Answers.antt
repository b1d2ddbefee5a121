-- What `table_entry` leaves to show: the entry is what the number weighs.
use Rattle.std.proofs.Common.{sym, ap, ◌∙◌, drop}
use Rattle.model.specs.Core.{entry}
use Rattle.model.specs.Reading.{table_of}
use Rattle.model.proofs.Core.{weighed_at}
use Rattle.costs.proofs.table_entry.Goals as goal

pub returns : goal.returns
returns c =
    let a = c.args in
    let weighs = weighed_at (table_of a.sizes.now (drop a.at a.s.now)).costs a.i in
    (c.weigh.ensures.0 ∙ ap entry c.number_at.ensures ∙ sym weighs, c.weigh.ensures.1)
