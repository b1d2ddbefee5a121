-- `store_point` meets its contract: the values are written behind the costs.
use Rattle.std.proofs.Common.{arith}
use Rattle.model.specs.Limits.{max_objectives}
use Rattle.rows.proofs.PaddedParts.{padded_long}
use Rattle.rows.proofs.RowWrites.{row_stored}
use Rattle.rows.proofs.store_point.Goals as goal

pub returns : goal.returns
returns c =
    let a = c.args in
    let wide = padded_long max_objectives a.p a.costs c.requires.2 (omega arith) in
    row_stored a.k c.store_costs.ensures c.store_choice.ensures wide (omega arith) c.requires.1 c.requires.0
