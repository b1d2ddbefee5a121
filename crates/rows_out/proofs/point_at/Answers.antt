-- `point_at` meets its contract: costs and values are written over zeros.
use Rattle.std.proofs.Common.{◌≡◌, take, arith}
use Rattle.model.specs.Limits.{max_objectives, max_variables}
use Rattle.rows.specs.Rows.{costs_in, values_in}
use Rattle.rows.proofs.RowNumbers.{costs_long, costs_front, values_long, values_front}
use Rattle.rows_out.proofs.OverZeros.{front_over_zeros}
use Rattle.rows_out.proofs.point_at.Goals as goal

pub put_costs-requires : goal.put_costs-requires
put_costs-requires c =
    let front = costs_front c.args.work.now c.args.row c.args.p max_objectives c.requires.3 in
    (c.requires.3, omega arith, rw (c.row_costs.ensures, front) c.requires.4)

pub returns : goal.returns
returns c =
    let a = c.args in
    let work = a.work.now in
    let row-costs : take a.p c.row_costs.result ≡ costs_in a.p work a.row =
    rw c.row_costs.ensures (costs_front work a.row a.p max_objectives c.requires.3) in
    let row-values : take a.n c.row_choice.result ≡ values_in a.n work a.row =
    rw c.row_choice.ensures (values_front work a.row a.n max_variables c.requires.2) in
    let four = costs_long work a.row max_objectives in
    let all = values_long work a.row max_variables in
    let padded-costs =
    front_over_zeros max_objectives a.p c.row_costs.result c.requires.3
    (rw c.row_costs.ensures (omega (arith, four))) _ c.put_costs.ensures in
    let padded-choice =
    front_over_zeros max_variables a.n c.row_choice.result c.requires.2
    (rw c.row_choice.ensures (omega (arith, all))) _ c.put_choice.ensures in
    let costs_are = rw row-costs at padded-costs in
    let choice-is = rw row-values at padded-choice in
    λ i. record { costs = costs_are i; choice = choice-is i }
