-- What the loop of `store_costs` leaves to show.
use Rattle.std.proofs.Common.{◌≡◌, ◌∙◌, get_or, take, arith}
use Rattle.model.specs.Limits.{max_objectives}
use Rattle.model.specs.Calls.{padded}
use Rattle.rows.proofs.PaddedParts.{padded_front, padded_rest}
use Rattle.rows.proofs.Packing.{costs_more}
use Rattle.rows.proofs.store_costs.Goals as goal
use Rattle.rows.proofs.store_costs.Goals.{then-i-p, else-i-p}

pub loop-i-preserved : goal.loop-i-preserved
loop-i-preserved c =
    let a = c.args in
    let few = c.requires.1 in
    let is : c.if-i-p.cost ≡ get_or (padded max_objectives (take a.p a.costs)) c.loop-i.i 0 =
    elim c.if-i-p.branch [
      | then-i-p w ↦ w.cost-is
          ∙ padded_front max_objectives a.p a.costs few (omega arith) c.loop-i.i (omega (arith, w.if-i-p.true))
      | else-i-p w ↦ w.cost-is
          ∙ padded_rest max_objectives a.p a.costs few (omega arith) c.loop-i.i (omega (arith, w.if-i-p.false))
          (omega arith)
    ] in
    costs_more c.loop-i.invariant (omega arith) c.requires.0 c.if-i-p.cost is
