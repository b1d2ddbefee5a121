-- What `is_within` leaves to show: the bound's sums stand behind its costs.
use Rattle.std.proofs.Common.{ap, ◌∙◌, List, ℕ, ◌-◌, take, drop, arith}
use lib.Seq.{take-take}
use Rattle.model.specs.Vectors.{at_most}
use Rattle.branch_directions.specs.Directions.{max_sums, max_directions, sums_from}
use Rattle.branch_directions.proofs.SumsOf.{sums_front}
use Rattle.branch_pruning.proofs.is_within.Goals as goal

pub returns : goal.returns
returns c =
    let d = c.args.d in
    let p = d.objectives in
    let behind = take-take d.sums (max_directions - p) (drop p c.args.b)
    (omega (arith, c.requires.0.few, c.requires.0.few_sums)) in
    let costs = take p c.args.costs in
    c.is_at_most.ensures
    ∙ rw (c.sums_of-sums.ensures, sums_front d d.sums max_sums 0 costs c.requires.0.few_sums)
    (ap (λ (u : List ℕ). at_most u (sums_from d d.sums 0 costs)) behind)
