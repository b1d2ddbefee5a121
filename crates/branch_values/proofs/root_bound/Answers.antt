-- What `root_bound` leaves to show: a choice of zeros decides nothing.
use Rattle.std.proofs.Common.{ℕ, ◌<◌, ◌≡◌, List, length, get_or, take, set, replicate, ap, ◌∙◌, arith}
use Rattle.model.specs.Limits.{max_variables}
use Rattle.model.specs.Problems.{DomainSize}
use Rattle.model.proofs.Elements.{all_below}
use Rattle.model.proofs.Zeros.{zeros_at, zeros_set, zeros_choice, front_same}
use Rattle.branch_directions.specs.Directions.{max_directions}
use Rattle.branch_buckets.specs.Bounds.{base_at}
use Rattle.branch_values.proofs.root_bound.Goals as goal

pub content-rows-requires : goal.content-rows-requires
content-rows-requires c =
    let ends = c.requires.1.ends in
    let sizes = c.args.sizes.now in (
      c.requires.0,
      record {
        records = ends.records_first;
        children = omega (arith, ends.messages_first, ends.children_first);
        children_end = omega (arith, ends.messages_first);
      },
      c.requires.3,
      rw (front_same (length sizes) max_variables 0 c.requires.0.variables) (zeros_choice sizes c.requires.0.small),
    )

pub returns : goal.returns
returns c =
    let a = c.args in
    let n = length a.sizes.now in
    let first : 0 < get_or a.sizes.now 0 0 =
    (all_below DomainSize a.sizes.now c.requires.0.small 0 0 c.requires.3).0 in
    let zeros : take {A = ℕ} n (replicate max_variables 0) ≡ replicate n 0 =
    front_same n max_variables 0 c.requires.0.variables in
    λ j l. let base =
    (c.content-rows.ensures 0 j first l).0
    ∙ ap (λ (u : List ℕ). base_at a.d a.sizes.now a.s.now a.plan.now a.r u j)
    (ap (λ (u : List ℕ). set u 0 0) zeros ∙ zeros_set n) in
    omega (arith, c.row_of.ensures.1 j l, zeros_at max_directions j, base)
