-- What `Partial::with` leaves to show: the bound is what the tables of the variable add now and what the others add.
use Rattle.std.proofs.Common.{refl, arith}
use Rattle.pass_search.proofs.Partials.{standing, next_prefix, next_good, sum_fits, next_bound_lem}
use Rattle.pass_search.proofs.Partial.with.Goals as goal

pub group_bounds-touched-requires : goal.group_bounds-touched-requires
group_bounds-touched-requires c =
    let q = c.requires in
    (q.0, q.2, next_good (standing q.0 q.1 _ c.well_formed.0) q.2 c.args.v q.3)

pub overflow_add-result : goal.overflow_add-result
overflow_add-result c =
    let q = c.requires in
    sum_fits (standing q.0 q.1 _ c.well_formed.0) q.2 c.args.v c.args.rest q.4 c.group_bounds-touched.result
    c.group_bounds-touched.ensures (λ i. omega (arith, c.type_inv.s i)) 0 (omega arith)

pub overflow_add-result-2 : goal.overflow_add-result-2
overflow_add-result-2 c =
    let q = c.requires in
    sum_fits (standing q.0 q.1 _ c.well_formed.0) q.2 c.args.v c.args.rest q.4 c.group_bounds-touched.result
    c.group_bounds-touched.ensures (λ i. omega (arith, c.type_inv.s i)) 1 (omega arith)

pub overflow_add-result-3 : goal.overflow_add-result-3
overflow_add-result-3 c =
    let q = c.requires in
    sum_fits (standing q.0 q.1 _ c.well_formed.0) q.2 c.args.v c.args.rest q.4 c.group_bounds-touched.result
    c.group_bounds-touched.ensures (λ i. omega (arith, c.type_inv.s i)) 2 (omega arith)

pub overflow_add-result-4 : goal.overflow_add-result-4
overflow_add-result-4 c =
    let q = c.requires in
    sum_fits (standing q.0 q.1 _ c.well_formed.0) q.2 c.args.v c.args.rest q.4 c.group_bounds-touched.result
    c.group_bounds-touched.ensures (λ i. omega (arith, c.type_inv.s i)) 3 (omega arith)

pub returns : goal.returns
returns c =
    let q = c.requires in
    let a = standing q.0 q.1 _ c.well_formed.0 in
    let bound = next_bound_lem a q.2 c.args.v c.args.rest q.4 c.group_bounds-touched.result
    c.group_bounds-touched.ensures in (
      record { short = omega (arith, q.2); good = next_good a q.2 c.args.v q.3; exact = bound },
      refl,
      next_prefix a q.2 c.args.v,
    )
