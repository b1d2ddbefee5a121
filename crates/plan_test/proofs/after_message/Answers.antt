-- What `after_message` leaves to show: the part of the bucket that the message sends.
use Rattle.std.proofs.Common.{refl, arith, add-zero}
use Rattle.std.proofs.lemmas.Option.{IfSome_then}
use Rattle.branch_buckets.proofs.ContentRows.{planned_fewer}
use Rattle.plan_test.specs.declared.Part as DP
use Rattle.plan_test.proofs.Limits.{records_inside}
use Rattle.plan_test.proofs.Parts.{holding_skip, holding_next}
use Rattle.plan_test.proofs.after_message.Goals as goal

pub returns-then-plan-at : goal.returns-then-plan-at
returns-then-plan-at c =
    let a = c.args in
    holding_skip a.d a.sizes.now a.s.now a.plan.now a.k a.g c.requires.3 a.held c.requires.4
    (rw add-zero c.if-plan-at.true)

pub part_fits-requires : goal.part_fits-requires
part_fits-requires c =
    let q = c.requires in
    let planned = planned_fewer q.0.planned c.max-to.result (omega arith) in (
      q.2,
      record { records = omega arith; children = omega arith; children_end = omega (arith, q.0.slots) },
      planned.few,
      records_inside planned,
      q.1,
    )

pub part_rest-requires : goal.part_rest-requires
part_rest-requires c =
    let q = c.requires in (
      planned_fewer q.0.planned c.max-to.result (omega arith),
      q.1,
      record {
        variable = rw c.variable_at-own.ensures.0 q.0.variable;
        known = q.2;
        ranged = record { records = omega arith; children = omega arith; children_end = omega (arith, q.0.slots) };
        rows = q.4.rows;
      },
      c.part_fits.ensures c.if-not-part_fits.false,
    )

pub returns : goal.returns
returns c =
    let a = c.args in
    let q = c.requires in
    let held = a.held in
    let p : DP.Part =
    record {
      message = a.g;
      own = c.variable_at-own.result;
      span = record { from = held.span.to; to = c.max-to.result; first = held.span.last; last = c.max-last.result };
      rest = held.rest;
    } in
    IfSome_then c.part_rest.result c.part_rest.ensures
    (λ next. holding_next a.d a.sizes.now a.s.now a.plan.now a.k a.g q.3 held q.4 p next refl
    c.variable_at-own.ensures.0 refl refl refl
    (record { records = omega arith; children = omega arith; children_end = omega (arith, q.0.slots) })
    (omega arith) (omega arith))
