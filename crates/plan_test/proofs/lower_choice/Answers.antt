-- What `lower_choice` leaves to show: the choice that is made has the values with this number.
use Rattle.std.proofs.Common.{◌/◌, ◌%◌, length}
use Rattle.plan_test.proofs.PartChoices.{choice_front, choice_exists}
use Rattle.plan_test.proofs.Parts.{values_leave}
use Rattle.plan_test.proofs.lower_choice.Goals as goal

pub lower_rows-requires : goal.lower_rows-requires
lower_rows-requires c =
    let a = c.args in
    let q = c.requires in
    let one = c.with_value-one in
    let two = c.with_value-two in
    let three = c.with_value-choice in
    let front =
    choice_front (length a.sizes.now) a.plan.now a.p (a.c / 64) (a.c / 8 % 8) (a.c % 8) one.result two.result
    three.result q.0.variables one.ensures two.ensures three.ensures in
    let inside =
    choice_exists a.sizes.now a.plan.now a.p (a.c / 64) (a.c / 8 % 8) (a.c % 8) q.0.small q.5 in
    (q.0, q.2, rw front inside, q.6)

pub returns : goal.returns
returns c =
    let a = c.args in
    let q = c.requires in
    let one = c.with_value-one in
    let two = c.with_value-two in
    let three = c.with_value-choice in
    let front =
    choice_front (length a.sizes.now) a.plan.now a.p (a.c / 64) (a.c / 8 % 8) (a.c % 8) one.result two.result
    three.result q.0.variables one.ensures two.ensures three.ensures in
    let e = c.lower_rows.ensures in (
      e.0,
      λ h. values_leave a.d a.sizes.now a.s.now a.plan.now a.p (a.c / 64) (a.c / 8 % 8) (a.c % 8) _
          c.lower_rows.new.left q.2.variable q.3 front (e.1 h),
    )
