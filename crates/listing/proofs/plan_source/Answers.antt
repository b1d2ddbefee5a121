-- What `plan_source` leaves to show: the records are copied behind the archive's rows and planned there, and the plan
-- is tested.
use Rattle.listing.proofs.PlanKept.{plan_asked, plan_kept, rows_kept, test_asked, plan_says}
use Rattle.listing.proofs.plan_source.Goals as goal

pub make_plan-requires : goal.make_plan-requires
make_plan-requires c =
    plan_asked c.requires.0 _ c.copy_numbers.ensures c.args.d c.requires.1

pub is_sound-requires : goal.is_sound-requires
is_sound-requires c =
    let plan = c.make_plan.ensures in
    test_asked c.requires.0 _ c.copy_numbers.ensures _ plan.0 plan.1 c.args.d c.requires.1 (plan.2, plan.3)

pub returns : goal.returns
returns c =
    let copy = c.copy_numbers.ensures in
    let plan = c.make_plan.ensures in (
      plan_kept c.requires.0 _ copy _ plan.0 plan.1,
      rows_kept c.requires.0 _ copy _ plan.0 plan.1,
      λ ok.
          plan_says c.requires.0 _ copy _ plan.0 plan.1 c.args.d c.requires.1 (plan.2, plan.3)
          (c.is_sound.ensures ok),
    )
