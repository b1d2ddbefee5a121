-- What `try_shares` leaves to show: a plan is made, and all that follows reads it.
use Rattle.plan_adapting.proofs.Rounds.{adaptable_planned, adaptable_reordered, made_reordered}
use Rattle.plan_adapting.proofs.try_shares.Goals as goal

pub make_plan-requires : goal.make_plan-requires
make_plan-requires c =
    (adaptable_planned c.requires c.one_sum-d.ensures, c.requires.long)

pub follow-x-requires : goal.follow-x-requires
follow-x-requires c =
    let left = adaptable_reordered c.requires (made_reordered c.make_plan.ensures) in
    (adaptable_planned left c.one_sum-d.ensures, left.long)

pub costs_of-v-requires : goal.costs_of-v-requires
costs_of-v-requires c =
    let left = adaptable_reordered c.requires (made_reordered c.make_plan.ensures) in
    adaptable_planned left c.one_sum-d.ensures
