-- What `search_by` leaves to show: a plan that passed its test is searched by, and one that failed it leaves the
-- archive as it was.
use Rattle.listing.proofs.Turns.{turned_since, plan_between, plan_failed, plan_ready, explored_turned}
use Rattle.listing.proofs.search_by.Goals as goal

pub returns-then-not-plan_source : goal.returns-then-not-plan_source
returns-then-not-plan_source c =
    let made = c.plan_source.ensures in
    rw c.not_made.ensures (plan_failed c.requires.0 made.0 made.1 c.requires.1 _)

pub explore-requires : goal.explore-requires
explore-requires c =
    let d = c.choose_directions-d in
    let made = c.plan_source.ensures in (
      plan_ready c.requires.0 made.0 d.result d.ensures.1 (made.2 c.if-not-plan_source.false),
      plan_between c.requires.0 made.0 made.1 c.requires.1,
    )

pub returns : goal.returns
returns c =
    let a = c.args in
    let e = c.explore in
    let turned = explored_turned a.task _ _ _ _ e.result a.from.budget e.ensures.0 e.ensures.1 in
    turned_since c.requires.0 c.plan_source.ensures.0 _ e.result turned
