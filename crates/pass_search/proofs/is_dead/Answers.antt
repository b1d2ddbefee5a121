-- What `is_dead` leaves to show: its tests are those of `dead`, in their order.
use Rattle.model.specs.Search.{late}
use Rattle.pass_search.proofs.is_dead.Goals as goal

pub returns-in-Some : goal.returns-in-Some
unfolding late
returns-in-Some c =
    rw (
      c.in-Some.is,
      ← c.is_under.ensures,
      c.if-not-is_under.false,
      ← c.is_matched.ensures,
      c.if-is_matched.false,
      ← c.is_earlier.ensures,
    )

pub returns-in-None : goal.returns-in-None
unfolding late
returns-in-None c =
    rw (
      c.in-None.is,
      ← c.is_under.ensures,
      c.if-not-is_under.false,
      ← c.is_matched.ensures,
      c.if-is_matched.false,
    )
