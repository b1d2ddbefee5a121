-- What `search_turn` leaves to show: what finds the sums leaves records and archive, and the plan goes on.
use Rattle.listing.proofs.Turns.{explorable_kept, plan_between}
use Rattle.listing.proofs.search_turn.Goals as goal

pub search_by-requires : goal.search_by-requires
search_by-requires c =
    let left = c.turn_sums-sums.ensures in
    (explorable_kept c.requires.0 left.0, plan_between c.requires.0 left.0 left.1 c.requires.1)
