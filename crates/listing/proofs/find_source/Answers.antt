-- What `find_source` leaves to show: both forms find the same list, and the first one is right whatever the second has
-- left in memory.
use Rattle.listing.proofs.Forms.{source_kept, first_after}
use Rattle.listing.proofs.find_source.Goals as goal

pub returns-then-e : goal.returns-then-e
returns-then-e c = rw c.found_of-found.ensures (c.explore_source-t.ensures.found c.if-e.true)

pub find_source-found-requires-2 : goal.find_source-found-requires-2
find_source-found-requires-2 c = (source_kept c.requires.0 c.explore_source-t.ensures.kept, c.requires.1)

pub returns : goal.returns
returns c =
    let f = c.find_source-found-2 in
    first_after c.requires.0 c.explore_source-t.ensures.kept _ f.result f.ensures
