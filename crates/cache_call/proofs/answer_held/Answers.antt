-- What `answer_held` leaves to show: what the slot holds is loaded where the caller has room for it.
use Rattle.std.proofs.Common.{arith}
use Rattle.cache_call.proofs.Rooms.{costs_room, choices_room, costs_few, choices_few}
use Rattle.cache_call.proofs.Held.{held_full, held_fits}
use Rattle.cache_call.proofs.answer_held.Goals as goal

pub returns-then-is_short : goal.returns-then-is_short
returns-then-is_short c =
    let a = c.args in
    held_full a.head a.costs.now a.choices.now a.work.now a.store.now a.k c.count_in-points.result
    c.flat_room-room.result c.count_in-points.ensures c.flat_room-room.ensures c.clear.ensures (omega arith)
    c.at.result c.at.ensures.reason c.at.ensures.place

pub load_costs-requires : goal.load_costs-requires
load_costs-requires c =
    let a = c.args in
    let points = c.count_in-points.result in (
      c.requires.0,
      costs_few a.head c.requires.1 points (omega (arith, c.count_in-points.ensures)),
      costs_room a.head a.costs.now a.choices.now points c.flat_room-room.result c.flat_room-room.ensures (omega arith),
    )

pub load_choices-requires : goal.load_choices-requires
load_choices-requires c =
    let a = c.args in
    let points = c.count_in-points.result in (
      c.requires.0,
      choices_few a.head c.requires.1 points (omega (arith, c.count_in-points.ensures)),
      choices_room a.head a.costs.now a.choices.now points c.flat_room-room.result c.flat_room-room.ensures
          (omega arith),
    )

pub returns : goal.returns
returns c =
    let a = c.args in
    held_fits a.head a.costs.now a.choices.now a.work.now a.store.now a.k c.count_in-points.result
    c.flat_room-room.result c.count_in-points.ensures c.flat_room-room.ensures c.clear.ensures (omega arith)
    c.load_costs.ensures c.load_choices.ensures
