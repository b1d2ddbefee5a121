-- What the loop of `turn_records` leaves to show.
use Rattle.std.proofs.Common.{arith}
use Rattle.form_call.proofs.TurnedRecords.{turn_told, turned_all, whole, behind, distinct}
use Rattle.form_call.proofs.turn_records.Goals as goal

pub put_turned-requires : goal.put_turned-requires
put_turned-requires c =
    let u = c.loop-i.invariant in
    let room = behind _ _ c.args.at _ _ _ _ c.loop-i.here c.loop-i.i u (omega (arith, u.many)) in (
      whole _ _ c.args.at _ _ _ _ c.loop-i.here c.loop-i.i u (omega (arith, u.many)),
      c.requires.0.small,
      distinct _ _ c.args.at _ _ _ _ c.loop-i.here c.loop-i.i u (omega (arith, u.many)),
      omega (arith, room, u.room, u.kept),
    )

pub loop-i-preserved : goal.loop-i-preserved
loop-i-preserved c =
    let a = c.args in
    let u = c.loop-i.invariant in
    turn_told a.sizes.now a.s.now a.at a.turned.now a.parts.now c.loop-i.turned c.loop-i.parts c.loop-i.here
    c.loop-i.i u (omega (arith, u.many)) c.put_turned.ensures c.place_after-next.ensures c.part_of.ensures

pub returns : goal.returns
returns c = turned_all c.loop-i.invariant (omega (arith, c.loop-i.invariant.many))
