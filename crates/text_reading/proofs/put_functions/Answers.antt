-- What the loop of `put_functions` leaves to show.
use Rattle.std.proofs.Common.{arith}
use Rattle.text_reading.specs.Heads.{domain_list}
use Rattle.text_reading.proofs.Listings.{listing_start, listing_due, listing_end, function_right}
use Rattle.text_reading.proofs.Listings.{function_room, listing_more}
use Rattle.text_reading.proofs.put_functions.Goals as goal

pub loop-init : goal.loop-init
loop-init c =
    let a = c.args in
    let p = c.requires in
    listing_start a.s.now (domain_list a.d) a.count a.at a.to a.out.now p.within p.right p.room

pub put_function-next-requires : goal.put_function-next-requires
put_function-next-requires c =
    let due = listing_due c.args.count c.loop.counter (omega arith) c.loop.invariant in
    (record { domains = c.requires.domains; within = due.within; right = function_right due }, function_room due)

pub loop-preserved : goal.loop-preserved
loop-preserved c =
    listing_more (listing_due c.args.count c.loop.counter (omega arith) c.loop.invariant) _ _
    c.put_function-next.ensures

pub returns : goal.returns
returns c = listing_end c.args.count c.loop.counter (omega arith) c.loop.invariant
