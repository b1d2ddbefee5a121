-- What the loop of `merge_points` leaves to show: a pass gives the next sum, or says that none is left.
use Rattle.std.proofs.Common.{◌≡◌, arith}
use Rattle.pass_list.proofs.Made.{made_start}
use Rattle.cut_sums.proofs.Merging.{Summed, merging_halved, merging_done, merging_last, merging_next}
use Rattle.cut_sums.proofs.merge_points.Goals as goal

pub loop-k-init : goal.loop-k-init
loop-k-init c =
    let a = c.args in
    made_start (Summed a.p a.n a.ceilings a.work.now a.a a.b) a.p a.n a.work.now

pub next_sum-requires : goal.next_sum-requires
next_sum-requires c =
    let w = c.loop-k in
    merging_halved c.requires.0 c.args.ceilings w.work w.k w.invariant (omega arith)

pub returns-in_default : goal.returns-in_default
returns-in_default c =
    let w = c.loop-k in
    merging_done c.requires.0 c.args.ceilings w.work w.k w.invariant c.next_sum.result c.next_sum.ensures
    c.in_default.is c.args.room (omega arith)

pub loop-k-preserved : goal.loop-k-preserved
loop-k-preserved c =
    let w = c.loop-k in
    merging_next c.requires.0 c.args.ceilings w.work w.k w.invariant c.next_sum.result c.next_sum.ensures
    c.in-Some.met c.in-Some.is (omega arith) _ c.store_point.ensures

-- behind the loop the room is full
pub next_sum-next-requires : goal.next_sum-next-requires
next_sum-next-requires c =
    let w = c.loop-k in
    let all : w.k ≡ c.args.room = omega arith in
    merging_halved c.requires.0 c.args.ceilings w.work c.args.room (rw all at w.invariant) c.requires.1

pub returns : goal.returns
returns c =
    let w = c.loop-k in
    let all : w.k ≡ c.args.room = omega arith in
    rw c.then_some.ensures
    (merging_last c.requires.0 c.args.ceilings w.work c.args.room (rw all at w.invariant) c.next_sum-next.result
    c.next_sum-next.ensures c.is_some-is_more.result c.is_some-is_more.ensures)
