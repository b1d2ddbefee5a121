-- What the loop of `find_points` leaves to show: a pass gives the next point, or says that none is left.
use Rattle.std.proofs.Common.{◌≡◌, arith}
use Rattle.pass_list.proofs.Passing.{passing_start, passing_setting, passing_stands, says_done, says_full, passing_next}
use Rattle.pass_list.proofs.find_points.Goals as goal

pub loop-k-init : goal.loop-k-init
loop-k-init c = passing_start c.args.task c.args.sizes.now c.args.s.now c.args.work.now c.requires.0.grouped

pub next_point-requires : goal.next_point-requires
next_point-requires c =
    let q = c.requires in
    let u = c.loop-k.invariant in
    (passing_setting q.0 q.4 u (omega arith), passing_stands q.0 q.4 u c.args.root q.1, q.2)

pub returns-in_default : goal.returns-in_default
returns-in_default c =
    let q = c.requires in
    says_done q.0 q.4 c.loop-k.invariant _ c.next_point.ensures c.in_default.is c.args.task.room (omega arith)

pub loop-k-preserved : goal.loop-k-preserved
loop-k-preserved c =
    let q = c.requires in
    passing_next q.0 q.4 c.loop-k.invariant _ c.next_point.ensures c.in-Some.met c.in-Some.is (omega arith) _
    c.store_point.ensures

-- behind the loop the room is full
pub next_point-requires-2 : goal.next_point-requires-2
next_point-requires-2 c =
    let q = c.requires in
    let all : c.loop-k.k ≡ c.args.task.room = omega arith in
    let u = rw all at c.loop-k.invariant in
    (passing_setting q.0 q.4 u q.3, passing_stands q.0 q.4 u c.args.root q.1, q.2)

pub returns-in-Some-next_point : goal.returns-in-Some-next_point
returns-in-Some-next_point c =
    let q = c.requires in
    let all : c.loop-k.k ≡ c.args.task.room = omega arith in
    says_full q.0 q.4 (rw all at c.loop-k.invariant) _ c.next_point-2.ensures _ c.in-Some-next_point.is
    c.args.task.room (omega arith)

pub returns-in-None : goal.returns-in-None
returns-in-None c =
    let q = c.requires in
    let all : c.loop-k.k ≡ c.args.task.room = omega arith in
    says_done q.0 q.4 (rw all at c.loop-k.invariant) _ c.next_point-2.ensures c.in-None.is c.args.task.room
    (omega arith)
