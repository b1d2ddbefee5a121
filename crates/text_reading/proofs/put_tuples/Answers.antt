-- What the loop of `put_tuples` leaves to show.
use Rattle.std.proofs.Common.{◌≡◌, ℕ, length, subst, arith, rules}
use Rattle.text_reading.proofs.Tuples.{Putting, putting_start, tuple_due, putting_more}
use Rattle.text_reading.proofs.put_tuples.Goals as goal

pub loop-init : goal.loop-init
loop-init c =
    let a = c.args in
    putting_start a.s.now a.f.scope a.f.end a.to a.out.now c.requires.within

pub put_tuple-next-requires : goal.put_tuple-next-requires
put_tuple-next-requires c =
    let p = c.requires in
    let three : length c.args.f.scope.sizes ≡ 3 = search rules in
    record {
      table = p.table;
      within = c.loop.invariant.within;
      right = tuple_due three p.table c.args.f.count p.right (omega arith) c.loop.invariant;
    }

pub loop-preserved : goal.loop-preserved
loop-preserved c =
    let p = c.requires in
    let three : length c.args.f.scope.sizes ≡ 3 = search rules in
    putting_more three p.table c.args.f.count p.right (omega arith) c.loop.invariant _ _ c.put_tuple-next.ensures

pub returns : goal.returns
returns c =
    let a = c.args in
    let w = c.loop in
    let all : w.counter ≡ a.f.count = omega arith in
    let end : Putting a.s.now a.f.scope a.f.end a.to a.f.count a.out.now w.out w.next =
    subst (λ (n : ℕ). Putting a.s.now a.f.scope a.f.end a.to n a.out.now w.out w.next) all w.invariant in
    record { within = end.within; rest = end.words; kept = end.kept; put = end.put }
