-- What the loop of `scan_tables` leaves to show. Past the branch the record here is good, its length is what
-- `scan_table` says, and the next one starts in the list.
use Rattle.std.proofs.Common.{◌≡◌, sym, ◌∙◌, suc, ◌+◌, ◌-◌, ◌≤◌, length, arith}
use native.Mathlib.Nat.{sub-zero}
use Rattle.model.proofs.Reasons.{number_positive}
use Rattle.problem.proofs.TableSteps.{table_next, tables_go, tables_stop, tables_left, tables_end}
use Rattle.problem.proofs.scan_tables.Goals as goal

next : (c : goal.In-Ok) → c.loop.here + c.in-Ok.length ≤ length c.args.s.now
next c =
    rw c.in-Ok.ensures.width (table_next _ _ _ _ c.loop.invariant.inside (sym c.in-Ok.ensures.number))

pub loop-init : goal.loop-init
loop-init c = record { inside = c.requires.0; rest = rw sub-zero }

pub scan_table-requires : goal.scan_table-requires
scan_table-requires c = (c.loop.invariant.inside, c.requires.1)

pub overflow_add-here : goal.overflow_add-here
overflow_add-here c = omega (arith, next c)

pub returns-in-Err : goal.returns-in-Err
returns-in-Err c =
    let w = c.loop in
    let more : c.args.r - w.counter ≡ suc (c.args.r - (w.counter + 1)) = omega arith in
    let e = c.in-Err.ensures.number in
    let stop =
    tables_stop (c.args.r - (w.counter + 1)) c.args.p c.args.sizes.now c.args.s.now w.here
    (λ z. number_positive _ (e ∙ z))
    in
    rw (c.at.ensures.reason, c.at.ensures.place, e) (sym (sym (rw more at w.invariant.rest) ∙ stop))

pub loop-preserved : goal.loop-preserved
loop-preserved c =
    let w = c.loop in
    let more : c.args.r - w.counter ≡ suc (c.args.r - (w.counter + 1)) = omega arith in
    let goes =
    tables_go (c.args.r - (w.counter + 1)) c.args.p c.args.sizes.now c.args.s.now w.here (sym c.in-Ok.ensures.number) in
    record {
      inside = next c;
      rest = sym (rw (← c.in-Ok.ensures.width) at goes) ∙ rw more at w.invariant.rest;
    }

pub returns-then-here-s : goal.returns-then-here-s
returns-then-here-s c =
    let none : c.args.r - c.loop.counter ≡ 0 = omega arith in
    rw (c.at-then-here-s.ensures.reason, c.at-then-here-s.ensures.place)
    (sym (tables_left _ _ _ _ c.if-here-s.true) ∙ rw none at c.loop.invariant.rest)

pub returns : goal.returns
returns c =
    let none : c.args.r - c.loop.counter ≡ 0 = omega arith in
    sym (tables_end _ _ _ _ c.if-here-s.false) ∙ rw none at c.loop.invariant.rest
