-- What `check_tuples` leaves to show: a tuple that decides, one more, and the last.
use Rattle.std.proofs.Common.{suc, ◌+◌, ◌*◌, length, arith}
use Rattle.text_checking.proofs.Runs.{run_begin, run_done, run_stop, run_on}
use Rattle.text_checking.proofs.check_tuples.Goals as goal

pub loop-i-init : goal.loop-i-init
loop-i-init c = run_begin c.args.s.now _ _ c.args.count c.args.at c.requires.0

pub returns-then-decides : goal.returns-then-decides
returns-then-decides c =
    let a = c.args in
    let w = c.loop-i in
    let wide = suc (length a.entries.now + a.far.count) in
    run_stop a.s.now _ wide a.count a.at w._i w.finding w.next (omega arith) w.invariant c.check_tuple-step.result
    c.check_tuple-step.ensures c.and_then-finding.result c.and_then-finding.ensures (a.count * wide)
    (c.decides.ensures.0 c.if-decides.true)

pub loop-i-preserved : goal.loop-i-preserved
loop-i-preserved c =
    let a = c.args in
    let w = c.loop-i in
    run_on a.s.now _ _ a.count a.at w._i w.finding w.next (omega arith) w.invariant c.check_tuple-step.result
    c.check_tuple-step.ensures c.and_then-finding.result c.and_then-finding.ensures
    (c.decides.ensures.1 c.if-decides.false)

pub returns : goal.returns
returns c =
    let a = c.args in
    let w = c.loop-i in
    run_done a.s.now _ _ a.count a.at w._i w.finding w.next (omega arith) w.invariant
