-- What `check_functions` leaves to show: a function that decides, one more, a further word, and nothing more.
use Rattle.std.proofs.Common.{◌<◌, arith}
use Rattle.text_checking.proofs.FunctionRuns.{functions_begin, functions_stop, functions_on}
use Rattle.text_checking.proofs.FunctionRuns.{functions_more, functions_done}
use Rattle.text_checking.proofs.check_functions.Goals as goal

pub loop-i-init : goal.loop-i-init
loop-i-init c =
    let a = c.args in
    functions_begin a.s.now a.declared a.count a.front a.start.finding a.start.next c.requires.0 c.requires.2

pub check_function-one-requires : goal.check_function-one-requires
check_function-one-requires c =
    let w = c.loop-i in
    (w.invariant.within, c.requires.1, w.invariant.light, λ z. (c.requires.3 (w.invariant.none z)).0)

pub returns-then-decides : goal.returns-then-decides
returns-then-decides c =
    let a = c.args in
    let w = c.loop-i in
    let says = functions_stop a.s.now a.declared a.count a.front a.start.finding a.start.next w._i w.finding w.next
    w.bytes w.invariant (omega arith) c.check_function-one.result c.check_function-one.ensures w.bytes
    (c.decides.ensures.0 c.if-decides.true) in
    record { finding = says.finding; bytes = says.bytes }

pub loop-i-preserved : goal.loop-i-preserved
loop-i-preserved c =
    let a = c.args in
    let w = c.loop-i in
    functions_on a.s.now a.declared a.count a.front a.start.finding a.start.next w._i w.finding w.next w.bytes
    w.invariant (omega arith) c.check_function-one.result c.check_function-one.ensures c.added-bytes.result
    c.added-bytes.ensures (λ z. ((c.requires.3 z).1, (c.requires.3 z).2)) (c.decides.ensures.1 c.if-decides.false)

pub returns-then-word : goal.returns-then-word
returns-then-word c =
    let a = c.args in
    let w = c.loop-i in
    let word = c.next_word-word in
    let some : word.result.start < word.result.end = omega (arith, word.ensures.ordered, c.if-word.true) in
    let says = functions_more a.s.now a.declared a.count a.front a.start.finding a.start.next w._i w.finding w.next
    w.bytes w.invariant c.loop-i-test.false _ _ (word.ensures.some some) w.bytes in
    record { finding = says.finding; bytes = says.bytes }

pub returns : goal.returns
returns c =
    let a = c.args in
    let w = c.loop-i in
    let word = c.next_word-word in
    let says = functions_done a.s.now a.declared a.count a.front a.start.finding a.start.next w._i w.finding w.next
    w.bytes w.invariant c.loop-i-test.false (word.ensures.none c.if-word.false) in
    record { finding = says.finding; bytes = says.bytes }
