-- What is left to show of `exchange`: an exchange within the records, or within the slots, rearranges them.
use Rattle.std.proofs.Common.{arith}
use Rattle.plan_memory.proofs.Arranging.{records_exchanged, slots_exchanged}
use Rattle.plan_memory.proofs.exchange.Goals as goal

pub returns-then-j-r : goal.returns-then-j-r
returns-then-j-r c =
    let a = c.args in
    rw (c.swap.ensures.by_index.3 0)
    (records_exchanged a.r c.requires a.plan.now (omega arith) a.i a.j (omega arith) (omega arith))

pub returns-then-j-lt-MAX_MESSAGES : goal.returns-then-j-lt-MAX_MESSAGES
returns-then-j-lt-MAX_MESSAGES c =
    let a = c.args in
    rw (c.swap-then-j-lt-MAX_MESSAGES.ensures.by_index.3 0)
    (slots_exchanged a.r c.requires a.plan.now (omega arith) a.i a.j (omega arith) (omega arith))
