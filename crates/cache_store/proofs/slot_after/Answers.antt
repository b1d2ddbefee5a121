-- What `slot_after` leaves to show: one on, or the first behind the last.
use Rattle.std.proofs.Common.{sym, arith}
use Rattle.cache_store.proofs.Slots.{after_next, after_last}
use Rattle.cache_store.proofs.slot_after.Goals as goal

pub returns-then-k-slots : goal.returns-then-k-slots
returns-then-k-slots c = (sym (after_next c.args.slots c.args.k (omega arith)), omega arith)

pub returns-else-k-slots : goal.returns-else-k-slots
returns-else-k-slots c = (sym (after_last c.args.slots c.args.k (omega arith)), omega arith)
