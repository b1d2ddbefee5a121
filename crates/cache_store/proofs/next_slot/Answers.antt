-- What `next_slot` leaves to show: the number read, or the first slot where there is none of that number.
use Rattle.std.proofs.Common.{sym, ◌∙◌, ◌<◌, ◌≤◌, arith}
use Rattle.cache_answers.specs.Stores.{slots_in}
use Rattle.cache_store.proofs.Slots.{slot_inside, next_there, next_first}
use Rattle.cache_store.proofs.next_slot.Goals as goal

pub returns-then-k-slots_in : goal.returns-then-k-slots_in
unfolding slots_in
returns-then-k-slots_in c =
    let store = c.args.store.now in
    let k = c.four_at-k in
    let there : k.result < slots_in store = omega (arith, c.slots_in.ensures) in
    (k.ensures ∙ sym (next_there store (rw k.ensures at there)), omega arith, slot_inside store k.result there)

pub returns-else-k-slots_in : goal.returns-else-k-slots_in
unfolding slots_in
returns-else-k-slots_in c =
    let store = c.args.store.now in
    let k = c.four_at-k in
    let there : slots_in store ≤ k.result = omega (arith, c.slots_in.ensures) in
    (sym (next_first store (rw k.ensures at there)), omega arith, omega arith)
