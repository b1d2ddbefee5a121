-- What `save` leaves to show: the slot that is due is filled, and the one behind it is due next.
use Rattle.std.proofs.Common.{◌∙◌, ap, ℕ, ◌+◌, ◌*◌, arith}
use Rattle.form_canonical.proofs.Places.{over_part}
use Rattle.cache_answers.specs.Stores.{slot_size, choices_at, slots_in, Answer, slot_after}
use Rattle.cache_store.proofs.Saving.{slot_filled, all_saved}
use Rattle.cache_store.proofs.save.Goals as goal

pub returns : goal.returns
unfolding slots_in
returns c =
    let x = c.args in
    let form = x.form.now in
    let choices = x.choices.now in
    let store = x.store.now in
    let k = c.next_slot-k in
    let at : ℕ = slot_size * k.result in
    let a : Answer = record { count = x.points; costs = x.costs.now; choices = choices } in
    let due =
    c.slot_after-after.ensures.0 ∙ ap (λ (m : ℕ). slot_after m k.result) c.slots_in.ensures in
    let first = over_part at _ form _ store c.copy_from_slice.ensures.after (omega arith) in
    let third = over_part (at + choices_at) _ choices _ _ c.copy_from_slice-2.ensures.after (omega arith) in
    let filled =
    slot_filled form a store at first c.put_costs.ensures third c.put_four.ensures c.put_four-2.ensures in
    all_saved form a store k.ensures.0 due filled c.put_four-3.ensures
