-- What `count_in` leaves to show: the number in the slot, at most 64.
use Rattle.std.proofs.Common.{◌∙◌, ap, ℕ, ◌*◌, min, length-drop, arith}
use Rattle.model.specs.Limits.{max_points}
use Rattle.model.proofs.Lists.{take_rest}
use Rattle.cache_answers.specs.Stores.{slot_size}
use Rattle.cache_store.proofs.Slots.{slot_inside}
use Rattle.cache_store.proofs.count_in.Goals as goal

pub overflow_mul-at : goal.overflow_mul-at
overflow_mul-at c = omega (arith, slot_inside c.args.store.now c.args.k c.requires)

pub slice_bounds-four_at-count : goal.slice_bounds-four_at-count
slice_bounds-four_at-count c = omega (arith, slot_inside c.args.store.now c.args.k c.requires)

pub slice_bounds-four_at-start : goal.slice_bounds-four_at-start
slice_bounds-four_at-start c = omega (arith, slot_inside c.args.store.now c.args.k c.requires)

pub four_at-count-requires : goal.four_at-count-requires
four_at-count-requires c =
    let store = c.args.store.now in
    let at = slot_size * c.args.k in
    rw (take_rest store at) (omega (arith, slot_inside store c.args.k c.requires, length-drop at store))

pub returns : goal.returns
returns c =
    let store = c.args.store.now in
    let at = slot_size * c.args.k in
    c.min.ensures ∙ ap (λ (n : ℕ). min n max_points) (rw (take_rest store at) at c.four_at-count.ensures)
