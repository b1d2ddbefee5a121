-- What `find_form` leaves to show.
use Rattle.std.proofs.Common.{◌≡◌, sym, ◌∙◌, ap, List, ℕ, suc, ◌+◌, ◌-◌, ◌*◌, ◌/◌, min, length, length-drop, arith}
use Rattle.model.proofs.Lists.{take_rest}
use Rattle.cache_answers.specs.Stores.{slot_size, max_slots, slots_in, slot_at, holds_form, find_form}
use Rattle.cache_store.proofs.Slots.{slot_inside, found_here, found_later, found_none}
use Rattle.cache_store.proofs.find_form.Goals as goal

many : (store : List ℕ) (n : ℕ) → n ≡ min (length store / slot_size) max_slots → n ≡ slots_in store
unfolding slots_in
many store n e = e

pub loop-k-init : goal.loop-k-init
loop-k-init c =
    let store = c.args.store.now in
    let all : slots_in store ≡ c.slots_in-slots.result - 0 =
    omega (arith, many store c.slots_in-slots.result c.slots_in-slots.ensures) in
    ap (λ (n : ℕ). find_form n 0 c.args.form.now store) all

pub overflow_mul-at : goal.overflow_mul-at
overflow_mul-at c = omega (arith, c.slots_in-slots.ensures)

pub slice_bounds-holds_form-count : goal.slice_bounds-holds_form-count
slice_bounds-holds_form-count c = omega (arith, c.slots_in-slots.ensures)

pub slice_bounds-holds_form-start : goal.slice_bounds-holds_form-start
slice_bounds-holds_form-start c = omega (arith, c.slots_in-slots.ensures)

pub holds_form-requires : goal.holds_form-requires
holds_form-requires c =
    let store = c.args.store.now in
    let k = c.loop-k.k in
    let slots = many store c.slots_in-slots.result c.slots_in-slots.ensures in
    let at = slot_size * k in
    rw (take_rest store at)
    (omega (arith, slot_inside store k (omega (arith, slots)), length-drop at store), c.requires)

pub returns-then-holds_form : goal.returns-then-holds_form
returns-then-holds_form c =
    let store = c.args.store.now in
    let k = c.loop-k.k in
    let slots = many store c.slots_in-slots.result c.slots_in-slots.ensures in
    let left : c.slots_in-slots.result - k ≡ suc (c.slots_in-slots.result - (k + 1)) = omega arith in
    let here : holds_form c.args.form.now (slot_at store k) ≡ c.holds_form.result =
    sym (rw (take_rest store (slot_size * k)) at c.holds_form.ensures) in (
      sym (c.loop-k.invariant ∙ rw left (found_here c.args.form.now store _ k (here ∙ c.if-holds_form.true))),
      omega (arith, slots),
    )

pub loop-k-preserved : goal.loop-k-preserved
loop-k-preserved c =
    let store = c.args.store.now in
    let k = c.loop-k.k in
    let left : c.slots_in-slots.result - k ≡ suc (c.slots_in-slots.result - (k + 1)) = omega arith in
    let here : holds_form c.args.form.now (slot_at store k) ≡ c.holds_form.result =
    sym (rw (take_rest store (slot_size * k)) at c.holds_form.ensures) in
    c.loop-k.invariant ∙ rw left (found_later c.args.form.now store _ k (here ∙ c.if-holds_form.false))

pub returns : goal.returns
returns c =
    let store = c.args.store.now in
    let k = c.loop-k.k in
    let slots = many store c.slots_in-slots.result c.slots_in-slots.ensures in
    let none : c.slots_in-slots.result - k ≡ 0 = omega arith in
    let last : k ≡ slots_in store = omega (arith, slots) in
    c.loop-k.invariant ∙ rw none (found_none c.args.form.now store k) ∙ last
