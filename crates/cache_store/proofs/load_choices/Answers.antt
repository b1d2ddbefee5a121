-- What `load_choices` leaves to show: the bytes are copied to the buffer's start.
use Rattle.std.proofs.Common.{◌≡◌, refl, ◌∙◌, ℕ, List, ◌++◌, ◌+◌, ◌-◌, ◌*◌, ◌≤◌, length, take, drop, arith}
use Rattle.std.proofs.Common.{drop-drop, length-drop, length-take-le}
use Rattle.model.specs.Calls.{over}
use Rattle.cache_answers.specs.Stores.{slot_size, choices_at}
use Rattle.cache_store.proofs.Slots.{slot_inside}
use Rattle.cache_store.proofs.load_choices.Goals as goal

pub overflow_mul-at : goal.overflow_mul-at
overflow_mul-at c = omega (arith, slot_inside c.args.store.now c.args.k c.requires.0)

pub overflow_add-at : goal.overflow_add-at
overflow_add-at c = omega (arith, slot_inside c.args.store.now c.args.k c.requires.0)

pub overflow_add-at-2 : goal.overflow_add-at-2
overflow_add-at-2 c = omega (arith, slot_inside c.args.store.now c.args.k c.requires.0)

pub slice_bounds-copy_from_slice-end-3 : goal.slice_bounds-copy_from_slice-end-3
slice_bounds-copy_from_slice-end-3 c = omega (arith, slot_inside c.args.store.now c.args.k c.requires.0)

-- what was written stands in front
placed : (bytes part out : List ℕ) (n : ℕ) → part ≡ bytes → length bytes ≡ n → part ++ drop n out ≡ over bytes out
unfolding over
placed bytes part out n e long = rw (e, ← long) refl

-- which are as many as the slot has room for
long : (store : List ℕ) (at n : ℕ) → at + choices_at + n ≤ length store
    → length (take n (drop choices_at (drop at store))) ≡ n
long store at n h =
    length-take-le n (drop choices_at (drop at store))
    (omega (arith, length-drop at store, length-drop choices_at (drop at store)))

pub returns : goal.returns
returns c =
    let store = c.args.store.now in
    let n = c.args.count in
    let at = slot_size * c.args.k in
    let many : at + choices_at + n - (at + choices_at) ≡ n = omega arith in
    placed (take n (drop choices_at (drop at store))) _ c.args.choices.now n
    (c.copy_from_slice.ensures.after ∙ rw (many, drop-drop choices_at at store) refl)
    (long store at n (omega (arith, slot_inside store c.args.k c.requires.0)))
