-- What `load_costs` leaves to show.
use Rattle.std.proofs.Common.{◌≡◌, refl, sym, ◌∙◌, suc, ◌+◌, ◌-◌, ◌*◌, drop-drop, arith}
use Rattle.cache_answers.specs.Stores.{slot_size, costs_at}
use Rattle.cache_store.proofs.Slots.{slot_inside}
use Rattle.cache_store.proofs.Costs.{rest_next, rest_none}
use Rattle.cache_store.proofs.load_costs.Goals as goal

pub overflow_mul-at : goal.overflow_mul-at
overflow_mul-at c = omega (arith, slot_inside c.args.store.now c.args.k c.requires.0)

pub overflow_add-at : goal.overflow_add-at
overflow_add-at c = omega (arith, slot_inside c.args.store.now c.args.k c.requires.0)

pub overflow_add-at-in-loop-i : goal.overflow_add-at-in-loop-i
overflow_add-at-in-loop-i c = omega (arith, slot_inside c.args.store.now c.args.k c.requires.0)

pub four_at-requires : goal.four_at-requires
four_at-requires c = omega (arith, slot_inside c.args.store.now c.args.k c.requires.0)

pub loop-i-init : goal.loop-i-init
loop-i-init c =
    let at = slot_size * c.args.k in
    let first : at + costs_at + 4 * 0 ≡ at + costs_at = omega arith in
    let all : c.args.count - 0 ≡ c.args.count = omega arith in
    rw (first, all, drop-drop costs_at at c.args.store.now) refl

pub loop-i-preserved : goal.loop-i-preserved
loop-i-preserved c =
    let w = c.loop-i in
    let at = slot_size * c.args.k + costs_at in
    let left = c.args.count - (w.i + 1) in
    let fewer : c.args.count - w.i ≡ suc left = omega arith in
    rw c.four_at.ensures
    (rest_next c.args.store.now at (c.args.count - w.i) left w.i w.costs fewer (omega arith)) ∙ w.invariant

pub returns : goal.returns
returns c =
    let w = c.loop-i in
    let none : c.args.count - w.i ≡ 0 = omega arith in
    sym (rest_none c.args.store.now (slot_size * c.args.k + costs_at) w.i w.costs) ∙ rw none at w.invariant
