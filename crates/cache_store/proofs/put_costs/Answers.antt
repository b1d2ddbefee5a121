-- What the loop of `put_costs` leaves to show.
use Rattle.std.proofs.Common.{◌≡◌, refl, ◌+◌, ◌*◌, arith}
use Rattle.model.proofs.Words.{length_word_bytes}
use Rattle.cache_store.proofs.Costs.{cost_written, costs_written}
use Rattle.cache_store.proofs.put_costs.Goals as goal

pub loop-i-init : goal.loop-i-init
loop-i-init c =
    let first : c.args.at + 4 * 0 ≡ c.args.at = omega arith in
    rw first (record { room = omega (arith, c.requires, length_word_bytes c.args.costs.now); rest = refl })

pub loop-i-preserved : goal.loop-i-preserved
loop-i-preserved c =
    let w = c.loop-i in
    let next = cost_written c.args.costs.now c.args.at w.i w.out _ (omega arith) w.invariant in
    rw c.put_four.ensures next

pub returns : goal.returns
returns c =
    let w = c.loop-i in
    costs_written c.args.costs.now (c.args.at + 4 * w.i) w.i w.out _ (omega arith) w.invariant
