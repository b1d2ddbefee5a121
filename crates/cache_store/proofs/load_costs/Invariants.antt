-- The loop of `load_costs`: the costs that are left will complete it.
use Rattle.std.proofs.Common.{◌≡◌, ◌-◌, drop}
use Rattle.model.specs.Reading.{words_in}
use Rattle.model.specs.Calls.{over}
use Rattle.cache_answers.specs.Stores.{costs_at, slot_at}
use Rattle.cache_store.proofs.Costs.{rest}
use Rattle.cache_store.proofs.load_costs.Given as goal

abbrev pub invariant-loop-i : goal.invariant-loop-i
invariant-loop-i l =
    rest l.store l.at (l.count - l.i) l.i l.costs
    ≡ over (words_in l.count (drop costs_at (slot_at l.store l.k))) l.initial.costs
