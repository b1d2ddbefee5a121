-- The loop of `find_form`: the slots that are left decide.
use Rattle.std.proofs.Common.{◌≡◌, ◌-◌}
use Rattle.cache_answers.specs.Stores.{slots_in, find_form}
use Rattle.cache_store.proofs.find_form.Given as goal

abbrev pub invariant-loop-k : goal.invariant-loop-k
invariant-loop-k l =
    find_form (slots_in l.store) 0 l.form l.store ≡ find_form (l.slots - l.k) l.k l.form l.store
