-- The loop of `put_costs`: the bytes of the costs that are left will complete it.
use Rattle.std.proofs.Common.{◌+◌, ◌*◌, drop}
use Rattle.model.specs.Encoding.{word_bytes}
use Rattle.form_canonical.specs.Places.{over_at}
use Rattle.form_order.proofs.Copying.{Unfinished}
use Rattle.cache_store.proofs.put_costs.Given as goal

abbrev pub invariant-loop-i : goal.invariant-loop-i
invariant-loop-i l =
    Unfinished (word_bytes (drop l.i l.costs)) (l.at + 4 * l.i) l.out (over_at l.at (word_bytes l.costs) l.initial.out)
