-- The measures of `open_variable` and `try_value`, two for each variable without a value; and the loop over the values
-- of the next variable: the search of those from v on makes of the point held what the search of all makes of the one
-- held before.
use Rattle.std.proofs.Common.{◌≡◌, length, ◌+◌, ◌-◌, ◌*◌}
use Rattle.pass_search.proofs.Steps.{tried_from}
use Rattle.pass_search.proofs.+open_variable_try_value.Given as goal

abbrev pub decreases-open_variable : goal.decreases-open_variable
decreases-open_variable l = 2 * (length l.sizes.now - l.x.len) + 1

abbrev pub decreases-try_value : goal.decreases-try_value
decreases-try_value l = 2 * (length l.sizes.now - l.branch.partial.len)

abbrev pub invariant-try_value-loop-v : goal.invariant-try_value-loop-v
invariant-try_value-loop-v l =
    tried_from l.task l.k l.sizes l.s l.work l.x l.v l.held
    ≡ tried_from l.task l.k l.sizes l.s l.work l.x l.fn.branch.value l.fn.best
