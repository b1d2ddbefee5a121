-- The measures of `open_position` and `try_choice`, two for each variable without a value, and the loop over values.
use Rattle.std.proofs.Common.{◌≡◌, ℕ, ◌+◌, ◌-◌, ◌*◌, ◌<◌, ◌≤◌, length, get_or}
use Rattle.branch_pruning.specs.Tests.{reach_width, Reached}
use Rattle.branch_search.proofs.Trying.{Trying, untried}
use Rattle.branch_search.proofs.+open_position_try_choice.Given as goal

abbrev pub decreases-open_position : goal.decreases-open_position
decreases-open_position l = 2 * (length l.sizes.now - l.node.depth)

abbrev pub decreases-try_choice : goal.decreases-try_choice
decreases-try_choice l = 2 * (length l.sizes.now - l.node.depth) + 1

-- the value that is next has the least lead; what may be reached is known unless a complete choice was met since
abbrev pub invariant-open_position-loop-leads : goal.invariant-open_position-loop-leads
invariant-open_position-loop-leads l =
    (l.a < l.size) × ((b : ℕ) → b < l.size → get_or l.leads l.a 0 ≤ get_or l.leads b 0)
    × Trying l.d l.aim.task l.sizes l.s l.initial.work l.initial.t l.node l.work l.t l.leads
    × (length l.reach ≡ reach_width) × (l.seen ≡ l.t.meets → Reached l.d l.work l.t l.bound l.reach)

abbrev pub decreases-open_position-loop-leads : goal.decreases-open_position-loop-leads
decreases-open_position-loop-leads l = untried l.leads
