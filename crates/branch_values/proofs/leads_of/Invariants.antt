-- The loop of `leads_of`: the numbers so far are the leading sums.
use Rattle.std.proofs.Common.{◌≡◌, ℕ, ◌<◌, length, get_or}
use Rattle.model.specs.Limits.{max_domain}
use Rattle.branch_values.specs.Rows.{next_bound}
use Rattle.branch_values.proofs.leads_of.Given as goal

abbrev pub invariant-loop-a : goal.invariant-loop-a
invariant-loop-a l =
    (length l.leads ≡ max_domain) × ((b : ℕ) → b < l.a → get_or l.leads b 0 ≡ next_bound l.acc l.away l.rows b l.lead)
