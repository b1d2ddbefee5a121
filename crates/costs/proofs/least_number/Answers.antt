-- What `least_number` leaves to show: the least of the runs that agree.
use Rattle.std.proofs.Common.{◌∙◌}
use Rattle.model.specs.Reading.{table_of}
use Rattle.model.specs.Bounds.{least_of}
use Rattle.costs.proofs.least_number.Goals as goal

pub returns : goal.returns
unfolding least_of table_of
returns c = c.least_in.ensures ∙ c.runs_at-runs.ensures.least
