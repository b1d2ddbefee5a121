-- What `is_sound` leaves to show: the records of a plan lie inside.
use Rattle.std.proofs.Common.{rules}
use Rattle.plan_test.proofs.Limits.{records_inside}
use Rattle.plan_test.proofs.is_sound.Goals as goal

pub is_early-requires : goal.is_early-requires
is_early-requires c =
    let q = c.requires in
    (q.0.variables, q.0.few, q.1, records_inside q.0, search rules, search rules)
