-- The loop of `add_message`: the rows of the values passed have the message added.
use Rattle.std.proofs.Common.{◌+◌, ◌*◌, get_or, set}
use Rattle.branch_buckets.specs.Messages.{message_at}
use Rattle.branch_buckets.proofs.RowSteps.{RowsFilled}
use Rattle.branch_buckets.proofs.add_message.Given as goal

abbrev pub invariant-loop-a : goal.invariant-loop-a
invariant-loop-a l =
    RowsFilled
    (λ b j. get_or l.initial.rows (8 * b + j) 0 + message_at l.width l.plan (set l.choice l.v b) j l.g)
    l.initial.rows l.a l.rows
