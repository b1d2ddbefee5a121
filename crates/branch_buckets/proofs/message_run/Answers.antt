-- What `message_run` leaves to show: the starts of a message grow evenly.
use Rattle.branch_buckets.proofs.Runs.{message_runs}
use Rattle.branch_buckets.proofs.message_run.Goals as goal

pub returns : goal.returns
returns c =
    message_runs c.args.width c.message_of-m.ensures c.requires.1 c.args.v c.args.choice.now c.term_of-a.result
    c.term_of-b.result c.term_of-c.result c.term_of-a.ensures c.term_of-b.ensures c.term_of-c.ensures
