-- What `entries_of` leaves to show: the record is whole, so its scope lies in the bytes and its variables exist.
use Rattle.problem.proofs.Scopes.{scope_taken, whole_inside}
use Rattle.costs.proofs.entries_of.Goals as goal

pub arity_at-a-requires : goal.arity_at-a-requires
arity_at-a-requires c = whole_inside c.args.sizes.now c.args.s.now c.args.at c.requires.0

pub size_of-requires : goal.size_of-requires
size_of-requires c =
    rw c.arity_at-a.ensures (
      whole_inside c.args.sizes.now c.args.s.now c.args.at c.requires.0,
      c.requires.0.few,
      rw (scope_taken c.args.s.now c.args.at) at c.requires.0.range,
      c.requires.1,
    )

pub returns : goal.returns
returns c = rw (scope_taken c.args.s.now c.args.at) (rw c.arity_at-a.ensures at c.size_of.ensures.0)
