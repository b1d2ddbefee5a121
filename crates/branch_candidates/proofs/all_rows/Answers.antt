-- What the loop of `all_rows` leaves to show.
use Rattle.std.proofs.Common.{arith}
use Rattle.branch_candidates.proofs.Sifting.{sifted_all}
use Rattle.branch_candidates.proofs.all_rows.Goals as goal

pub returns : goal.returns
returns c =
    sifted_all c.loop-i.to c.requires.0 c.loop-i.invariant.long (λ j l. c.loop-i.invariant.own j (omega arith))
