-- What the loop of `is_tied` leaves to show: no candidate is tied, so none of the points is.
use Rattle.std.proofs.Common.{arith}
use Rattle.branch_candidates.proofs.Sifting.{sifted_map, sifted_none}
use Rattle.branch_pruning.proofs.Ties.{untied}
use Rattle.branch_pruning.proofs.is_tied.Goals as goal

pub returns : goal.returns
returns c =
    let a = c.args in
    let all = sifted_map (λ i l o. untied a.d a.n a.work.now a.x a.b i o) c.requires.5 in
    λ e. sifted_none all (λ j l. c.loop-j.invariant j (omega arith))
