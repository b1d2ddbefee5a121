-- What the loop of `points_above` leaves to show: all candidates were looked at.
use Rattle.std.proofs.Common.{◌≡◌, arith}
use Rattle.branch_candidates.specs.Sifted.{count_in}
use Rattle.branch_candidates.proofs.Sifting.{sifting_end}
use Rattle.branch_pruning.proofs.points_above.Goals as goal

pub returns : goal.returns
returns c =
    let all : c.loop-j.j ≡ count_in c.args.from.now = omega arith in
    sifting_end c.requires.4 (λ i l o. o) (rw all at c.loop-j.invariant)
