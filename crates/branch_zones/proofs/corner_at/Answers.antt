-- What `corner_at` leaves to show: a row has words.
use Rattle.std.proofs.Common.{sym, subst, arith}
use Rattle.model.specs.Basics.{All}
use Rattle.model.specs.Limits.{max_objectives}
use Rattle.model.specs.Problems.{Word}
use Rattle.branch_zones.proofs.ZoneRows.{corner_words}
use Rattle.branch_zones.proofs.corner_at.Goals as goal

pub returns : goal.returns
returns c =
    let read = c.numbers_at.ensures in (
      read,
      subst (All Word) (sym read)
          (corner_words max_objectives c.args.zones.now c.args.i (λ k. omega (arith, c.type_inv.zones k))),
    )
