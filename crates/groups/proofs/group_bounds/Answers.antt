-- `group_bounds` meets its contract: the places of the group stand in a row.
use Rattle.std.proofs.Common.{arith}
use Rattle.problem.specs.Records.{Whole}
use Rattle.groups.specs.Groups.{places_in}
use Rattle.groups.proofs.Keeping.{keeps_all, group_keeps}
use Rattle.groups.proofs.PlacedRecords.{group_few}
use Rattle.groups.proofs.group_bounds.Goals as goal

pub bounds_over-requires : goal.bounds_over-requires
bounds_over-requires c =
    let a = c.args in
    let q = c.requires in
    let g = q.0 in
    let whole = Whole a.sizes.now a.s.now in (
      g.placed.small,
      g.to a.v q.1,
      omega (arith, g.end a.v q.1, g.placed.long),
      group_few a.sizes.now a.s.now a.work.now a.r g a.v q.1,
      rw (g.group a.v q.1)
          (keeps_all (group_keeps a.s.now a.v) whole (places_in a.work.now a.r) g.placed.whole),
      q.2,
    )

pub returns : goal.returns
returns c = rw (c.requires.0.group c.args.v c.requires.1) at c.bounds_over.ensures
