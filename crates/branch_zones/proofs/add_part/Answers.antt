-- What `add_part` leaves to show: the part is empty, or held, or written.
use Rattle.std.proofs.Common.{refl, sym, subst, inl, inr, take, arith}
use lib.Seq.{get_or-take}
use Rattle.model.specs.Basics.{All}
use Rattle.model.specs.Problems.{Word}
use Rattle.branch_zones.specs.Steps.{Held}
use Rattle.branch_zones.proofs.RowWritten.{written_as}
use Rattle.branch_zones.proofs.PartNumbers.{part_front, part_words}
use Rattle.branch_zones.proofs.PartSteps.{part_none, part_written}
use Rattle.branch_zones.proofs.add_part.Goals as goal

pub returns-then-z-j-eq0 : goal.returns-then-z-j-eq0
returns-then-z-j-eq0 c =
    let a = c.args in
    part_none c.requires.1 c.requires.2
    (λ o. absurd (omega (arith, get_or-take a.d.objectives a.z a.j 0 c.requires.4, c.if-z-j-eq0.true)))

pub returns-then-is_held : goal.returns-then-is_held
returns-then-is_held c =
    let a = c.args in
    part_none c.requires.1 c.requires.2
    (λ o. subst (Held a.d.objectives a.zones.now a.s.count a.s.free)
    (part_front a.d.objectives a.t a.z a.j c.requires.4) (c.is_held.ensures c.if-is_held.true))

pub put_zone-requires : goal.put_zone-requires
put_zone-requires c =
    let a = c.args in (
      c.requires.0,
      c.requires.1.long,
      c.requires.3,
      subst (All Word) (sym (part_front a.d.objectives a.t a.z a.j c.requires.4))
          (part_words (take a.d.objectives a.t) (take a.d.objectives a.z) a.j c.requires.5 c.requires.6),
    )

pub returns-then-free-count : goal.returns-then-free-count
returns-then-free-count c =
    let a = c.args in
    part_written _ _ _ c.requires.0 c.requires.1 c.requires.3
    (written_as (part_front a.d.objectives a.t a.z a.j c.requires.4) c.put_zone.ensures) refl
    (inl (c.if-free-count.true, refl))

pub returns : goal.returns
returns c =
    let a = c.args in
    part_written _ _ _ c.requires.0 c.requires.1 c.requires.3
    (written_as (part_front a.d.objectives a.t a.z a.j c.requires.4) c.put_zone.ensures) refl
    (inr (omega (arith, c.requires.2, c.if-free-count.false), refl))
