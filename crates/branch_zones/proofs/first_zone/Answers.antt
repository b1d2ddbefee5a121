-- What `first_zone` leaves to show: the corner that is written, and that it is the only one.
use Rattle.std.proofs.Common.{◌≡◌, refl, sym, ap, ◌∙◌, subst, inl, take, List, ℕ, arith}
use Rattle.model.specs.Basics.{All}
use Rattle.model.specs.Problems.{Word}
use Rattle.model.specs.Archive.{lowered}
use Rattle.branch_zones.proofs.LoweredCeilings.{take_lowered, lowered_words}
use Rattle.branch_zones.proofs.RowWritten.{measured_none, measured_written}
use Rattle.branch_zones.proofs.first_zone.Goals as goal

-- the corner that is written
top : (p : ℕ) (ceilings r : List ℕ) → r ≡ lowered ceilings → take p r ≡ lowered (take p ceilings)
top p ceilings r e = ap (take p) e ∙ take_lowered p ceilings

pub put_zone-requires : goal.put_zone-requires
put_zone-requires c =
    let a = c.args in (
      c.requires.0,
      c.requires.2,
      omega arith,
      subst (All Word) (sym (top a.d.objectives a.ceilings _ c.lower.ensures))
          (lowered_words (take a.d.objectives a.ceilings) c.requires.1),
    )

pub returns : goal.returns
returns c =
    let a = c.args in
    let w = c.put_zone.ensures in (
      measured_written c.requires.0 w 0 (measured_none a.d a.zones.now c.requires.2) 1 (omega arith)
          (λ k l n. absurd (n (omega arith))),
      w.long,
      inl (refl, w.corner ∙ top a.d.objectives a.ceilings _ c.lower.ensures),
    )
