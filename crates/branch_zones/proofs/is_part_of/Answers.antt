-- What `is_part_of` leaves to show.
use Rattle.std.proofs.Common.{sym, ap, ◌∙◌, take}
use Rattle.model.specs.Vectors.{at_most}
use Rattle.branch_zones.proofs.ZoneRows.{front_corner}
use Rattle.branch_zones.proofs.is_part_of.Goals as goal

pub returns : goal.returns
returns c =
    let a = c.args in
    λ yes. ap (at_most (take a.p a.t))
    (sym (front_corner a.p a.zones.now a.k _ c.requires.2 c.corner_at-corner.ensures.0))
    ∙ sym c.is_at_most-2.ensures
    ∙ yes
