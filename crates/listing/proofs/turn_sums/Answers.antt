-- What `turn_sums` leaves to show: plans by which a sum is adapted stand behind the records and the archive.
use Rattle.listing.proofs.Forms.{source_plannable}
use Rattle.listing.proofs.PlanKept.{places_whole, plan_long, plan_kept, rows_kept}
use Rattle.listing.proofs.turn_sums.Goals as goal

pub adapted_shares-shares-requires : goal.adapted_shares-shares-requires
adapted_shares-shares-requires c =
    let source = c.requires.source in
    let copies = c.copy_numbers.ensures in
    record {
      small = source.small;
      variables = source.variables;
      few = source.few;
      whole = places_whole (source_plannable source) _ copies;
      long = plan_long (source_plannable source) _ copies;
      several = c.is_adaptable.ensures c.if-not-is_adaptable.false;
      objectives = source.objectives;
    }

pub returns : goal.returns
returns c =
    let p = source_plannable c.requires.source in
    let copies = c.copy_numbers.ensures in
    let left = c.adapted_shares-shares.ensures in
    (plan_kept p _ copies _ left.long left.whole, rows_kept p _ copies _ left.long left.whole)
