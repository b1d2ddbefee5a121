-- What `start_zones` leaves to show.
use Rattle.std.proofs.Common.{◌≤◌, ◌++◌, List, ℕ, length, drop, sym, subst, arith, length-take-le, w64}
use Rattle.model.specs.Basics.{All}
use Rattle.model.specs.Limits.{max_objectives}
use Rattle.model.specs.Problems.{Word}
use Rattle.model.specs.Core.{WordCeiling}
use Rattle.model.proofs.Elements.{all_take}
use Rattle.rows.proofs.Arrays.{array_length}
use Rattle.layout.specs.Layout.{zones_end, list_end}
use Rattle.branch_search.specs.Passes.{ZonesWritten}
use Rattle.branch_search.proofs.Memory.{zones_costs}
use Rattle.branch_search.proofs.Zoning.{lent_measured, lent_written, first_hold}
use Rattle.branch_search.proofs.Zoning.{hold_rows, written_trans}
use Rattle.branch_search.proofs.start_zones.Goals.{After-first_zone-m}
use Rattle.branch_search.proofs.start_zones.Goals as goal

-- memory with the first zone
module _ (c : After-first_zone-m) where
  abbrev made : List ℕ
  made = c.first_zone-m.new.zones ++ drop zones_end c.args.work.now

  memory : list_end ≤ length c.args.work.now
  memory = omega (arith, c.requires.1)

  written : ZonesWritten c.args.d c.args.work.now made c.first_zone-m.result
  written =
      let says = c.first_zone-m.ensures in
      lent_written c.args.d c.args.work.now c.first_zone-m.new.zones c.first_zone-m.result says.1 memory says.0

pub slice_bounds-first_zone-end-2 : goal.slice_bounds-first_zone-end-2
slice_bounds-first_zone-end-2 c = sym (length-take-le zones_end c.args.work.now (omega (arith, c.requires.1)))

pub first_zone-m-requires : goal.first_zone-m-requires
first_zone-m-requires c = (
  c.requires.0,
  all_take WordCeiling c.args.d.objectives c.args.ceilings c.requires.3,
  omega (arith, length-take-le zones_end c.args.work.now (omega (arith, c.requires.1))),
)

pub split_all-requires : goal.split_all-requires
split_all-requires c =
    let f = (goal.at.split_all-requires c).After-first_zone-m in
    let work = c.args.work.now in
    let says = c.first_zone-m.ensures in
    let d = c.args.d in
    let same_costs = zones_costs work (made f) (written f).long (written f).behind d.objectives in (
      c.requires.0,
      omega (arith, c.requires.1, (written f).long),
      c.requires.2,
      lent_measured d work c.first_zone-m.new.zones c.first_zone-m.result says.1 (memory f) says.0,
      λ i l. subst (All Word) (sym (same_costs i)) (c.requires.4 i l),
    )

pub returns : goal.returns
returns c =
    let f = (goal.at.returns c).After-first_zone-m in
    let a = c.args in
    let work = a.work.now in
    let z = c.first_zone-m.new.zones in
    let m = c.first_zone-m.result in
    let says = c.first_zone-m.ensures in
    let four = array_length w64 max_objectives a.ceilings _ c.well_formed.1.0 in
    let long : a.d.objectives ≤ length a.ceilings = omega (arith, c.requires.0.few, four) in
    let hold = first_hold a.d a.c a.ceilings (made f) work z m says.1 (memory f) long says.0 says.2 in (
      written_trans (written f) c.split_all.ensures.0,
      hold_rows a.d a.c a.ceilings work (made f) c.split_all.new.work m c.split_all.result (written f)
          (c.split_all.ensures.1 a.ceilings hold),
    )
