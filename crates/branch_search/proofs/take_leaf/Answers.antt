-- What `take_leaf` leaves to show.
use Rattle.std.proofs.Common.{◌≡◌, ◌<◌, ◌≤◌, Bool, true, false, List, ◌++◌, length, take, drop, sym, ap, ◌∙◌, subst}
use Rattle.std.proofs.Common.{ℕ, arith, length-take-le, take-take, w64, rules}
use borrow.Author.Tests.{not-false}
use Rattle.model.specs.Basics.{All}
use Rattle.model.specs.Limits.{max_objectives}
use Rattle.model.specs.Problems.{Word}
use Rattle.model.specs.Core.{under, WordCeiling, core_sum_end}
use Rattle.model.proofs.Core.{under_ceilings}
use Rattle.model.proofs.Elements.{all_map, all_take}
use Rattle.rows.proofs.Arrays.{array_length}
use Rattle.branch_archive.specs.Changes.{max_weight}
use Rattle.branch_directions.specs.Directions.{max_directions}
use Rattle.layout.specs.Layout.{zones_end, list_end}
use Rattle.branch_search.proofs.Aims.{aim_ceilings}
use Rattle.branch_search.proofs.ArchivedWords.{archived_small}
use Rattle.branch_search.proofs.Memory.{framed_zones, lent_front, lent_behind}
use Rattle.branch_search.proofs.Zoning.{lent_long, lent_same, lent_measured}
use Rattle.branch_search.proofs.Leaving.{opened_same, opened_stopped, late_covers}
use Rattle.branch_search.proofs.Leaf.{leaf_wide, over_covers, leaf_kept, leaf_split, weighed}
use Rattle.branch_search.proofs.take_leaf.Goals.{After-is_under-is_over}
use Rattle.branch_search.proofs.take_leaf.Goals as goal

-- the costs, which are the first numbers of the bound, were held to the ceilings
module _ (c : After-is_under-is_over) where
  abbrev p : ℕ
  p = c.args.aim.d.objectives

  abbrev front : List ℕ
  front = c.front_of-costs.result

  abbrev ceilings : List ℕ
  ceilings = c.args.aim.task.ceilings

  few : p ≤ max_objectives
  few = c.requires.ready.planned.sensible.few

  wide : max_directions ≡ length c.args.bound
  wide = sym (array_length w64 max_directions c.args.bound _ c.well_formed.1.0)

  four : p ≤ length ceilings
  four = omega (arith, few, aim_ceilings c.args.aim _ c.well_formed.1.1.1.1.1.0)

  costs : take p front ≡ take p c.args.bound
  costs =
      ap (λ (u : List ℕ). take p u) c.front_of-costs.ensures ∙ take-take p max_objectives c.args.bound few

  met : (t : Bool) → c.is_under-is_over.result ≡ t → under (take p c.args.bound) (take p ceilings) ≡ t
  met t is = ap (λ (u : List ℕ). under u (take p ceilings)) (sym costs) ∙ sym c.is_under-is_over.ensures ∙ is

  words : c.is_under-is_over.result ≡ true → All Word (take p front)
  words is =
      let limits = all_take WordCeiling p ceilings c.requires.ready.limited in
      let long = leaf_wide c.requires wide ∙ sym (length-take-le p ceilings four) in
      subst (All Word) (sym costs)
      (under_ceilings (take p c.args.bound) (take p ceilings) long (met true is) limits)

pub returns-then-is_over : goal.returns-then-is_over
returns-then-is_over c =
    let u = (goal.at.returns-then-is_over c).After-is_under-is_over in
    opened_same c.requires (λ some. over_covers c.requires (wide u) (met u false (search rules)))

pub returns-then-lead_of-run : goal.returns-then-lead_of-run
returns-then-lead_of-run c =
    opened_same c.requires (λ some. late_covers c.requires (omega (arith, c.lead_of.ensures)))

pub returns-then-run-eq0 : goal.returns-then-run-eq0
returns-then-run-eq0 c = rw c.stop.ensures (opened_stopped c.requires)

pub take_point-t-requires : goal.take_point-t-requires
take_point-t-requires c =
    let u = (goal.at.take_point-t-requires c).After-is_under-is_over in
    let a = c.args in
    let h = c.requires in (
      omega (arith, h.ready.long),
      h.running.few,
      h.ready.room_small,
      few u,
      h.ready.planned.variables,
      all_map Word (λ a. a < core_sum_end) (λ a l. omega arith) (take (p u) (front u)) (words u (search rules)),
      all_take (λ w. w ≤ max_weight) (p u) _ c.lead_weights-weights.ensures.1,
      h.running.distinct,
      archived_small a.aim.d a.aim.task a.sizes.now a.s.now a.work.now (four u) h.ready.limited
          (length a.sizes.now) a.run.points a.work.now h.running.archived.reached,
    )

pub returns-then-not-t : goal.returns-then-not-t
returns-then-not-t c =
    let u = (goal.at.returns-then-not-t c).After-is_under-is_over in
    rw c.count_met.ensures
    (leaf_kept c.requires (wide u) (met u true (search rules)) (omega (arith, c.lead_of.ensures)) _ (costs u)
    c.take_point-t.result _ (weighed c.lead_weights-weights.ensures.0 c.take_point-t.ensures) (omega arith))

pub slice_bounds-split_zones-end-2 : goal.slice_bounds-split_zones-end-2
slice_bounds-split_zones-end-2 c =
    sym
    (length-take-le zones_end c.take_point-t.new.work
    (omega (arith, c.requires.ready.long, c.take_point-t.ensures.frame.long)))

pub split_zones-m-requires : goal.split_zones-m-requires
split_zones-m-requires c =
    let u = (goal.at.split_zones-m-requires c).After-is_under-is_over in
    let h = c.requires in (
      h.ready.planned.sensible,
      rw (framed_zones c.take_point-t.ensures.frame) h.running.measured,
      words u (search rules),
    )

pub returns : goal.returns
returns c =
    let u = (goal.at.returns c).After-is_under-is_over in
    let d = c.args.aim.d in
    let z = c.split_zones-m.new.zones in
    let m = c.split_zones-m.result in
    let says = c.split_zones-m.ensures in
    let work = c.take_point-t.new.work in
    let memory : list_end ≤ length work = omega (arith, c.requires.ready.long, c.take_point-t.ensures.frame.long) in
    let long = lent_long d work z m says.1 memory says.0 in
    rw c.count_met-2.ensures
    (leaf_split c.requires (wide u) (met u true (search rules)) (omega (arith, c.lead_of.ensures)) (front u) (costs u)
    c.take_point-t.result work (weighed c.lead_weights-weights.ensures.0 c.take_point-t.ensures)
    (not-false _ c.if-not-t.false) (z ++ drop zones_end work) m (lent_same d work z m says.1 memory says.0)
    (lent_behind z (drop zones_end work) long) (lent_measured d work z m says.1 memory says.0)
    (rw (lent_front z (drop zones_end work) long) says.2) (omega arith))
