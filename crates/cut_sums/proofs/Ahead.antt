-- List order of two points, by the tests of their costs in both directions.
use mathlib.Core.Path.{◌≡◌, sym}
use mathlib.Core.Logic.{inr, ⊎_elim}
use mathlib.Core.Bool.{true, false}
use mathlib.Core.List.{List}
use lib.ListN.{length}
use mir.Val.{Val}
use denote.Laws.{Is}
use denote.Struct.Declared.{row}
use Rattle.model.specs.Limits.{max_objectives}
use Rattle.model.specs.Vectors.{same, earlier}
use Rattle.model.specs.Frontiers.{Point}
use Rattle.model.specs.Merging.{ahead}
use Rattle.model.proofs.Bits.{true_false, not_true_false}
use Rattle.model.proofs.Vectors.{Earlier, same_true, same_eq, earlier_true, earlier_test, earlier_irrefl, not_earlier}
use Rattle.model.proofs.Vectors.{later_false}
use Rattle.pass_search.specs.declared.Met as DM
use Rattle.pass_search.specs.contracts.Met.{the_type}

-- a point that is a parameter has four costs
pub costs_four : (h : DM.Met) (vs : List Val) → Is (row the_type) h vs → length h.costs ≡ max_objectives
costs_four h vs good = good.1.1.0.1.0.1

module _ (x w : Point) where
  pub ahead_costs : earlier x.costs w.costs ≡ true → true ≡ ahead x w
  ahead_costs h = rw h

  pub ahead_later : earlier w.costs x.costs ≡ true → false ≡ ahead x w
  ahead_later h =
      let after : Earlier w.costs x.costs = earlier_true w.costs x.costs h in
      let not_first : earlier x.costs w.costs ≡ false = later_false w.costs x.costs (inr after) in
      let apart : same x.costs w.costs ≡ false = not_true_false (same x.costs w.costs)
      (λ t. earlier_irrefl x.costs (rw (← same_true x.costs w.costs t) at after)) in
      rw (not_first, apart)

  pub ahead_tied : length x.costs ≡ length w.costs → earlier x.costs w.costs ≡ false
      → earlier w.costs x.costs ≡ false → earlier x.choice w.choice ≡ ahead x w
  ahead_tied l h k =
      let tied : same x.costs w.costs ≡ true = ⊎_elim (λ (e : w.costs ≡ x.costs). same_eq (sym e))
      (λ t. absurd (true_false (earlier_test w.costs x.costs t) k)) (not_earlier x.costs w.costs l h) in
      rw (h, tied)
