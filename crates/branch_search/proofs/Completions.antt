-- The completions of a partial choice: none is earlier than it, and none costs less than its bound in any direction.
use Rattle.std.proofs.Common.{◌≡◌, ℕ, ◌<◌, ◌≤◌, true, false, ltb, List, length, get_or, take, sym, refl, ◌∙◌, ⊎_elim}
use Rattle.std.proofs.Common.{arith, length-take-le, get_or-take, ltb-false, ltb-true}
use Rattle.model.specs.Costs.{is_choice, cost_of, totals, costs_of}
use Rattle.model.specs.Vectors.{earlier}
use Rattle.model.proofs.Bits.{test}
use Rattle.model.proofs.Vectors.{AtMost, NotLater, not_earlier, not_later_trans, at_most_not_later}
use Rattle.model.proofs.Choices.{choice_length}
use Rattle.model.proofs.Totals.{totals_from_length}
use Rattle.groups.specs.Groups.{tables_over}
use Rattle.groups.specs.Sources.{source_in}
use Rattle.groups.specs.declared.Task as DT
use Rattle.branch_directions.specs.Directions.{directions_of, width_of}
use Rattle.branch_directions.specs.declared.Directions as DD
use Rattle.model.proofs.AtMostAt.{at_most_each}
use Rattle.branch_directions.proofs.DirectionLaws.{directions_length}
use Rattle.layout.specs.Places.{position_in}
use Rattle.branch_buckets.specs.Bounds.{costs_over, Agree}
use Rattle.branch_buckets.specs.Sound.{Sound}
use Rattle.branch_buckets.proofs.Bounds.{bound_local, bound_below}
use Rattle.branch_search.specs.States.{problem_of, Partial}

-- the costs of the searched problem's choices, by its records' places
pub costs_over_lem :
    (d : DD.Directions) (task : DT.Task) (ds s work y : List ℕ) →
    costs_of (problem_of d task ds s work) y ≡ costs_over d ds s (source_in work task.records) y
unfolding costs_of totals
costs_over_lem d task ds s work y = refl

pub costs_over_wide : (d : DD.Directions) (ds s places y : List ℕ)
    → length (directions_of d (costs_over d ds s places y)) ≡ width_of d
costs_over_wide d ds s places y =
    directions_length d (costs_over d ds s places y)
    (totals_from_length d.objectives 0 (cost_of ds y) (tables_over ds s places))

module _ {d : DD.Directions} {r : ℕ} {ds s source plan : List ℕ} (w : Sound d r ds s source plan) {k : ℕ}
    {x acc : List ℕ} (h : Partial d r ds s plan k x acc) (y : List ℕ) (c : is_choice ds y ≡ true)
    (g : Agree plan k x y) where
  long : length x ≡ length y
  long = choice_length ds x h.choice ∙ sym (choice_length ds y c)

  -- values that are not set are 0
  value_below : (v : ℕ) → v < length x → get_or x v 0 ≤ get_or y v 0
  value_below v l =
      ⊎_elim
      (λ (t : ltb (position_in plan v) k ≡ true). omega (arith, g v l (ltb-true (position_in plan v) k t)))
      (λ (t : ltb (position_in plan v) k ≡ false).
      omega (arith, h.unset v (omega (arith, choice_length ds x h.choice)) (ltb-false (position_in plan v) k t)))
      (test (ltb (position_in plan v) k))

  -- what the partial choice is not earlier than, a completion is not either
  pub completion_not_later : (c' : List ℕ) → length c' ≡ length ds → earlier x c' ≡ false → NotLater c' y
  completion_not_later c' e f =
      not_later_trans c' x y (not_earlier x c' (choice_length ds x h.choice ∙ sym e) f)
      (at_most_not_later x y long (at_most_each x y long value_below))

  pub completion_bound : (j : ℕ) → j < width_of d
      → get_or acc j 0 ≤ get_or (directions_of d (costs_over d ds s source y)) j 0
  completion_bound j l =
      omega (
        arith,
        h.exact j l,
        bound_local w.tested k h.short x y h.choice c g j,
        bound_below w y c j l k h.short,
      )

  pub completion_above : width_of d ≤ length acc
      → AtMost (take (width_of d) acc) (directions_of d (costs_over d ds s source y))
  completion_above e =
      let wide : length (take (width_of d) acc) ≡ width_of d = length-take-le (width_of d) acc e in
      at_most_each (take (width_of d) acc) (directions_of d (costs_over d ds s source y))
      (wide ∙ sym (costs_over_wide d ds s source y))
      (λ j l. let m : j < width_of d = omega arith in
      omega (arith, get_or-take (width_of d) acc j 0 m, completion_bound j m))
