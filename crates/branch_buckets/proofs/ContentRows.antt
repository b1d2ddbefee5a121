-- What the rows of a bucket hold: the totals of its records in every direction, and the messages received.
use mathlib.Core.Path.{◌≡◌, ap, ◌∙◌}
use mathlib.Core.List.{List}
use Prim.Native.Nat.{ℕ, ◌+◌, ◌*◌, ◌≤◌, ◌<◌}
use native.Mathlib.Omega.{arith}
use lib.ListN.{length, get_or, take, set}
use lib.Seq.{get_or-take, length-take-le, take-take}
use Rattle.model.specs.Costs.{cost_of}
use Rattle.model.proofs.Lists.{four_read}
use Rattle.model.proofs.Elements.{all_below, all_take}
use Rattle.problem.specs.Records.{Whole}
use Rattle.problem.proofs.Sizes.{domain_size_lem}
use Rattle.groups.specs.Groups.{tables_over}
use Rattle.branch_directions.specs.Directions.{direction_end, directions_of, width_of}
use Rattle.branch_directions.specs.declared.Directions as DD
use Rattle.branch_directions.proofs.DirectionLaws.{directions_limit}
use Rattle.branch_buckets.specs.Messages.{received_over}
use Rattle.branch_buckets.specs.Bounds.{places_over, records_over}
use Rattle.branch_buckets.specs.Content.{Planned, Filled}
use Rattle.branch_buckets.specs.Adding.{Received, Totalled, Directed}
use Rattle.branch_buckets.specs.declared.Span as DS
use Rattle.branch_buckets.proofs.DirectedRows.{four, four_small, four_totals}

module _ {d : DD.Directions} {r : ℕ} {ds s plan : List ℕ} (planned : Planned d r ds s plan) where
  pub planned_whole : (i : ℕ) → i < r → Whole ds s (get_or plan i 0)
  planned_whole i h =
      let long : length (take r plan) ≡ r = length-take-le r plan (omega (arith, planned.few, planned.long)) in
      rw (get_or-take r plan i 0 h) at (all_below (Whole ds s) (take r plan) planned.whole i 0 (omega arith))

  pub planned_width : width_of d ≤ 8
  planned_width = omega (arith, planned.sensible.few, planned.sensible.few_sums)

  -- fewer records of the plan
  pub planned_fewer : (to : ℕ) → to ≤ r → Planned d to ds s plan
  planned_fewer to h =
      record {
        sensible = planned.sensible;
        small = planned.small;
        variables = planned.variables;
        few = omega (arith, planned.few);
        whole = rw (take-take to r plan h) at (all_take (Whole ds s) to (take r plan) planned.whole);
        long = planned.long;
      }

  module _
      (span : DS.Span) (v : ℕ) (x totals directed : List ℕ) (exists : v < length ds) (long : 32 ≤ length totals)
      (sums : Totalled ds s plan span v x totals) (rows_are : Directed d (get_or ds v 0) totals directed)
    where
      inside : (a : ℕ) → a < get_or ds v 0 → 4 * a + 4 ≤ length totals
      inside a h = omega (arith, domain_size_lem ds planned.small v exists)

      pub directed_small : (a j : ℕ) → a < get_or ds v 0 → j < 8 → get_or directed (8 * a + j) 0 < direction_end
      directed_small a j h l =
          let p = d.objectives in
          let costs = take p (four totals a) in
          let all_small = four_small totals a p (λ o k. (sums a o h k).1) in
          let as_many = length-take-le p (four totals a) planned.sensible.few in
          let small = directions_limit d costs planned.sensible all_small as_many j in
          rw (rows_are a j h l, ← four_read 0 totals (4 * a) (inside a h)) small

      pub directed_is :
          (a j : ℕ) → a < get_or ds v 0 → j < 8
          → get_or directed (8 * a + j) 0 ≡ records_over d ds s plan span.from span.to (set x v a) j
      directed_is a j h l =
          let tables = tables_over ds s (places_over plan span.from span.to) in
          let few = planned.sensible.few in
          let sum = cost_of ds (set x v a) in
          let costs = four_totals totals a sum tables d.objectives few (inside a h) (λ o k. (sums a o h k).0) in
          rows_are a j h l ∙ ap (λ (c : List ℕ). get_or (directions_of d c) j 0) costs

      pub content_filled :
          (rows : List ℕ) → Received (width_of d) plan span v (get_or ds v 0) x directed rows
          → Filled d ds s plan span v x rows
      content_filled rows received = λ a j h l.
          let k : j < 8 = omega (arith, planned_width) in
          let messages = received_over (width_of d) plan span.first span.last (set x v a) j in
          let both = received.sums a j h k ∙ ap (λ (n : ℕ). n + messages) (directed_is a j h k) in
          (both, omega (arith, received.small a j h k, directed_small a j h k))
