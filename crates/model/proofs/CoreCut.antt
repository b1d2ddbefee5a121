-- The cut in the core, where the halves may have other ceilings than the sums: what keeps the ceilings of the problem
-- keeps those of the halves.
use mathlib.Core.Path.{◌≡◌, sym, ◌∙◌, subst}
use mathlib.Core.Bool.{true}
use mathlib.Core.List.{List}
use Prim.Native.Nat.{ℕ}
use lib.ListN.{length}
use Rattle.model.specs.Problems.{Problem}
use Rattle.model.specs.Costs.{costs_of}
use Rattle.model.specs.Frontiers.{best}
use Rattle.model.specs.Core.{with_ceilings, under, core_consistent, core_frontier}
use Rattle.model.specs.Cuts.{sides_ok, uncrossed, on_side, half, all_pairs}
use Rattle.model.proofs.Vectors.{AtMost}
use Rattle.model.proofs.Frontier.{costs_width}
use Rattle.model.proofs.Sums.{added_left, added_right, under_mono}
use Rattle.model.proofs.Cut.{Splits, costs_parts, cut_best}

module _ (q : Problem) (ss : List ℕ) (sides : sides_ok q ss ≡ true) (free : uncrossed ss q.tables ≡ true)
    (hs : List ℕ)
    (loose : (c : List ℕ) → under c q.ceilings ≡ true → under c hs ≡ true) where
  abbrev half_of : ℕ → Problem
  half_of k = half k (with_ceilings hs q) ss

  -- what is at most a choice's costs is under the ceilings where they are
  lower_under : (c z : List ℕ) → length c ≡ q.objectives → AtMost c (costs_of q z) → core_consistent q z ≡ true
      → under c q.ceilings ≡ true
  unfolding core_consistent
  lower_under c z wide less h = under_mono c (costs_of q z) q.ceilings (wide ∙ sym (costs_width q z)) less h

  part_under : (k : ℕ) (z : List ℕ) → AtMost (costs_of (half_of k) (on_side k ss z)) (costs_of q z)
      → core_consistent q z ≡ true → core_consistent (half_of k) (on_side k ss z) ≡ true
  unfolding half core_consistent
  part_under k z less h =
      let costs = costs_of (half_of k) (on_side k ss z) in
      loose costs (lower_under costs z (costs_width (half_of k) (on_side k ss z)) less h)

  core_splits : Splits q ss (λ c. under c q.ceilings) (core_consistent q) (λ k. core_consistent (half_of k))
  unfolding core_consistent
  core_splits =
      record {
        apart =
            λ z c h.
            let first = costs_of (half_of 0) (on_side 0 ss z) in
            let second = costs_of (half_of 1) (on_side 1 ss z) in
            let parts = sym (costs_parts q ss sides free hs z c) in (
              part_under 0 z (subst (AtMost first) parts (added_left first second)) h,
              part_under 1 z (subst (AtMost second) parts (added_right first second)) h,
            );
        together = λ z c h k kept. kept;
        lower = lower_under;
      }

  pub core_cut_best :
      best (all_pairs (λ c. under c q.ceilings) ss (core_frontier (half_of 0)) (core_frontier (half_of 1)))
      ≡ core_frontier q
  core_cut_best =
      cut_best q ss sides free hs (λ c. under c q.ceilings) (core_consistent q) (λ k. core_consistent (half_of k))
      core_splits
