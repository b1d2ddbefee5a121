-- The sums of a vector: how many they are, fewer of them, one more at the end, their order, that they add up, and their
-- limit.
use mathlib.Core.Path.{◌≡◌, refl, ap}
use mathlib.Core.List.{List, [], ◌∷◌, ◌++◌, append_assoc}
use Prim.Native.Nat.{ℕ, zero, suc, ◌+◌, ◌-◌, ◌*◌, ◌≤◌, ◌<◌}
use native.Mathlib.Omega.{arith}
use native.Mathlib.Nat.{suc-mul, mul-le-mul}
use lib.ListN.{length, get_or, take, drop, set, length-append}
use Rattle.model.specs.Basics.{All}
use Rattle.model.specs.Limits.{max_objectives}
use Rattle.model.specs.Core.{core_sum_end}
use Rattle.model.specs.Vectors.{added}
use Rattle.model.specs.Calls.{padded}
use Rattle.model.specs.Archive.{weighted}
use Rattle.model.proofs.Vectors.{AtMost}
use Rattle.model.proofs.Elements.{all_take, all_drop}
use Rattle.model.proofs.Weighted.{weighted_mono, weighted_added}
use Rattle.problem.proofs.Filled.{padded_step}
use Rattle.branch_archive.specs.Changes.{max_weight}
use Rattle.branch_directions.specs.declared.Directions as DD
use Rattle.branch_directions.specs.Directions.{max_directions, direction_end, weights_of, sums_from}

-- a weighted sum of numbers up to m, with weights up to w
weighted_most : (w m : ℕ) (ws u : List ℕ) → All (λ k. k ≤ w) ws → All (λ c. c < m + 1) u
    → weighted ws u ≤ length u * (w * m)
unfolding weighted
weighted_most w m [] u h k = omega arith
weighted_most w m (x ∷ ws) [] h k = omega arith
weighted_most w m (x ∷ ws) (c ∷ u) h k =
    let most : c ≤ m = omega (arith, k.0) in
    omega (arith, mul-le-mul h.0 most, suc-mul (length u) (w * m), weighted_most w m ws u h.1 k.1)

module _ (d : DD.Directions) where
  pub sums_length : (c i : ℕ) (v : List ℕ) → length (sums_from d c i v) ≡ c
  unfolding sums_from
  sums_length zero i v = refl
  sums_length (suc c) i v = ap suc (sums_length c (suc i) v)

  pub sums_at : (c i : ℕ) (v : List ℕ) (k : ℕ) → k < c
      → get_or (sums_from d c i v) k 0 ≡ weighted (weights_of d (i + k)) v
  unfolding sums_from
  sums_at zero i v k h = absurd (omega arith)
  sums_at (suc c) i v zero h = let e : i + 0 ≡ i = omega arith in rw e
  sums_at (suc c) i v (suc k) h =
      let e : i + suc k ≡ suc i + k = omega arith in rw e (sums_at c (suc i) v k (omega arith))

  -- fewer of them
  pub sums_front : (c n i : ℕ) (v : List ℕ) → c ≤ n → take c (sums_from d n i v) ≡ sums_from d c i v
  unfolding sums_from
  sums_front zero n i v h = refl
  sums_front (suc c) zero i v h = absurd (omega arith)
  sums_front (suc c) (suc n) i v h = ap (◌∷◌ (weighted (weights_of d i) v)) (sums_front c n (suc i) v (omega arith))

  sums_more : (c i : ℕ) (v : List ℕ)
      → sums_from d (suc c) i v ≡ sums_from d c i v ++ (weighted (weights_of d (i + c)) v ∷ [])
  unfolding sums_from
  sums_more zero i v = let e : i + 0 ≡ i = omega arith in rw e
  sums_more (suc c) i v =
      let e : i + suc c ≡ suc i + c = omega arith in
      rw e (ap (◌∷◌ (weighted (weights_of d i) v)) (sums_more c (suc i) v))

  pub sums_mono : (c i : ℕ) (u v : List ℕ) → length u ≡ length v → AtMost u v
      → AtMost (sums_from d c i u) (sums_from d c i v)
  unfolding sums_from
  sums_mono zero i u v e h = tt
  sums_mono (suc c) i u v e h = (weighted_mono (weights_of d i) u v e h, sums_mono c (suc i) u v e h)

  pub sums_added : (c i : ℕ) (u v : List ℕ) → length u ≡ length v
      → sums_from d c i (added u v) ≡ added (sums_from d c i u) (sums_from d c i v)
  unfolding sums_from added
  sums_added zero i u v e = refl
  sums_added (suc c) i u v e = rw (weighted_added (weights_of d i) u v e, sums_added c (suc i) u v e)

  pub sums_limit : All (λ w. w ≤ max_weight) d.weights → (c i : ℕ) (v : List ℕ) → length v ≤ max_objectives
      → All (λ k. k < core_sum_end) v → All (λ k. k < direction_end) (sums_from d c i v)
  unfolding sums_from
  sums_limit small zero i v l h = tt
  sums_limit small (suc c) i v l h =
      let weights = all_take (λ w. w ≤ max_weight) d.objectives (drop (4 * i) d.weights)
      (all_drop (λ w. w ≤ max_weight) (4 * i) d.weights small) in (
        omega (arith, weighted_most max_weight (core_sum_end - 1) (weights_of d i) v weights h),
        sums_limit small c (suc i) v l h,
      )

  -- an array with the costs and i sums in it gets the next sum
  pub sums_stored : (v xs : List ℕ) (p i sum : ℕ) → length v ≡ p → p + i < max_directions
      → sum ≡ weighted (weights_of d i) v → xs ≡ padded max_directions (v ++ sums_from d i 0 v)
      → set xs (p + i) sum ≡ padded max_directions (v ++ sums_from d (i + 1) 0 v)
  sums_stored v xs p i sum l h e m =
      let here : p + i - p ≡ i = omega arith in
      let next : suc (p + i) - p ≡ suc i = omega arith in
      let then : p + i + 1 - p ≡ i + 1 = omega arith in
      let same : 0 + i ≡ i = omega arith in
      let long : length (v ++ sums_from d (p + i - p) 0 v) ≡ p + i =
      rw here (simp length-append (omega (arith, sums_length i 0 v))) in
      let more : v ++ sums_from d (suc (p + i) - p) 0 v ≡ (v ++ sums_from d (p + i - p) 0 v) ++ (sum ∷ []) =
      rw (here, next, sums_more i 0 v, same, e, append_assoc) in
      let start : xs ≡ padded max_directions (v ++ sums_from d (p + i - p) 0 v) = rw here m in
      rw then at (padded_step max_directions (p + i) (λ k. v ++ sums_from d (k - p) 0 v) xs sum long h more start)
