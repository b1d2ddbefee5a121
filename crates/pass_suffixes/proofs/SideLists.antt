-- Side lists of the variables from k on: ones over zeros, and the front of a longer one.
use mathlib.Core.Path.{◌≡◌, ap, ◌∙◌}
use mathlib.Core.List.{◌++◌}
use Prim.Native.Nat.{ℕ, ◌+◌, ◌-◌, ◌≤◌}
use native.Mathlib.Omega.{arith}
use lib.ListN.{length, take, replicate, length-replicate}
use lib.Seq.{take-append-add}
use Rattle.model.specs.Suffixes.{suffix_sides}
use Rattle.model.proofs.Zeros.{front_same}

module _ (n k : ℕ) (below : k ≤ n) where
  -- of fewer variables
  pub sides_front : (m : ℕ) → n ≤ m → take n (suffix_sides m k) ≡ suffix_sides n k
  sides_front m h =
      let split : length (replicate {A = ℕ} k 0) + (n - k) ≡ n = omega (arith, length-replicate {A = ℕ} k 0) in
      (rw split at (take-append-add {A = ℕ} (replicate k 0) (replicate (m - k) 1) (n - k)))
      ∙ ap (◌++◌ (replicate k 0)) (front_same (n - k) (m - k) 1 (omega arith))
