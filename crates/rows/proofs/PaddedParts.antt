-- A front of a list with zeros behind it, number by number.
use mathlib.Core.Path.{◌≡◌}
use mathlib.Core.List.{List}
use Prim.Native.Nat.{ℕ, ◌+◌, ◌-◌, ◌≤◌, ◌<◌}
use native.Mathlib.Omega.{arith}
use lib.ListN.{length, take, get_or, replicate, get_or-append, get_or-replicate}
use lib.Seq.{length-take-le, get_or-take, get_or-append-add}
use Rattle.model.specs.Calls.{padded}
use Rattle.problem.proofs.Filled.{length_padded}

module _ (n p : ℕ) (xs : List ℕ) (few : p ≤ n) (long : n ≤ length xs) where
  front_long : length (take p xs) ≡ p
  front_long = length-take-le p xs (omega arith)

  pub padded_long : length (padded n (take p xs)) ≡ n
  padded_long = length_padded n (take p xs) (omega (arith, front_long))

  pub padded_front : (i : ℕ) → i < p → get_or xs i 0 ≡ get_or (padded n (take p xs)) i 0
  unfolding padded
  padded_front i h =
      rw (
        get_or-append (take p xs) (replicate (n - length (take p xs)) 0) 0 i (omega (arith, front_long)),
        get_or-take p xs i 0 h,
      )

  pub padded_rest : (i : ℕ) → p ≤ i → i < n → 0 ≡ get_or (padded n (take p xs)) i 0
  unfolding padded
  padded_rest i h l =
      let e : length (take p xs) + (i - p) ≡ i = omega (arith, front_long) in
      rw (
        ← e,
        get_or-append-add,
        get_or-replicate {A = ℕ} (n - length (take p xs)) (i - p) 0 0
            (omega (arith, front_long)),
      )
