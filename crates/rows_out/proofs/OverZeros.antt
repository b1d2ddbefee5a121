-- A front of a list written over zeros is that front, padded.
use mathlib.Core.Path.{◌≡◌, sym, ◌∙◌}
use mathlib.Core.List.{List, ◌++◌}
use Prim.Native.Nat.{ℕ, ◌+◌, ◌-◌, ◌≤◌}
use native.Mathlib.Omega.{arith}
use native.Mathlib.Nat.{zero-add}
use lib.ListN.{length, take, drop, replicate, length-replicate, replicate-append-replicate}
use lib.Seq.{length-take-le, drop_at}
use Rattle.model.specs.Calls.{padded}

pub front_over_zeros : (n p : ℕ) (xs : List ℕ) → p ≤ n → n ≤ length xs → (new : List ℕ)
    → new ≡ take 0 (replicate n 0) ++ take p xs ++ drop (0 + p) (replicate n 0) → new ≡ padded n (take p xs)
unfolding padded
front_over_zeros n p xs few long new e =
    let all : p + (n - p) ≡ n = omega arith in
    let front_long : length (take p xs) ≡ p = length-take-le p xs (omega arith) in
    let zeros : replicate {A = ℕ} n 0 ≡ replicate p 0 ++ replicate (n - p) 0 =
    sym (replicate-append-replicate {A = ℕ} p (n - p) 0 ∙ rw all) in
    e
    ∙ rw (
      zero-add,
      front_long,
      zeros,
      drop_at {A = ℕ} (replicate p 0) (replicate (n - p) 0) p (length-replicate {A = ℕ} p 0),
    )
