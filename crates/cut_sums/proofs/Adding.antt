-- Fronts of two arrays added, number by number: values and costs.
use mathlib.Core.Path.{◌≡◌, sym, ◌∙◌}
use mathlib.Core.List.{List, [], ◌∷◌, ◌++◌}
use Prim.Native.Nat.{ℕ, suc, ◌+◌, ◌≤◌, ◌<◌}
use native.Mathlib.Omega.{arith}
use lib.ListN.{length, get_or, take, set}
use lib.Seq.{length-take-le, take_all, get_or-take, take-suc}
use Rattle.model.specs.Vectors.{added}
use Rattle.model.specs.Basics.{All}
use Rattle.model.specs.Calls.{padded}
use Rattle.model.proofs.Elements.{all_below}
use Rattle.problem.proofs.Filled.{padded_step, take_padded}
use Rattle.model.proofs.Sums.{added_length, added_at}

-- the first n numbers of x and of y
abbrev pub fronts_added : List ℕ → List ℕ → ℕ → List ℕ
fronts_added x y n = added (take n x) (take n y)

module _ (x y : List ℕ) (n : ℕ) (lx : n ≤ length x) (ly : n ≤ length y) where
  abbrev sums : List ℕ
  sums = fronts_added x y n

  first_long : length (take n x) ≡ n
  first_long = length-take-le n x lx

  second_long : length (take n y) ≡ n
  second_long = length-take-le n y ly

  pub sums_long : length sums ≡ n
  sums_long = added_length (take n x) (take n y) (first_long ∙ sym second_long) ∙ first_long

  -- an array that holds the sums so far, then zeros, once all n are added
  pub adding_end : (m i : ℕ) (sum : List ℕ) → n ≤ i → sum ≡ padded m (take i sums) → take n sum ≡ sums
  adding_end m i sum l e =
      let all : take i sums ≡ sums = take_all i sums (omega (arith, sums_long)) in
      rw (e, all) (take_padded m n sums sums_long)

  module _ (i : ℕ) (h : i < n) where
    sums_at : get_or sums i 0 ≡ get_or x i 0 + get_or y i 0
    sums_at =
        added_at (take n x) (take n y) (first_long ∙ sym second_long) i
        ∙ rw (get_or-take n x i 0 h, get_or-take n y i 0 h)

    sums_more : take (suc i) sums ≡ take i sums ++ ((get_or x i 0 + get_or y i 0) ∷ [])
    sums_more = rw (← sums_at) (take-suc sums i 0 (omega (arith, sums_long)))

    -- one number more is added
    pub adding_next : (m : ℕ) (sum : List ℕ) → n ≤ m → sum ≡ padded m (take i sums)
        → set sum i (get_or x i 0 + get_or y i 0) ≡ padded m (take (i + 1) sums)
    adding_next m sum l e =
        padded_step m i (λ k. take k sums) sum _ (length-take-le i sums (omega (arith, sums_long))) (omega arith)
        sums_more e

    -- what every sum has
    pub sums_each : (P : ℕ → Type 0) → All P sums → P (get_or x i 0 + get_or y i 0)
    sums_each P w = rw (← sums_at) (all_below P sums w i 0 (omega (arith, sums_long)))
