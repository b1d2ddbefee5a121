-- How long the groups of the first variables are together: at most three places for each record.
use mathlib.Core.Path.{◌≡◌, refl}
use mathlib.Core.Bool.{Bool, true, false, ◌||◌}
use mathlib.Core.List.{List, [], ◌∷◌}
use Prim.Native.Nat.{ℕ, zero, suc, ◌+◌, ◌*◌, ◌≤◌, ◌<◌}
use native.Mathlib.Omega.{arith}
use native.Mathlib.Numerals.{add-one}
use lib.Dec.{eqb}
use lib.ListN.{length, drop}
use borrow.Author.Tests.{eqb-true, ne_eqb}
use borrow.Author.Count.{below_more}
use Rattle.model.specs.Basics.{All, when}
use Rattle.model.specs.Limits.{max_arity}
use Rattle.model.specs.Problems.{has_variable}
use Rattle.model.specs.Reading.{table_scope}
use Rattle.model.proofs.Bits.{keep_length}
use Rattle.problem.specs.Records.{Whole}
use Rattle.groups.specs.Groups.{group_of}
use Rattle.problem.proofs.Scopes.{scope_few}

unfoldable pub length_to : List ℕ → List ℕ → ℕ → ℕ
length_to s places zero = 0
length_to s places (suc v) = length_to s places v + length (group_of s v places)

module _ (s places : List ℕ) where
  pub length_next : (v : ℕ) → length_to s places (v + 1) ≡ length_to s places v + length (group_of s v places)
  unfolding length_to
  length_next v = rw add-one

  -- the group of a variable ends where that of a later one starts, or before
  pub length_later : (u v : ℕ) → u < v → length_to s places u + length (group_of s u places) ≤ length_to s places v
  unfolding length_to
  length_later u zero h = absurd (omega arith)
  length_later u (suc v) h =
      below_more (λ k. length_to s places k + length (group_of s k places) ≤ length_to s places (suc v)) v
      (λ k l. omega (arith, length_later k v l)) (omega arith) u (omega arith)

-- how many variables below v a scope has: no more than are in it
count_to : ℕ → List ℕ → ℕ
count_to zero ws = 0
count_to (suc v) ws = count_to v ws + when (has_variable v ws) 1

count_none : (v : ℕ) → count_to v [] ≡ 0
unfolding count_to has_variable
count_none zero = refl
count_none (suc v) = rw (count_none v)

-- a variable from v on does not count
count_same : (v w : ℕ) (ws : List ℕ) → v ≤ w → count_to v (w ∷ ws) ≡ count_to v ws
unfolding count_to has_variable
count_same zero w ws h = refl
count_same (suc v) w ws h = rw (count_same v w ws (omega arith), ne_eqb w v (λ e. omega arith))

count_more : (v w : ℕ) (ws : List ℕ) → count_to v (w ∷ ws) ≤ 1 + count_to v ws
unfolding count_to has_variable
count_more zero w ws = omega arith
count_more (suc v) w ws = go (eqb w v) refl (count_more v w ws)
  where
    go : (b : Bool) → eqb w v ≡ b → count_to v (w ∷ ws) ≤ 1 + count_to v ws
        → count_to v (w ∷ ws) + when (eqb w v || has_variable v ws) 1 ≤ 1 + (count_to v ws + when (has_variable v ws) 1)
    go true e h = rw e (omega (arith, count_same v w ws (omega (arith, eqb-true w v e))))
    go false e h = rw e (omega arith)

count_few : (v : ℕ) (ws : List ℕ) → count_to v ws ≤ length ws
count_few v [] = omega (arith, count_none v)
count_few v (w ∷ ws) = omega (arith, count_more v w ws, count_few v ws)

-- a record stands in as many groups as its scope has variables below v
length_record : (s : List ℕ) (at : ℕ) (places : List ℕ) (v : ℕ)
    → length_to s (at ∷ places) v ≡ count_to v (table_scope (drop at s)) + length_to s places v
unfolding length_to group_of count_to
length_record s at places zero = refl
length_record s at places (suc v) =
    omega (
      arith,
      length_record s at places v,
      keep_length (has_variable v (table_scope (drop at s))) at (group_of s v places),
    )

length_none : (s : List ℕ) (v : ℕ) → length_to s [] v ≡ 0
unfolding length_to group_of
length_none s zero = refl
length_none s (suc v) = rw (length_none s v)

pub length_few : (ds s places : List ℕ) → All (Whole ds s) places → (v : ℕ)
    → length_to s places v ≤ max_arity * length places
length_few ds s [] h v = omega (arith, length_none s v)
length_few ds s (at ∷ places) h v =
    omega (
      arith,
      length_record s at places v,
      count_few v (table_scope (drop at s)),
      scope_few ds s at h.0,
      length_few ds s places h.1 v,
    )
