-- A cost vector in every direction: its length, order and limits, its costs in front, its leading sum, that it adds up,
-- and a bound that is at most it, in two parts.
use mathlib.Core.Path.{◌≡◌, refl, sym, ap, ◌∙◌}
use mathlib.Core.Bool.{◌&&◌}
use mathlib.Core.List.{List, [], ◌∷◌, ◌++◌, append-nil}
use Prim.Native.Nat.{ℕ, zero, suc, ◌+◌, ◌≤◌, ◌<◌}
use native.Mathlib.Omega.{arith}
use lib.Dec.{eqb}
use lib.ListN.{length, get_or, take, drop, length-append}
use lib.Seq.{length-take-le, take-add, take_at, get_or_at}
use borrow.Author.Tests.{ne_eqb}
use Rattle.model.specs.Basics.{All, pick}
use Rattle.model.specs.Core.{core_sum_end}
use Rattle.model.specs.Vectors.{at_most, added}
use Rattle.model.specs.Archive.{weighted}
use Rattle.model.proofs.Bits.{and_both}
use Rattle.model.proofs.Vectors.{AtMost, at_most_true, at_most_test}
use Rattle.model.proofs.AtMostAt.{at_most_parts}
use Rattle.model.proofs.Elements.{all_at, all_map, all_append}
use Rattle.model.proofs.Sums.{added_at, added_append}
use Rattle.branch_directions.specs.declared.Directions as DD
use Rattle.branch_directions.specs.Directions.{direction_end, sums_from, directions_of, width_of}
use Rattle.branch_directions.specs.Directions.{lead_weights, lead_at, Sensible}
use Rattle.branch_directions.proofs.SumsOf.{sums_length, sums_mono, sums_added, sums_limit}

-- for any number of costs
width : (d : DD.Directions) (v : List ℕ) → length (directions_of d v) ≡ length v + d.sums
unfolding directions_of
width d v = length-append v (sums_from d d.sums 0 v) ∙ ap (◌+◌ (length v)) (sums_length d d.sums 0 v)

pub directions_length : (d : DD.Directions) (v : List ℕ) → length v ≡ d.objectives
    → length (directions_of d v) ≡ width_of d
directions_length d v e = width d v ∙ ap (λ (k : ℕ). k + d.sums) e

pub directions_mono : (d : DD.Directions) (u v : List ℕ) → length u ≡ length v → AtMost u v
    → AtMost (directions_of d u) (directions_of d v)
unfolding directions_of
directions_mono d u v e h =
    let sums = sums_mono d d.sums 0 u v e h in
    at_most_true _ _
    (at_most_parts u v (sums_from d d.sums 0 u) (sums_from d d.sums 0 v) e
    ∙ and_both (at_most_test _ _ h) (at_most_test _ _ sums))

-- a bound is at most a vector in every direction if it is in the objectives and in the sums
pub directions_parts : (d : DD.Directions) (b v : List ℕ) → d.objectives ≤ length b → length v ≡ d.objectives
    → at_most (take (width_of d) b) (directions_of d v)
    ≡ (at_most (take d.objectives b) v
    && at_most (take d.sums (drop d.objectives b)) (sums_from d d.sums 0 v))
unfolding directions_of
directions_parts d b v l e =
    rw (take-add d.objectives d.sums b)
    (at_most_parts (take d.objectives b) v (take d.sums (drop d.objectives b)) (sums_from d d.sums 0 v)
    (length-take-le d.objectives b l ∙ sym e))

whole_added : (d : DD.Directions) (u v : List ℕ) → length u ≡ length v
    → directions_of d (added u v) ≡ added (directions_of d u) (directions_of d v)
unfolding directions_of
whole_added d u v e =
    rw (sums_added d d.sums 0 u v e, added_append u v (sums_from d d.sums 0 u) (sums_from d d.sums 0 v) e)

pub directions_added : (d : DD.Directions) (u v : List ℕ) → length u ≡ d.objectives → length v ≡ d.objectives
    → (j : ℕ)
    → get_or (directions_of d (added u v)) j 0 ≡ get_or (directions_of d u) j 0 + get_or (directions_of d v) j 0
directions_added d u v e f j =
    ap (λ (l : List ℕ). get_or l j 0) (whole_added d u v (e ∙ sym f))
    ∙ added_at (directions_of d u) (directions_of d v) (omega (arith, width d u, width d v)) j

pub directions_costs : (d : DD.Directions) (v : List ℕ) → length v ≡ d.objectives
    → take d.objectives (directions_of d v) ≡ v
unfolding directions_of
directions_costs d v e = take_at v (sums_from d d.sums 0 v) d.objectives e

-- one objective alone, with the weight 1
alone_sum : (v : List ℕ) → length v ≡ 1 → get_or v 0 0 ≡ weighted (1 ∷ []) v
unfolding weighted
alone_sum [] e = absurd (omega arith)
alone_sum (c ∷ v) e = omega arith

pub directions_lead : (d : DD.Directions) (v : List ℕ) → Sensible d → length v ≡ d.objectives
    → get_or (directions_of d v) (lead_at d) 0 ≡ weighted (lead_weights d) v
unfolding directions_of sums_from
directions_lead d v s e = go d.sums refl
  where
    go : (c : ℕ) → d.sums ≡ c
        → get_or (v ++ sums_from d c 0 v) (pick (eqb c 0) 0 d.objectives) 0 ≡ weighted (lead_weights d) v
    go zero none = rw (append-nil v, (s.alone none).1) (alone_sum v (e ∙ (s.alone none).0))
    go (suc c) some =
        rw (ne_eqb (suc c) 0 (λ z. omega arith))
        (get_or_at v (weighted (lead_weights d) v) (sums_from d c 1 v) 0 d.objectives e)

pub directions_limit : (d : DD.Directions) (v : List ℕ) → Sensible d → All (λ c. c < core_sum_end) v
    → length v ≡ d.objectives → (j : ℕ) → get_or (directions_of d v) j 0 < direction_end
unfolding directions_of
directions_limit d v s h e j =
    all_at (λ k. k < direction_end) (v ++ sums_from d d.sums 0 v)
    (all_append (λ k. k < direction_end) v (sums_from d d.sums 0 v)
    (all_map (λ c. c < core_sum_end) (λ k. k < direction_end) (λ k l. omega arith) v h)
    (sums_limit d s.small d.sums 0 v (omega (arith, s.few)) h))
    j 0 (omega arith)
