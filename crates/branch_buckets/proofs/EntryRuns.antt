-- The entry of a record as one variable runs through its values, after the first k variables of the scope.
use mathlib.Core.Path.{◌≡◌, ap, sym, ◌∙◌}
use mathlib.Core.Bool.{true}
use mathlib.Core.List.{List}
use Prim.Native.Nat.{ℕ, ◌+◌, ◌*◌, ◌^◌, ◌≤◌, ◌<◌}
use native.Mathlib.Omega.{arith}
use native.Mathlib.Numerals.{add-one}
use native.Mathlib.Nat.{mul-zero, mul-one, mul-le-mul_left, pow-succ', pow-le-pow_right}
use lib.ListN.{length, get_or, drop, set}
use Rattle.model.specs.Basics.{All}
use Rattle.model.specs.Problems.{DomainSize}
use Rattle.model.specs.Reading.{table_arity}
use Rattle.model.specs.Costs.{is_choice, entry_from}
use Rattle.model.proofs.Numbers.{digit_grows}
use Rattle.model.proofs.Prefixes.{set_choice}
use Rattle.problem.specs.Records.{Whole}
use Rattle.problem.proofs.Sizes.{domain_size_lem}
use Rattle.costs.specs.Entries.{scope_at, variable_at}
use Rattle.costs.proofs.ScopeVariables.{scope_end, scope_next, variable_exists, variable_size, value_below}
use Rattle.costs.proofs.Rooms.{Room, room_index, room_fits, room_next}
use Rattle.branch_buckets.specs.Adding.{TermSays, EntrySays}
use Rattle.branch_buckets.specs.declared.Progression as DP

pub record EntrySteps (ds s : List ℕ) (at v : ℕ) (x : List ℕ) (k first stride : ℕ) : Type 0 where
  pub room : (a : ℕ) → a < get_or ds v 0 → Room ds s at k (first + a * stride)
  pub entry : (a : ℕ) → a < get_or ds v 0
      → entry_from (first + a * stride) ds (drop k (scope_at s at)) (set x v a)
      ≡ entry_from 0 ds (scope_at s at) (set x v a)
  pub narrow : stride < 16 ^ k

module _ (ds s : List ℕ) (at v : ℕ) (x : List ℕ) where
  module _ (w : Whole ds s at) (sizes : All DomainSize ds) (exists : v < length ds)
      (choice : is_choice ds x ≡ true) where
    module _ {k first stride : ℕ} (u : EntrySteps ds s at v x k first stride) where
      first_fits : first < length s
      first_fits =
          omega (
            arith,
            mul-zero stride,
            room_fits ds s at w sizes k (first + 0 * stride) (u.room 0 (domain_size_lem ds sizes v exists).0),
          )

      stride_fits : k ≤ table_arity (drop at s) → stride < 4096
      stride_fits h =
          omega (
            arith,
            u.narrow,
            w.few,
            pow-le-pow_right {n = 16} (omega arith) {i = k} {j = 3} (omega (arith, w.few)),
          )

      entry_next :
          k < table_arity (drop at s) → (t : DP.Progression) → TermSays (variable_at s at k) 1 v x t
          → EntrySteps ds s at v x (k + 1) (first * get_or ds (variable_at s at k) 0 + t.first)
          (stride * get_or ds (variable_at s at k) 0 + t.stride)
      unfolding entry_from
      entry_next more t says =
          let z = variable_at s at k in
          let d = get_or ds z 0 in
          let value : (a : ℕ) → get_or (set x v a) z 0 ≡ t.first + a * t.stride =
          λ a. sym (mul-one (get_or (set x v a) z 0)) ∙ says.term a in
          let place : (a : ℕ)
          → (first + a * stride) * d + get_or (set x v a) z 0 ≡ (first * d + t.first) + a * (stride * d + t.stride) =
          λ a. rw (value a) (digit_grows first stride d t.first t.stride a) in
          let below : (a : ℕ) → a < get_or ds v 0 → get_or (set x v a) z 0 < d =
          λ a h. value_below ds (set x v a) (set_choice ds x v a choice h) z (variable_exists ds s at w k more) in
          record {
            room =
                λ a h. rw (place a)
                at (room_next ds s at w k (first + a * stride) (u.room a h) more (get_or (set x v a) z 0) (below a h));
            entry =
                λ a h. ap (λ (n : ℕ). entry_from n ds (drop (k + 1) (scope_at s at)) (set x v a)) (sym (place a))
                ∙ (rw (scope_next ds s at w k more) at (u.entry a h));
            narrow =
                rw (add-one, pow-succ')
                (omega (
                  arith,
                  u.narrow,
                  says.flat,
                  mul-le-mul_left stride (variable_size ds s at w k more sizes).1,
                ));
          }

      pub entry_end_lem : table_arity (drop at s) ≡ k
          → EntrySays ds s at v x (record { first = first; stride = stride })
      unfolding entry_from
      entry_end_lem e =
          λ a h. (
            sym (rw (← e, scope_end ds s at w) at (u.entry a h)),
            room_index ds s at w sizes k (first + a * stride) (u.room a h),
          )

    -- one variable more, from what was read of it: nothing wraps
    pub entry_step : {k first stride : ℕ} → EntrySteps ds s at v x k first stride → k < table_arity (drop at s)
        → (u : ℕ) → u ≡ variable_at s at k → (t : DP.Progression) → TermSays u 1 v x t
        → EntrySteps ds s at v x (k + 1) (first * get_or ds u 0 + t.first) (stride * get_or ds u 0 + t.stride)
        × (first * get_or ds u 0 + t.first < length s) × (stride * get_or ds u 0 + t.stride < 4096)
    entry_step {k} {first} {stride} steps more u e t says =
        let d = get_or ds u 0 in
        let next : EntrySteps ds s at v x (k + 1) (first * d + t.first) (stride * d + t.stride) =
        rw e (entry_next steps more t (rw e at says)) in
        (next, first_fits next, stride_fits next (omega arith))
