-- The entries that agree with a prefix as runs in even steps, one scope variable at a time.
use mathlib.Core.Path.{◌≡◌, refl, sym, ap, ◌∙◌}
use mathlib.Core.Logic.{◌≢◌, ⊎_elim}
use mathlib.Core.Bool.{true, false}
use mathlib.Core.List.{List}
use Prim.Native.Nat.{ℕ, ◌+◌, ◌-◌, ◌*◌, ◌≤◌, ◌<◌}
use native.Mathlib.Omega.{arith}
use native.Mathlib.Nat.{one-mul, zero-mul, add-mul, mul_assoc, mul-pos, mul-le-mul_right}
use lib.Dec.{ltb}
use lib.ListN.{length, get_or, drop}
use borrow.Author.Tests.{ltb-true, ltb-false}
use Rattle.model.specs.Basics.{All}
use Rattle.model.specs.Problems.{DomainSize, size_of}
use Rattle.model.specs.Reading.{table_arity}
use Rattle.model.specs.Bounds.{least_to, least_from}
use Rattle.model.proofs.Bits.{test}
use Rattle.model.proofs.Numbers.{digit_room}
use Rattle.problem.specs.Records.{Whole}
use Rattle.problem.proofs.Scopes.{whole_ends}
use Rattle.costs.specs.Entries.{number_at, scope_at, variable_at, entries_at}
use Rattle.costs.proofs.ScopeVariables.{scope_end, scope_next, variable_size}
use Rattle.costs.proofs.Rooms.{rooms_fit}
use Rattle.costs.proofs.LeastSteps.{least_none, least_fixed, least_free}
use Rattle.costs.proofs.LeastRuns.{least_same, least_run}

-- after the first k variables the indices that agree are `rows` runs of `count`, `stride` apart, from `first` on
pub record Running (ds pre s : List ℕ) (at k first count rows stride : ℕ) : Type 0 where
  pub inside : k ≤ table_arity (drop at s)
  pub some : 1 ≤ count
  pub row : 1 ≤ rows
  pub room : (first + (rows - 1) * stride + count) * size_of ds (drop k (scope_at s at)) ≤ entries_at ds s at
  pub step : stride * size_of ds (drop k (scope_at s at)) ≤ entries_at ds s at
  pub least :
      least_to (rows - 1)
      (λ i. least_to (count - 1)
      (λ a. least_from ds pre (number_at ds s at) (first + i * stride + a) (drop k (scope_at s at))))
      ≡ least_from ds pre (number_at ds s at) 0 (scope_at s at)
  -- a free variable gives several in a run, a fixed one behind it rows, a free one behind that several in each
  pub early : 1 < count → 1 ≤ k
  pub late : 1 < rows → 2 ≤ k
  pub last : 1 < rows → 1 < count → 3 ≤ k

module _ (ds pre s : List ℕ) (at : ℕ) where
  pub running_start : Running ds pre s at 0 0 1 1 0
  unfolding least_to
  running_start =
      record {
        inside = omega arith;
        some = omega arith;
        row = omega arith;
        room = rw one-mul (omega arith);
        step = rw zero-mul (omega arith);
        least = refl;
        early = λ h. absurd (omega arith);
        late = λ h. absurd (omega arith);
        last = λ h. absurd (omega arith);
      }

module _ (ds pre s : List ℕ) (at : ℕ) (w : Whole ds s at) (sizes : All DomainSize ds) (k first count rows stride : ℕ)
    (u : Running ds pre s at k first count rows stride) where
  pub running_inside : first + (rows - 1) * stride + count ≤ entries_at ds s at
  running_inside = rooms_fit ds s at w sizes k (first + (rows - 1) * stride + count) u.room

  pub running_end : k ≡ table_arity (drop at s)
      → least_to (rows - 1) (λ i. least_to (count - 1) (λ a. number_at ds s at (first + i * stride + a)))
      ≡ least_from ds pre (number_at ds s at) 0 (scope_at s at)
  running_end e =
      let none = scope_end ds s at w in
      least_same (rows - 1) _ _ (λ i. least_same (count - 1) _ _ (λ a. sym (rw (e, none, least_none)))) ∙ u.least

  module _ (more : k < table_arity (drop at s)) where
    abbrev variable : ℕ
    variable = variable_at s at k

    abbrev domain : ℕ
    domain = get_or ds variable 0

    -- how many entries each index has after this variable
    abbrev left : ℕ
    left = size_of ds (drop (k + 1) (scope_at s at))

    left_next : size_of ds (drop k (scope_at s at)) ≡ domain * left
    unfolding size_of
    left_next = ap (size_of ds) (scope_next ds s at w k more)

    one : 1 ≤ domain
    one = (variable_size ds s at w k more sizes).0

    -- index number a of row i, with value x of the variable
    at_value : (i a x : ℕ)
        → (first + i * stride + a) * domain + x ≡ first * domain + i * (stride * domain) + a * domain + x
    at_value i a x =
        omega (
          arith,
          add-mul (first + i * stride) a domain,
          add-mul first (i * stride) domain,
          mul_assoc i stride domain,
        )

    wider :
        (first * domain + (rows - 1) * (stride * domain) + count * domain) * left ≤ entries_at ds s at
    wider =
        let e : (first + (rows - 1) * stride + count) * domain
        ≡ first * domain + (rows - 1) * (stride * domain) + count * domain =
        omega (arith, at_value (rows - 1) count 0) in
        rw (← e, mul_assoc) (rw left_next at u.room)

    stepped : (stride * domain) * left ≤ entries_at ds s at
    stepped = rw mul_assoc (rw left_next at u.step)

    -- nothing wraps
    pub running_fits :
        (first * domain + (rows - 1) * (stride * domain) + count * domain ≤ length s) × (stride * domain ≤ length s)
    running_fits =
        let ends = whole_ends ds s at w in (
          omega (arith, rooms_fit ds s at w sizes (k + 1) _ wider, ends),
          omega (arith, rooms_fit ds s at w sizes (k + 1) _ stepped, ends),
        )

    -- what an index leads to
    abbrev from : ℕ → ℕ
    from i = least_from ds pre (number_at ds s at) i (drop (k + 1) (scope_at s at))

    abbrev before : ℕ → ℕ
    before i = least_from ds pre (number_at ds s at) i (drop k (scope_at s at))

    pub running_free : length pre ≤ variable
        → Running ds pre s at (k + 1) (first * domain) (count * domain) rows (stride * domain)
    running_free h =
        let d = domain in
        let place : (i a b : ℕ)
        → first * d + i * (stride * d) + (a * d + b) ≡ (first + i * stride + a) * d + b =
        λ i a b. omega (arith, at_value i a b) in
        let each : (i a : ℕ)
        → least_to (d - 1) (λ b. from (first * d + i * (stride * d) + (a * d + b))) ≡ before (first + i * stride + a) =
        λ i a. least_same (d - 1) _ _ (λ b. ap from (place i a b))
        ∙ sym (rw (
          scope_next ds s at w k more,
          least_free ds pre (number_at ds s at) (first + i * stride + a) variable (drop (k + 1) (scope_at s at)) h,
        )) in
        let row : (i : ℕ)
        → least_to (count * d - 1) (λ c. from (first * d + i * (stride * d) + c))
        ≡ least_to (count - 1) (λ a. before (first + i * stride + a)) =
        λ i. sym (least_run count d (λ c. from (first * d + i * (stride * d) + c)) u.some one)
        ∙ least_same (count - 1) _ _ (each i) in
        record {
          inside = omega arith;
          some = mul-pos u.some one;
          row = u.row;
          room = wider;
          step = stepped;
          least = least_same (rows - 1) _ _ row ∙ u.least;
          early = λ h. omega arith;
          late = λ h. omega (arith, u.late h);
          last = λ h l. omega (arith, u.late h);
        }

    module _ (h : variable < length pre) (l : get_or pre variable 0 < domain) where
      abbrev x : ℕ
      x = get_or pre variable 0

      pub running_value : first * domain + x ≤ length s
      running_value = omega (arith, running_fits.0, mul-le-mul_right domain u.some, one-mul domain)

      fixed : (i a j : ℕ) → j ≡ first * domain + i * (stride * domain) + a * domain + x
          → from j ≡ before (first + i * stride + a)
      fixed i a j e =
          ap from (e ∙ sym (at_value i a x))
          ∙ sym (rw (
            scope_next ds s at w k more,
            least_fixed ds pre (number_at ds s at) (first + i * stride + a) variable (drop (k + 1) (scope_at s at)) h,
          ))

      pub running_fixed : count ≡ 1 → Running ds pre s at (k + 1) (first * domain + x) count rows (stride * domain)
      unfolding least_to
      running_fixed e =
          let d = domain in
          let index : (first + (rows - 1) * stride) * d ≡ first * d + (rows - 1) * (stride * d) =
          omega (arith, at_value (rows - 1) 0 0, zero-mul d) in
          let end : first * d + x + (rows - 1) * (stride * d) + 1 ≡ (first + (rows - 1) * stride) * d + x + 1 =
          omega (arith, index) in
          record {
            inside = omega arith;
            some = u.some;
            row = u.row;
            room =
                rw (e, end)
                (omega (arith, digit_room (first + (rows - 1) * stride) d x left l, rw (left_next, e) at u.room));
            step = stepped;
            least =
                least_same (rows - 1) _ _
                (λ i. rw e (fixed i 0 _ (omega (arith, zero-mul d))))
                ∙ rw e at u.least;
            early = λ m. omega arith;
            late = λ m. omega (arith, u.late m);
            last = λ m n. omega (arith, u.late m);
          }

      pub running_split : count ≢ 1 → Running ds pre s at (k + 1) (first * domain + x) 1 count domain
      unfolding least_to
      running_split n =
          let d = domain in
          let several : 1 < count = omega (arith, u.some) in
          let single : rows ≡ 1 =
          ⊎_elim
          (λ (m : ltb 1 rows ≡ true). absurd (omega (arith, u.last (ltb-true 1 rows m) several, w.few)))
          (λ (m : ltb 1 rows ≡ false). omega (arith, ltb-false 1 rows m, u.row))
          (test (ltb 1 rows)) in
          let none : 0 * stride ≡ 0 = zero-mul stride in
          let sum : first + 0 + count ≡ first + count = omega arith in
          let all : (first + count) * (d * left) ≤ entries_at ds s at =
          rw (left_next, single, none, sum) at u.room in
          let index : (first + (count - 1)) * d ≡ first * d + (count - 1) * d = add-mul first (count - 1) d in
          let end : first * d + x + (count - 1) * d + 1 ≡ (first + (count - 1)) * d + x + 1 = omega (arith, index) in
          let last : first + (count - 1) + 1 ≡ first + count = omega arith in
          record {
            inside = omega arith;
            some = omega arith;
            row = u.some;
            room = rw end (omega (arith, rw last at (digit_room (first + (count - 1)) d x left l), all));
            step = omega (arith, mul-le-mul_right (d * left) several, all);
            least =
                least_same (count - 1) _ _ (λ i. fixed 0 i _ (omega (arith, zero-mul (stride * d))))
                ∙ rw single at u.least;
            early = λ m. absurd (omega arith);
            late = λ m. omega (arith, u.early m);
            last = λ m k. absurd (omega arith);
          }
