-- The areas of the problems: each holds what a call of its own gives there, and behind the last nothing has changed.
use mathlib.Core.Path.{◌≡◌, refl, sym, ap, ◌∙◌}
use mathlib.Core.Bool.{true}
use mathlib.Core.List.{List, [], ◌∷◌, ◌++◌}
use Prim.Native.Nat.{ℕ, zero, suc, ◌+◌, ◌*◌, ◌≤◌, ◌<◌}
use native.Mathlib.Omega.{arith}
use native.Mathlib.Nat.{mul-suc}
use lib.ListN.{length, get_or, take, drop, length-drop}
use lib.Seq.{take_at, drop_at, drop-drop}
use Rattle.model.specs.Calls.{solve_outcome}
use Rattle.model.proofs.Demands.{buffers}
use Rattle.batch_frames.specs.Batches.{batch_of}
use Rattle.batch_frames.specs.Outcomes.{cost_area, choice_area, result_area, areas_ok, in_turn, batch_outcome}
use Rattle.batch_frames.specs.Statements.{Taken, area_of, Stands, Beyond}
use Rattle.batch_frames.proofs.AreaSteps.{areas_there}
use Rattle.batch_frames.proofs.InTurn.{costs_long, choices_long, work_long, costs_same, choices_same}
use Rattle.batch_frames.proofs.Accepted.{in_turn_lem}

-- ## one buffer, where each problem has n elements

module _ (n k : ℕ) where
  -- what stands behind the areas of one problem and k more
  drop_next : (xs : List ℕ) → drop (n * suc k) xs ≡ drop (n * k) (drop n xs)
  drop_next xs =
      let e : n * suc k ≡ n + n * k = omega (arith, mul-suc n k) in
      rw e (sym (drop-drop (n * k) n xs))

  fits_first : (xs : List ℕ) → n * suc k ≤ length xs → n ≤ length xs
  fits_first xs h = omega (arith, h, mul-suc n k)

  fits_next : (xs : List ℕ) → n * suc k ≤ length xs → n * k ≤ length (drop n xs)
  fits_next xs h = omega (arith, h, mul-suc n k, length-drop n xs)

  -- the first area is written anew
  module _ (front rest : List ℕ) (long : length front ≡ n) where
    area_behind : area_of n (suc k) (front ++ rest) ≡ area_of n k rest
    area_behind = ap (take n) (drop_next (front ++ rest) ∙ ap (drop (n * k)) (drop_at front rest n long))

    beyond_next : (xs : List ℕ) → drop (n * k) rest ≡ drop (n * k) (drop n xs)
        → drop (n * suc k) (front ++ rest) ≡ drop (n * suc k) xs
    beyond_next xs h =
        drop_next (front ++ rest) ∙ ap (drop (n * k)) (drop_at front rest n long) ∙ h ∙ sym (drop_next xs)

-- ## the cost and choice buffers have the areas of k problems

record There (k : ℕ) (costs choices : List ℕ) : Type 0 where
  costs_there : cost_area * k ≤ length costs
  choices_there : choice_area * k ≤ length choices

there : (k : ℕ) (costs choices results : List ℕ)
    → areas_ok k (length costs) (length choices) (length results) ≡ true → There k costs choices
there k costs choices results h =
    let (in-costs, in_choices, in-results) = areas_there k (length costs) (length choices) (length results) h in
    record { costs_there = in-costs; choices_there = in_choices }

there_next : (k : ℕ) (costs choices : List ℕ) → There (suc k) costs choices
    → There k (drop cost_area costs) (drop choice_area choices)
there_next k costs choices t = record {
  costs_there = fits_next cost_area k costs t.costs_there;
  choices_there = fits_next choice_area k choices t.choices_there;
}

-- ## each problem's areas

module _ (lent : List ℕ) where
  stands : (k : ℕ) (ss : List (List ℕ)) (costs choices results work : List ℕ) → length work ≡ length lent
      → There (length ss) costs choices → k < length ss
      → Stands k (solve_outcome (get_or ss k []) (area_of cost_area k costs) (area_of choice_area k choices) lent)
      (in_turn ss costs choices results work)
  unfolding in_turn
  stands k [] costs choices results work e t h = absurd (omega arith)
  stands zero (s ∷ ss) costs choices results work e t h =
      let c = take cost_area costs in
      let x = take choice_area choices in
      let same = buffers.solve_same s c c x x work lent refl refl e in
      record {
        costs = take_at (solve_outcome s c x work).costs _ cost_area
            (costs_long s costs choices work (fits_first cost_area (length ss) costs t.costs_there))
            ∙ costs_same s c x work lent e;
        choices = take_at (solve_outcome s c x work).choices _ choice_area
            (choices_long s costs choices work (fits_first choice_area (length ss) choices t.choices_there))
            ∙ choices_same s c x work lent e;
        results = rw (same.verdict, same.count) refl;
      }
  stands (suc k) (s ∷ ss) costs choices results work e t h =
      let o = solve_outcome s (take cost_area costs) (take choice_area choices) work in
      let next = stands k ss (drop cost_area costs) (drop choice_area choices) (drop result_area results) o.work
      (work_long s (take cost_area costs) (take choice_area choices) work ∙ e)
      (there_next (length ss) costs choices t) (omega arith) in
      rw (drop_next cost_area k costs, drop_next choice_area k choices) (record {
        costs = area_behind cost_area k o.costs _
            (costs_long s costs choices work (fits_first cost_area (length ss) costs t.costs_there)) ∙ next.costs;
        choices = area_behind choice_area k o.choices _
            (choices_long s costs choices work (fits_first choice_area (length ss) choices t.choices_there))
            ∙ next.choices;
        results = area_behind result_area k (o.verdict.number ∷ o.verdict.place ∷ o.count ∷ []) _ refl
            ∙ next.results;
      })

-- ## behind the last

behind : (ss : List (List ℕ)) (costs choices results work : List ℕ) → There (length ss) costs choices
    → Beyond (length ss) costs choices results (in_turn ss costs choices results work)
unfolding in_turn
behind [] costs choices results work t = record { costs_kept = refl; choices_kept = refl; results_kept = refl }
behind (s ∷ ss) costs choices results work t =
    let k = length ss in
    let o = solve_outcome s (take cost_area costs) (take choice_area choices) work in
    let next = behind ss (drop cost_area costs) (drop choice_area choices) (drop result_area results) o.work
    (there_next k costs choices t) in
    record {
      costs_kept = beyond_next cost_area k o.costs _
          (costs_long s costs choices work (fits_first cost_area k costs t.costs_there)) costs next.costs_kept;
      choices_kept = beyond_next choice_area k o.choices _
          (choices_long s costs choices work (fits_first choice_area k choices t.choices_there))
          choices next.choices_kept;
      results_kept = beyond_next result_area k (o.verdict.number ∷ o.verdict.place ∷ o.count ∷ []) _ refl
          results next.results_kept;
    }

-- ## of the batch

pub each : (k : ℕ) (s costs choices results work : List ℕ) → Taken s costs choices results work
    → k < length (batch_of s)
    → Stands k
    (solve_outcome (get_or (batch_of s) k []) (area_of cost_area k costs) (area_of choice_area k choices) work)
    (batch_outcome s costs choices results work)
each k s costs choices results work t h =
    rw (in_turn_lem s costs choices results work t)
    (stands work k (batch_of s) costs choices results work refl
    (there (length (batch_of s)) costs choices results t.areas) h)

pub beyond : (s costs choices results work : List ℕ) → Taken s costs choices results work
    → Beyond (length (batch_of s)) costs choices results (batch_outcome s costs choices results work)
beyond s costs choices results work t =
    rw (in_turn_lem s costs choices results work t)
    (behind (batch_of s) costs choices results work
    (there (length (batch_of s)) costs choices results t.areas))
