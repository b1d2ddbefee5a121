-- No hit: what solving with room for 64 points finds, and the three answers.
use mathlib.Core.Path.{◌≡◌, refl, sym, ap, ◌∙◌}
use mathlib.Core.Bool.{Bool, true, false}
use mathlib.Core.List.{List, ◌++◌}
use Prim.Native.Nat.{ℕ, ◌*◌, ◌≤◌, ◌<◌}
use native.Mathlib.Omega.{arith}
use lib.Dec.{ltb, leb}
use lib.ListN.{length, take, drop, replicate, length-append}
use lib.Seq.{take_at, length-take-le}
use borrow.Author.Tests.{ltb-true, ltb-false, lt-ltb, le-ltb, lt-leb, le-leb}
use Rattle.model.specs.Basics.{pick}
use Rattle.model.specs.Limits.{max_points}
use Rattle.model.specs.Refusals.{full, Verdict, verdict, accepted}
use Rattle.model.specs.Problems.{Problem}
use Rattle.model.specs.Reading.{problem_of}
use Rattle.model.specs.Frontiers.{Point, frontier}
use Rattle.model.specs.Calls.{over, room_of, flat_costs, flat_choices, SolveOutcome, work_verdict, work_after}
use Rattle.model.specs.Calls.{solve_verdict}
use Rattle.model.specs.Calls.{solve_outcome}
use Rattle.model.specs.declared.Header as DM
use Rattle.answers.specs.Says.{room_in, SolveSays}
use Rattle.std.specs.Prelude.{Ok, Err}
use Rattle.model.specs.Reasons.{number_of}
use Rattle.model.specs.declared.Reason.TheVariants.{Full}
use Rattle.model.specs.declared.Refusal.{Refusal}
use Rattle.model.proofs.Reasons.{number_positive}
use Rattle.answers.proofs.Early.{room_verdict_lem}
use Rattle.cache_answers.specs.Stores.{slot_size, costs_at, Answer, solved, stored}
use Rattle.cache_answers.specs.Says.{CachedSays}
use Rattle.cache_answers.proofs.FormAnswers.{solved_costs, solved_choices}
use Rattle.cache_call.specs.Steps.{cached, NotHeld, fresh_outcome}
use Rattle.cache_call.proofs.Judged.{judged_full, judged_fits}
use Rattle.cache_call.proofs.Rooms.{no_costs, no_choices, costs_few, choices_few, room_is, array_room}

module _ {s form : List ℕ} {h : DM.Header} {work store : List ℕ} (asked : NotHeld s form h work store) where
  abbrev q : Problem
  q = problem_of s

  abbrev ps : List Point
  ps = frontier q

  -- ## what the solve answers: t where the list has more than 64 points

  abbrev found : Bool → SolveOutcome
  found t =
      record {
        verdict = pick t (verdict full 0) accepted;
        count = pick t 0 (length ps);
        costs = pick t no_costs (over (flat_costs ps) no_costs);
        choices = pick t no_choices (over (flat_choices ps) no_choices);
        work = replicate (length work) 0;
      }

  judgement : (t : Bool) → t ≡ ltb max_points (length ps)
      → solve_verdict s work (room_of q no_costs no_choices) ≡ pick t (verdict full 0) accepted
  unfolding work_verdict
  judgement t e =
      let room = array_room q h asked.objectives asked.variables asked.counted in
      room_verdict_lem s work (room_of q no_costs no_choices) asked.fine t (e ∙ ap (λ k. ltb k (length ps)) (sym room))

  solved_as : (t : Bool) → t ≡ ltb max_points (length ps) → solve_outcome s no_costs no_choices work ≡ found t
  unfolding solve_outcome work_after
  solved_as true e = rw (judgement true e) refl
  solved_as false e = rw (judgement false e) refl

  cleared_by : {w' : List ℕ} → w' ≡ (solve_outcome s no_costs no_choices work).work → w' ≡ replicate (length work) 0
  cleared_by e = e ∙ ap (λ (o : SolveOutcome). o.work) (solved_as (ltb max_points (length ps)) refl)

  -- ## more than 64 points: nothing is stored

  module _ (f : Refusal) {c' x' w' : List ℕ}
      (says : SolveSays (solve_outcome s no_costs no_choices work) c' x' w' (Err f)) where
    many : max_points < length ps
    many = go (ltb max_points (length ps)) refl
      where
        go : (t : Bool) → ltb max_points (length ps) ≡ t → max_points < length ps
        go true e = ltb-true _ _ e
        go false e =
            let passes = ap (λ (o : SolveOutcome). o.verdict.number) (solved_as false (sym e)) in
            absurd (number_positive f.reason (ap (λ (v : Verdict). v.number) says.verdict ∙ passes))

    is_full : verdict (number_of f.reason) f.place ≡ verdict full 0
    is_full =
        let more : ltb max_points (length ps) ≡ true = lt-ltb max_points (length ps) many in
        says.verdict ∙ ap (λ (o : SolveOutcome). o.verdict) (solved_as true (sym more))

    pub anew_many : (costs choices : List ℕ)
        → CachedSays (fresh_outcome s form costs choices work store) costs choices w' store (cached (Err f) false)
    unfolding fresh_outcome solved room_of
    anew_many costs choices =
        judged_full false (solved q) (room_of q costs choices) costs choices work _ (omega (arith, many)) f is_full
        (cleared_by says.work) (rw (lt-leb (length ps) max_points many) refl)

  -- ## an answer that is stored

  module _ {k : ℕ} {c' x' w' : List ℕ}
      (says : SolveSays (solve_outcome s no_costs no_choices work) c' x' w' (Ok k)) where
    few : length ps ≤ max_points
    few = go (ltb max_points (length ps)) refl
      where
        go : (t : Bool) → ltb max_points (length ps) ≡ t → length ps ≤ max_points
        go true e =
            let stops : 0 ≡ full =
            ap (λ (v : Verdict). v.number) says.verdict
            ∙ ap (λ (o : SolveOutcome). o.verdict.number) (solved_as true (sym e)) in
            absurd (omega (arith, stops))
        go false e = ltb-false _ _ e

    is : solve_outcome s no_costs no_choices work ≡ found false
    is = solved_as false (sym (le-ltb max_points (length ps) few))

    points : k ≡ length ps
    points = says.count ∙ ap (λ (o : SolveOutcome). o.count) is

    pub points_few : k ≤ max_points
    points_few = omega (arith, points, few)

    abbrev c : ℕ
    c = k * h.objectives

    abbrev x : ℕ
    x = k * h.variables

    costs_are : c' ≡ over (solved q).costs no_costs
    unfolding solved
    costs_are = says.costs ∙ ap (λ (o : SolveOutcome). o.costs) is

    costs_long : length (solved q).costs ≡ c
    unfolding solved
    costs_long = solved_costs q ∙ rw (points, asked.objectives) refl

    costs_taken : take c c' ≡ (solved q).costs
    unfolding over
    costs_taken = ap (take c) costs_are ∙ take_at (solved q).costs _ c costs_long

    choices_are : x' ≡ over (solved q).choices no_choices
    unfolding solved
    choices_are = says.choices ∙ ap (λ (o : SolveOutcome). o.choices) is

    choices_long : length (solved q).choices ≡ x
    unfolding solved
    choices_long = solved_choices q ∙ rw (points, asked.variables) refl

    choices_taken : take x x' ≡ (solved q).choices
    unfolding over
    choices_taken = ap (take x) choices_are ∙ take_at (solved q).choices _ x choices_long

    -- what is lent of the arrays
    pub costs_inside : c ≤ length c'
    unfolding over
    costs_inside =
        let behind = drop (length (solved q).costs) no_costs in
        omega (arith, ap length costs_are, length-append (solved q).costs behind, costs_long)

    pub choices_inside : x ≤ length x'
    unfolding over
    choices_inside =
        let behind = drop (length (solved q).choices) no_choices in
        omega (arith, ap length choices_are, length-append (solved q).choices behind, choices_long)

    pub costs_lent : c ≡ length (take c c')
    costs_lent = sym (length-take-le c c' costs_inside)

    pub choices_lent : x ≡ length (take x x')
    choices_lent = sym (length-take-le x x' choices_inside)

    pub save_asked : (slot_size ≤ length store) × (length form ≤ costs_at) × (k ≤ max_points)
        × (length (take c c') ≤ 256) × (length (take x x') ≤ 1536)
    save_asked = (
      asked.slot,
      asked.short,
      points_few,
      omega (arith, costs_lent, costs_few h asked.counted k points_few),
      omega (arith, choices_lent, choices_few h asked.counted k points_few),
    )

    abbrev answer : Answer
    answer = record { count = k; costs = take c c'; choices = take x x' }

    answer_is : answer ≡ solved q
    unfolding solved
    answer_is = rw (costs_taken, choices_taken, points) refl

    module _ (costs choices : List ℕ) (room : ℕ) (room_as : room ≡ room_in h (length costs) (length choices))
        {store' : List ℕ} (saved : store' ≡ stored form answer store) where
      room_same : room ≡ room_of q costs choices
      room_same = room_as ∙ room_is q h asked.objectives asked.variables costs choices

      kept : store' ≡ pick (leb (solved q).count max_points) (stored form (solved q) store) store
      unfolding solved
      kept = saved ∙ rw (answer_is, le-leb (length ps) max_points few) refl

      pub anew_full : room < k → (f : Refusal) → f.reason ≡ Full → f.place ≡ 0
          → CachedSays (fresh_outcome s form costs choices work store) costs choices w' store' (cached (Err f) false)
      unfolding fresh_outcome solved
      anew_full more f why here =
          judged_full false (solved q) (room_of q costs choices) costs choices work _
          (omega (arith, more, points, room_same)) f (rw (why, here) refl) (cleared_by says.work) kept

      -- what is lent of a buffer is written over
      pub anew_fits : k ≤ room → {costs' choices' : List ℕ} → costs' ≡ take c c' ++ drop c costs
          → choices' ≡ take x x' ++ drop x choices
          → CachedSays (fresh_outcome s form costs choices work store) costs' choices' w' store' (cached (Ok k) false)
      unfolding fresh_outcome solved over
      anew_fits fits costs-put choices-put =
          rw points
          (judged_fits false (solved q) (room_of q costs choices) costs choices work _
          (omega (arith, fits, points, room_same))
          (costs-put ∙ rw (costs_taken, sym costs_long) refl)
          (choices-put ∙ rw (choices_taken, sym choices_long) refl) (cleared_by says.work) kept)
