-- Runs of calls: on a store that keeps the forms stored last each call tells what the plain call tells, with a hit
-- exactly if its form is one of them, and leaves a store that keeps the forms stored last.
use mathlib.Core.Path.{◌≡◌, refl, sym, ap, ap₂, ◌∙◌, subst}
use mathlib.Core.Bool.{Bool, true, false, ◌&&◌, not}
use mathlib.Core.List.{List, [], ◌∷◌}
use Prim.Native.Nat.{ℕ, ◌*◌, ◌≤◌, ◌<◌}
use native.Mathlib.Omega.{arith}
use lib.Dec.{ltb, leb}
use lib.ListN.{length}
use borrow.Author.Tests.{eqb-true, le-ltb}
use Rattle.model.specs.Basics.{pick, when, All}
use Rattle.model.specs.Limits.{max_points, work_need}
use Rattle.model.specs.Refusals.{work_short, full, Verdict, verdict, accepted, first}
use Rattle.model.specs.Problems.{Problem}
use Rattle.model.specs.Encoding.{Byte}
use Rattle.model.specs.Reading.{verdict_of, problem_of}
use Rattle.model.specs.Frontiers.{frontier}
use Rattle.model.specs.Calls.{over, answers, room_of, work_verdict, work_after, room_verdict}
use Rattle.model.specs.Calls.{solve_verdict, solve_outcome}
use Rattle.model.proofs.Verdicts.{first_accepts, first_assoc}
use Rattle.form_canonical.specs.Canonical.{canonical_bytes}
use Rattle.cache_answers.specs.Stores.{slot_size, slots_in, slot_at, find_form, Answer, solved, loaded, stored}
use Rattle.cache_answers.specs.Outcomes.{store_verdict, CachedOutcome, cached_outcome, early_verdict, is_hit}
use Rattle.cache_answers.specs.Outcomes.{cached_answer}
use Rattle.cache_answers.specs.Runs.{Call, Told, told, cached_run, is_among, is_asked, fresh_told, forms_after}
use Rattle.cache_answers.specs.Runs.{fresh_run}
use Rattle.cache_answers.proofs.Ring.{ring_length}
use Rattle.cache_answers.proofs.Slots.{Fits, Holds}
use Rattle.cache_answers.proofs.Reading.{holds_answer}
use Rattle.cache_answers.proofs.FormAnswers.{solved_costs, solved_choices, form_some, form_answer}
use Rattle.cache_answers.proofs.Storing.{slots_room}
use Rattle.cache_answers.proofs.Keeping.{Keeps, found_held, found_among, keeps_stored}
use Rattle.cache_answers.proofs.Outcomes.{news, news_fine, news_own, news_fits}

-- ## a call on a store

module _ (c : Call) where
  abbrev q : Problem
  q = problem_of c.problem

  abbrev form : List ℕ
  form = canonical_bytes c.problem

  -- 1 to 12
  abbrev asking : Verdict
  asking = first (verdict_of c.problem) (work_verdict c.work)

  asking_fine : asking.number ≡ 0 → (verdict_of c.problem).number ≡ 0
  asking_fine h = (first_accepts (verdict_of c.problem) (work_verdict c.work) h).0

  -- what is told with a verdict and an answer
  unfoldable ends : Verdict → Bool → Answer → Told
  ends v hit a =
      record {
        verdict = v;
        count = when (answers v) a.count;
        hit = hit;
        costs = pick (answers v) (over a.costs c.costs) c.costs;
        choices = pick (answers v) (over a.choices c.choices) c.choices;
        work = work_after v c.work;
      }

  abbrev room_for : Answer → Verdict
  room_for a = pick (ltb (room_of q c.costs c.choices) a.count) (verdict full 0) accepted

  -- the same after the verdicts that come before a look into the store
  abbrev tells : Verdict → Bool → Answer → Told
  tells early hit a = ends (first early (room_for a)) (answers early && hit) a

  refused_ends : (v : Verdict) (hit : Bool) (a a' : Answer) → answers v ≡ false → ends v hit a ≡ ends v hit a'
  unfolding ends
  refused_ends v hit a a' e = rw e refl

  -- a refusal tells nothing of the answer
  tells_same : (v : Verdict) (hit hit' : Bool) (a a' : Answer) → (v.number ≡ 0 → (hit ≡ hit') × (a ≡ a'))
      → tells v hit a ≡ tells v hit' a'
  tells_same v hit hit' a a' h = go (answers v) refl
    where
      go : (b : Bool) → answers v ≡ b → ends (pick b (room_for a) v) (b && hit) a
          ≡ ends (pick b (room_for a') v) (b && hit') a'
      go true e =
          let both = h (eqb-true _ _ e) in
          ap₂ (λ (t : Bool) (x : Answer). ends (room_for x) t x) both.0 both.1
      go false e = refused_ends v false a a' e

  fresh_tells : (m : ℕ) (forms : List (List ℕ))
      → tells asking (is_among form m forms) (solved q) ≡ fresh_told m forms c
  unfolding ends fresh_told is_asked solve_outcome solve_verdict room_verdict solved
  fresh_tells m forms =
      ap (λ (v : Verdict). ends v (answers asking && is_among form m forms) (solved q))
      (first_assoc (verdict_of c.problem) (work_verdict c.work) (room_for (solved q)))

  -- ## on a store that keeps the forms stored last

  module _ (bytes : All Byte c.problem) (m : ℕ) (forms : List (List ℕ)) (store : List ℕ)
      (keeps : Keeps m forms store) where
    abbrev outcome : CachedOutcome
    outcome = cached_outcome c.problem c.costs c.choices c.work store

    abbrev early : Verdict
    early = early_verdict c.problem c.work store

    abbrev answer : Answer
    answer = cached_answer c.problem store

    long : slot_size ≤ length store
    long =
        let some : 0 < slots_in store = omega (
          arith,
          keeps.some,
          keeps.slots,
          ring_length m forms keeps.before keeps.after keeps.ring,
        ) in
        omega (arith, slots_room store 0 some)

    early_is : early ≡ asking
    unfolding early_verdict store_verdict work_verdict
    early_is =
        rw (le-ltb (length store) slot_size long)
        (ap (first (verdict_of c.problem)) (go (ltb (length c.work) work_need)))
      where
        go : (b : Bool)
            → first (pick b (verdict work_short 0) accepted) accepted ≡ pick b (verdict work_short 0) accepted
        go true = refl
        go false = refl

    hit_is : is_hit c.problem store ≡ is_among form m forms
    unfolding is_hit
    hit_is = found_among m forms store keeps form (form_some c.problem)

    answer_is : (verdict_of c.problem).number ≡ 0 → answer ≡ solved q
    unfolding cached_answer is_hit
    answer_is fine = rw hit_is (go (is_among form m forms) refl)
      where
        k : ℕ
        k = find_form (slots_in store) 0 form store

        go : (b : Bool) → is_among form m forms ≡ b → pick b (loaded q (slot_at store k)) (solved q) ≡ solved q
        go true e =
            let found = found_held m forms store keeps form (form_some c.problem) e in
            let own = form_answer c.problem bytes fine in
            holds_answer store (slot_size * k) form (solved q)
            (subst (λ (a : Answer). Holds store (slot_size * k) form a) own found.held)
            q (solved_costs q) (solved_choices q)
        go false e = refl

    pub told_fresh : told outcome ≡ fresh_told m forms c
    unfolding cached_outcome ends
    told_fresh =
        ap (λ (v : Verdict). tells v (is_hit c.problem store) answer) early_is
        ∙ tells_same asking (is_hit c.problem store) (is_among form m forms) answer (solved q)
        (λ h. (hit_is, answer_is (asking_fine h)))
        ∙ fresh_tells m forms

    -- the call stores its form
    abbrev new : Bool
    new = news c.problem c.costs c.choices c.work store

    abbrev fresh : Bool
    fresh = is_asked c && (not (is_among form m forms) && leb (length (frontier q)) max_points)

    new_is : new ≡ fresh
    unfolding is_asked solved
    new_is = rw early_is (go (answers asking) refl)
      where
        go : (b : Bool) → answers asking ≡ b
            → (b && (not (is_hit c.problem store) && leb answer.count max_points))
            ≡ (b && (not (is_among form m forms) && leb (length (frontier q)) max_points))
        go true e =
            ap₂ (λ (t : Bool) (a : Answer). not t && leb a.count max_points) hit_is
            (answer_is (asking_fine (eqb-true _ _ e)))
        go false e = refl

    kept_by : (b : Bool) → new ≡ b → Keeps m (pick b (form ∷ forms) forms) (pick b (stored form answer store) store)
    kept_by true e =
        let own = news_own c.problem c.costs c.choices c.work store e in
        let fine = news_fine c.problem c.costs c.choices c.work store e in
        let fits = news_fits c.problem c.costs c.choices c.work store e bytes in
        let its = form_answer c.problem bytes fine in
        subst (λ (a : Answer). Keeps m (form ∷ forms) (stored form a store)) (its ∙ sym own)
        (keeps_stored m forms store form keeps (subst (λ (a : Answer). Fits form a) (sym its) fits))
    kept_by false e = keeps

    pub kept_fresh : Keeps m (forms_after m forms c) outcome.store
    unfolding cached_outcome forms_after
    kept_fresh = subst (λ (b : Bool). Keeps m (pick b (form ∷ forms) forms) outcome.store) new_is (kept_by new refl)

-- ## the calls one after the other

pub run_from : (m : ℕ) (forms : List (List ℕ)) (store : List ℕ) (calls : List Call) → Keeps m forms store
    → All (λ c. All Byte c.problem) calls → cached_run store calls ≡ fresh_run m forms calls
unfolding cached_run fresh_run
run_from m forms store [] keeps bytes = refl
run_from m forms store (c ∷ cs) keeps bytes =
    ap₂ ◌∷◌ (told_fresh c bytes.0 m forms store keeps)
    (run_from m (forms_after m forms c) (cached_outcome c.problem c.costs c.choices c.work store).store cs
    (kept_fresh c bytes.0 m forms store keeps) bytes.1)
