-- The cached call's outcome in its cases: a refusal before a look into the store, a hit, and none.
use mathlib.Core.Path.{◌≡◌, refl, sym, ap, ◌∙◌}
use mathlib.Core.Bool.{Bool, true, false, ◌&&◌, not}
use mathlib.Core.List.{List}
use Prim.Native.Nat.{ℕ, ◌≤◌, ◌<◌}
use native.Mathlib.Omega.{arith}
use lib.Dec.{eqb, ltb, leb}
use lib.ListN.{length}
use borrow.Author.Tests.{ne_eqb, lt-ltb, le-ltb}
use Rattle.model.specs.Basics.{pick}
use Rattle.model.specs.Limits.{max_points}
use Rattle.model.specs.Refusals.{full, Verdict, verdict, accepted, first}
use Rattle.model.specs.Reading.{verdict_of, problem_of}
use Rattle.model.specs.Calls.{room_of, work_verdict, work_after}
use Rattle.model.specs.declared.Header as DM
use Rattle.model.proofs.Verdicts.{first_assoc}
use Rattle.std.specs.Prelude.{Err}
use Rattle.model.specs.Reasons.{number_of}
use Rattle.model.specs.declared.Reason.TheVariants.{Store}
use Rattle.model.specs.declared.Refusal.{Refusal}
use Rattle.model.proofs.Reasons.{number_positive, number_refuses}
use Rattle.problem.proofs.Chains.{pass_verdict, stop_verdict}
use Rattle.answers.proofs.Early.{early_limits}
use Rattle.answers.specs.Early.{early_of}
use Rattle.form_canonical.specs.Canonical.{canonical_bytes}
use Rattle.cache_answers.specs.Stores.{slot_size, slots_in, find_form, Answer, loaded, stored}
use Rattle.cache_answers.specs.Outcomes.{store_short, store_verdict, CachedOutcome, early_verdict, is_hit}
use Rattle.cache_answers.specs.Outcomes.{cached_answer}
use Rattle.cache_answers.specs.Outcomes.{cached_outcome}
use Rattle.cache_answers.specs.Says.{CachedSays}
use Rattle.cache_call.specs.Steps.{cached, judged, held_in, held_outcome, fresh_outcome}
use Rattle.cache_call.proofs.Rooms.{room_is}

module _ (s costs choices work store : List ℕ) where
  abbrev outcome : CachedOutcome
  outcome = cached_outcome s costs choices work store

  -- ## refused before a look into the store

  -- 1 to 12, and then 20
  parted : early_verdict s work store ≡ first (early_of s (length work)) (store_verdict store)
  unfolding early_verdict work_verdict
  parted = sym (first_assoc (verdict_of s) (work_verdict work) (store_verdict store))

  stopped : (f : Refusal) → early_verdict s work store ≡ verdict (number_of f.reason) f.place
      → (number_of f.reason ≡ full → ⊥) → CachedSays outcome costs choices work store (cached (Err f) false)
  unfolding cached_outcome work_after
  stopped f is other =
      let refuses : eqb (number_of f.reason) 0 ≡ false = number_refuses f.reason in
      let kept : eqb (number_of f.reason) full ≡ false = ne_eqb (number_of f.reason) full other in
      record {
        verdict = rw (is, refuses) refl;
        count = rw (is, refuses, refuses) refl;
        hit = rw (is, refuses) refl;
        costs = rw (is, refuses, refuses) refl;
        choices = rw (is, refuses, refuses) refl;
        work = rw (is, refuses, refuses, kept) refl;
        store = rw (is, refuses) refl;
      }

  pub refused_cached : (f : Refusal) → verdict (number_of f.reason) f.place ≡ early_of s (length work)
      → CachedSays outcome costs choices work store (cached (Err f) false)
  refused_cached f says =
      let v = early_of s (length work) in
      let number : number_of f.reason ≡ v.number = ap (λ (u : Verdict). u.number) says in
      let low = (early_limits s (length work)).0 in
      stopped f
      (parted ∙ stop_verdict v (store_verdict store) (λ z. number_positive f.reason (number ∙ z)) ∙ sym says)
      (λ z. omega (arith, z, number, low))

  module _ (none : (early_of s (length work)).number ≡ 0) where
    pub short_cached : length store < slot_size → (f : Refusal) → f.reason ≡ Store → f.place ≡ 0
        → CachedSays outcome costs choices work store (cached (Err f) false)
    unfolding store_verdict
    short_cached h f why here =
        let short : store_verdict store ≡ verdict store_short 0 = rw (lt-ltb (length store) slot_size h) refl in
        stopped f
        (parted ∙ pass_verdict (early_of s (length work)) (store_verdict store) none ∙ short ∙ rw (why, here) refl)
        (λ z. omega (arith, rw why at z))

    -- ## past that

    module _ (long : slot_size ≤ length store) where
      passed : early_verdict s work store ≡ accepted
      unfolding store_verdict
      passed =
          parted ∙ pass_verdict (early_of s (length work)) (store_verdict store) none
          ∙ rw (le-ltb (length store) slot_size long) refl

      abbrev room : ℕ
      room = room_of (problem_of s) costs choices

      -- the store after a call
      abbrev after : Bool → Answer → List ℕ
      after hit a = pick (not hit && leb a.count max_points) (stored (canonical_bytes s) a store) store

      cleared : (t : Bool) → work_after (pick t (verdict full 0) accepted) work ≡ work_after accepted work
      unfolding work_after
      cleared true = refl
      cleared false = refl

      by_answer : outcome
          ≡ judged (is_hit s store) (cached_answer s store) room costs choices work
          (after (is_hit s store) (cached_answer s store))
      unfolding cached_outcome judged work_after
      by_answer = rw (passed, cleared (ltb room (cached_answer s store).count)) refl

      -- what the look into the store finds
      module _ (k : ℕ) (sought : k ≡ find_form (slots_in store) 0 (canonical_bytes s) store) where
        pub held_cached : (h : DM.Header) → h.objectives ≡ (problem_of s).objectives
            → h.variables ≡ length (problem_of s).domains → k < slots_in store
            → outcome ≡ held_outcome h costs choices work store k
        unfolding is_hit cached_answer held_outcome held_in loaded
        held_cached h p n inside =
            let hit : ltb k (slots_in store) ≡ true = lt-ltb k (slots_in store) inside in
            by_answer ∙ rw (sym sought, hit, room_is (problem_of s) h p n costs choices, p, n) refl

        pub fresh_cached : {form : List ℕ} → form ≡ canonical_bytes s → slots_in store ≤ k
            → outcome ≡ fresh_outcome s form costs choices work store
        unfolding is_hit cached_answer fresh_outcome
        fresh_cached is beyond =
            let miss : ltb k (slots_in store) ≡ false = le-ltb k (slots_in store) beyond in
            by_answer ∙ rw (sym sought, miss, is) refl
