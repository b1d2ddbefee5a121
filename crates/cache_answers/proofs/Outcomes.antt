-- One cached call, whatever the store holds: what a refusal leaves, the store's length, the numbers.
use mathlib.Core.Path.{◌≡◌, refl, subst}
use mathlib.Core.Logic.{◌⊎◌, inl, inr}
use mathlib.Core.Bool.{Bool, true, false, ◌&&◌, not}
use mathlib.Core.List.{List}
use Prim.Native.Nat.{ℕ, ◌≤◌}
use native.Mathlib.Omega.{arith}
use lib.Dec.{ltb, leb}
use lib.ListN.{length}
use borrow.Author.Tests.{eqb-true, ltb-false, leb-true, ne_eqb, not-true}
use Rattle.model.specs.Basics.{pick, All}
use Rattle.model.specs.Limits.{max_points, work_need}
use Rattle.model.specs.Refusals.{work_short, full, Verdict, verdict, accepted, first}
use Rattle.model.specs.Encoding.{Byte}
use Rattle.model.specs.Reading.{verdict_of, problem_of}
use Rattle.model.specs.Calls.{room_of, work_verdict, answers}
use Rattle.model.proofs.Bits.{and_left, and_right, pick_both}
use Rattle.model.proofs.Verdicts.{first_accepts, first_has, test_accepts}
use Rattle.model.proofs.Places.{refused_number}
use Rattle.form_canonical.specs.Canonical.{canonical_bytes}
use Rattle.cache_answers.specs.Stores.{slot_size, Answer, solved, stored}
use Rattle.cache_answers.specs.Outcomes.{store_short, store_verdict, CachedOutcome, cached_outcome, early_verdict}
use Rattle.cache_answers.specs.Outcomes.{is_hit, cached_answer}
use Rattle.cache_answers.proofs.Slots.{Fits}
use Rattle.cache_answers.proofs.FormAnswers.{form_fits}
use Rattle.cache_answers.proofs.Storing.{slots_some, stored_length}

-- 0, 1 to 12, 15 and 20
abbrev pub Numbered : Verdict → Type 0
Numbered v = (v.number ≤ work_short) ⊎ ((v.number ≡ full) ⊎ (v.number ≡ store_short))

module _ (s costs choices work store : List ℕ) where
  abbrev outcome : CachedOutcome
  outcome = cached_outcome s costs choices work store

  abbrev early : Verdict
  early = early_verdict s work store

  -- ## a refusal before a look into the store

  pub unasked : (early.number ≡ 0 → ⊥) → (outcome.store ≡ store) × (outcome.hit ≡ false)
  unfolding cached_outcome
  unasked refused = rw (ne_eqb early.number 0 refused) (refl, refl)

  -- ## what storing asks for

  abbrev answer : Answer
  answer = cached_answer s store

  -- the call stores its form
  abbrev pub news : Bool
  news = answers early && (not (is_hit s store) && leb answer.count max_points)

  missed : is_hit s store ≡ false → answer ≡ solved (problem_of s)
  unfolding cached_answer is_hit
  missed e = rw e refl

  early_fine : early.number ≡ 0 → (verdict_of s).number ≡ 0
  unfolding early_verdict
  early_fine h = (first_accepts (verdict_of s) (first (work_verdict work) (store_verdict store)) h).0

  early_long : early.number ≡ 0 → slot_size ≤ length store
  unfolding early_verdict store_verdict
  early_long h =
      let rest = (first_accepts (verdict_of s) (first (work_verdict work) (store_verdict store)) h).1 in
      let last = (first_accepts (work_verdict work) (store_verdict store) rest).1 in
      ltb-false _ _ (test_accepts (ltb (length store) slot_size) store_short 0 accepted refl last).0

  module _ (new : news ≡ true) where
    asked : early.number ≡ 0
    asked = eqb-true _ _ (and_left (answers early) (not (is_hit s store) && leb answer.count max_points) new)

    rest : (not (is_hit s store) && leb answer.count max_points) ≡ true
    rest = and_right (answers early) (not (is_hit s store) && leb answer.count max_points) new

    pub news_fine : (verdict_of s).number ≡ 0
    news_fine = early_fine asked

    pub news_own : answer ≡ solved (problem_of s)
    news_own = missed (not-true _ (and_left (not (is_hit s store)) (leb answer.count max_points) rest))

    pub news_fits : All Byte s → Fits (canonical_bytes s) (solved (problem_of s))
    news_fits bytes =
        let few = leb-true _ _ (and_right (not (is_hit s store)) (leb answer.count max_points) rest) in
        form_fits s bytes news_fine (subst (λ (a : Answer). a.count ≤ max_points) news_own few)

    news_length : All Byte s → length (stored (canonical_bytes s) answer store) ≡ length store
    news_length bytes =
        rw news_own
        (stored_length (canonical_bytes s) (solved (problem_of s)) store (news_fits bytes)
        (slots_some store (early_long asked)))

  -- ## the store's length

  pub kept : All Byte s → length outcome.store ≡ length store
  unfolding cached_outcome
  kept bytes = go news refl
    where
      go : (b : Bool) → news ≡ b → length (pick b (stored (canonical_bytes s) answer store) store) ≡ length store
      go true e = news_length e bytes
      go false e = refl

  -- ## the numbers

  pub numbers : Numbered outcome.verdict
  unfolding cached_outcome early_verdict work_verdict store_verdict
  numbers =
      let short = ltb (length work) work_need in
      let room = ltb (room_of (problem_of s) costs choices) answer.count in
      first_has Numbered early (pick room (verdict full 0) accepted)
      (first_has Numbered (verdict_of s) (first (work_verdict work) (store_verdict store))
      (inl (omega (arith, refused_number s)))
      (λ _. first_has Numbered (work_verdict work) (store_verdict store)
      (pick_both Numbered short (inl (omega arith)) (inl (omega arith)))
      (λ _. pick_both Numbered (ltb (length store) slot_size) (inr (inr refl)) (inl (omega arith)))))
      (λ _. pick_both Numbered room (inr (inl refl)) (inl (omega arith)))
