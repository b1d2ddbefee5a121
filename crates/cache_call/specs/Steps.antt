-- The steps of the cached call: an answer told by the caller's room, one that a slot holds, and one found anew.
use Rattle.std.specs.Prelude.{◌≡◌, Bool, true, false, List, ℕ, ◌*◌, ◌≤◌, min, ltb, leb, length, take, drop, replicate}
use Rattle.std.specs.Prelude.{Result}
use Rattle.model.specs.Basics.{pick, when}
use Rattle.model.specs.Limits.{max_objectives, max_variables, max_points}
use Rattle.model.specs.Refusals.{full, verdict, accepted, first}
use Rattle.model.specs.Reading.{word4, words_in, verdict_of, problem_of}
use Rattle.model.specs.Calls.{over, answers, room_of, work_verdict}
use Rattle.model.specs.declared.Header as DM
use Rattle.model.specs.declared.Refusal.{Refusal}
use Rattle.answers.specs.Says.{room_in}
use Rattle.cache_answers.specs.Stores.{slot_size, costs_at, choices_at, count_at, slot_at, Answer, solved, stored}
use Rattle.cache_answers.specs.Outcomes.{CachedOutcome}
use Rattle.cache_answers.specs.declared.Cached as DC

abbrev pub cached : Result ℕ Refusal → Bool → DC.Cached
cached answer hit = record { answer = answer; hit = hit }

-- an answer where nothing is refused before: 15 where it has more points than the room, else the buffers take it
unfoldable pub judged : Bool → Answer → ℕ → (costs choices work store : List ℕ) → CachedOutcome
judged hit a room costs choices work store =
    let v = pick (ltb room a.count) (verdict full 0) accepted in
    record {
      verdict = v;
      count = when (answers v) a.count;
      hit = hit;
      costs = pick (answers v) (over a.costs costs) costs;
      choices = pick (answers v) (over a.choices choices) choices;
      work = replicate (length work) 0;
      store = store;
    }

-- the header of an accepted problem
pub record Counted (h : DM.Header) : Type 0 where
  pub objectives : (1 ≤ h.objectives) × (h.objectives ≤ max_objectives)
  pub variables : (1 ≤ h.variables) × (h.variables ≤ max_variables)

-- what a slot holds as the answer of a problem with this header
unfoldable pub held_in : DM.Header → List ℕ → Answer
held_in h slot =
    let c = min (word4 (drop count_at slot)) max_points in
    record {
      count = c;
      costs = words_in (c * h.objectives) (drop costs_at slot);
      choices = take (c * h.variables) (drop choices_at slot);
    }

-- a hit in slot k
unfoldable pub held_outcome : DM.Header → (costs choices work store : List ℕ) → ℕ → CachedOutcome
held_outcome h costs choices work store k =
    judged true (held_in h (slot_at store k)) (room_in h (length costs) (length choices)) costs choices work store

-- no hit: stored, if an answer may have as many points
unfoldable pub fresh_outcome : (s form costs choices work store : List ℕ) → CachedOutcome
fresh_outcome s form costs choices work store =
    let a = solved (problem_of s) in
    judged false a (room_of (problem_of s) costs choices) costs choices work
    (pick (leb a.count max_points) (stored form a store) store)

-- what solving anew relies on: 1 to 12 and 20 are passed, the header is the problem's, and the form fits a slot
pub record NotHeld (s form : List ℕ) (h : DM.Header) (work store : List ℕ) : Type 0 where
  pub fine : (first (verdict_of s) (work_verdict work)).number ≡ 0
  pub counted : Counted h
  pub objectives : h.objectives ≡ (problem_of s).objectives
  pub variables : h.variables ≡ length (problem_of s).domains
  pub short : length form ≤ costs_at
  pub slot : slot_size ≤ length store
