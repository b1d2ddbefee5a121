-- What the cached call answers and leaves in the lent buffers, for every input and whatever the store holds.
use Rattle.std.specs.Prelude.{Bool, ◌&&◌, not, List, ℕ, ltb, leb, length}
use Rattle.model.specs.Basics.{pick, when}
use Rattle.model.specs.Limits.{max_points}
use Rattle.model.specs.Refusals.{full, Verdict, verdict, accepted, first}
use Rattle.model.specs.Reading.{verdict_of, problem_of}
use Rattle.model.specs.Calls.{over, answers, room_of, work_verdict, work_after}
use Rattle.form_canonical.specs.Canonical.{canonical_bytes}
use Rattle.cache_answers.specs.Stores.{slot_size, slots_in, slot_at, find_form, Answer, solved, loaded, stored}

-- 20: the store has not one slot
abbrev pub store_short : ℕ
store_short = 20

unfoldable pub store_verdict : List ℕ → Verdict
store_verdict store = pick (ltb (length store) slot_size) (verdict store_short 0) accepted

-- The cached call: 1 to 11, 12, 20, 15.
pub record CachedOutcome : Type 0 where
  pub verdict : Verdict
  pub count : ℕ
  pub hit : Bool
  pub costs : List ℕ
  pub choices : List ℕ
  pub work : List ℕ
  pub store : List ℕ

-- what is refused before a look into the store
unfoldable pub early_verdict : List ℕ → List ℕ → List ℕ → Verdict
early_verdict s work store = first (verdict_of s) (first (work_verdict work) (store_verdict store))

-- whether the store holds the problem's form
unfoldable pub is_hit : List ℕ → List ℕ → Bool
is_hit s store = ltb (find_form (slots_in store) 0 (canonical_bytes s) store) (slots_in store)

-- the answer that the store holds, or the problem's own
unfoldable pub cached_answer : List ℕ → List ℕ → Answer
cached_answer s store =
    let q = problem_of s in
    let k = find_form (slots_in store) 0 (canonical_bytes s) store in
    pick (ltb k (slots_in store)) (loaded q (slot_at store k)) (solved q)

-- A problem that was solved anew is stored, if an answer may have as many points, whatever the caller's room.
unfoldable pub cached_outcome : List ℕ → List ℕ → List ℕ → List ℕ → List ℕ → CachedOutcome
cached_outcome s costs choices work store =
    let early = early_verdict s work store in
    let hit = is_hit s store in
    let a = cached_answer s store in
    let room = room_of (problem_of s) costs choices in
    let v = first early (pick (ltb room a.count) (verdict full 0) accepted) in
    let news = answers early && (not hit && leb a.count max_points) in
    record {
      verdict = v;
      count = when (answers v) a.count;
      hit = answers early && hit;
      costs = pick (answers v) (over a.costs costs) costs;
      choices = pick (answers v) (over a.choices choices) choices;
      work = work_after v work;
      store = pick news (stored (canonical_bytes s) a store) store;
    }
