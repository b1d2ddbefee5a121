-- A store of solved problems in lent memory: where a slot has its parts, which slot holds a form, and storing.
use Rattle.std.specs.Prelude.{Bool, ◌&&◌, List, ℕ, zero, suc, ◌+◌, ◌*◌, ◌/◌, min, eqb, ltb, length, take, drop}
use Rattle.model.specs.Basics.{pick}
use Rattle.model.specs.Limits.{max_points}
use Rattle.model.specs.Problems.{Problem}
use Rattle.model.specs.Encoding.{four_bytes, word_bytes}
use Rattle.model.specs.Reading.{word4, words_in}
use Rattle.model.specs.Vectors.{same}
use Rattle.model.specs.Frontiers.{frontier}
use Rattle.model.specs.Calls.{flat_costs, flat_choices}
use Rattle.form_canonical.specs.Places.{over_at}

-- a slot's bytes, and how many slots count
abbrev pub slot_size : ℕ
slot_size = 63000

abbrev pub max_slots : ℕ
max_slots = 32

-- Where a slot has its parts: the canonical form at its start; the costs; the choices; how long the form is (0: the
-- slot is empty); how many points there are; in slot 0 also the number of the slot that is written next.
abbrev pub costs_at : ℕ
costs_at = 60000

abbrev pub choices_at : ℕ
choices_at = 61024

abbrev pub length_at : ℕ
length_at = 62560

abbrev pub count_at : ℕ
count_at = 62564

abbrev pub next_at : ℕ
next_at = 62568

unfoldable pub slots_in : List ℕ → ℕ
slots_in store = min (length store / slot_size) max_slots

-- slot k, with what stands behind it
abbrev pub slot_at : List ℕ → ℕ → List ℕ
slot_at store k = drop (slot_size * k) store

-- whether a slot holds a form
unfoldable pub holds_form : List ℕ → List ℕ → Bool
holds_form form slot = eqb (word4 (drop length_at slot)) (length form) && same (take (length form) slot) form

-- of n slots from number k on the first that holds the form, or the number behind them
unfoldable pub find_form : ℕ → ℕ → List ℕ → List ℕ → ℕ
find_form zero k form store = k
find_form (suc n) k form store = pick (holds_form form (slot_at store k)) k (find_form n (suc k) form store)

-- an answer: how many points, and their costs and choices, one point after the other
pub record Answer : Type 0 where
  pub count : ℕ
  pub costs : List ℕ
  pub choices : List ℕ

-- a problem's own answer, and what a slot holds as one; other memory may hold any count there
unfoldable pub solved : Problem → Answer
solved q =
    let ps = frontier q in
    record { count = length ps; costs = flat_costs ps; choices = flat_choices ps }

unfoldable pub loaded : Problem → List ℕ → Answer
loaded q slot =
    let c = min (word4 (drop count_at slot)) max_points in
    record {
      count = c;
      costs = words_in (c * q.objectives) (drop costs_at slot);
      choices = take (c * length q.domains) (drop choices_at slot);
    }

-- the slot that is written next; a number that other memory may hold there counts as 0 where there is no such slot
unfoldable pub next_slot : List ℕ → ℕ
next_slot store = let k = word4 (drop next_at store) in pick (ltb k (slots_in store)) k 0

-- the slot behind slot k, round the m slots
unfoldable pub slot_after : ℕ → ℕ → ℕ
slot_after m k = pick (ltb (suc k) m) (suc k) 0

-- a form and its answer written over the slot at a place of the store
unfoldable pub filled : ℕ → List ℕ → Answer → List ℕ → List ℕ
filled at form a store =
    over_at (at + count_at) (four_bytes a.count) (
    over_at (at + length_at) (four_bytes (length form)) (
    over_at (at + choices_at) a.choices (
    over_at (at + costs_at) (word_bytes a.costs) (
    over_at at form store))))

-- the oldest slot gives way
unfoldable pub stored : List ℕ → Answer → List ℕ → List ℕ
stored form a store =
    let k = next_slot store in
    over_at next_at (four_bytes (slot_after (slots_in store) k)) (filled (slot_size * k) form a store)
