-- A hit: the answer that a slot holds, told by the caller's room.
use mathlib.Core.Path.{◌≡◌, refl}
use mathlib.Core.Bool.{true}
use mathlib.Core.List.{List}
use Prim.Native.Nat.{ℕ, ◌*◌, ◌≤◌, ◌<◌, min}
use native.Mathlib.Omega.{arith}
use lib.ListN.{length, take, drop, replicate}
use Rattle.model.specs.Limits.{max_points}
use Rattle.std.specs.Prelude.{Ok, Err}
use Rattle.model.specs.declared.Reason.TheVariants.{Full}
use Rattle.model.specs.declared.Refusal.{Refusal}
use Rattle.model.specs.Reading.{word4, words_in}
use Rattle.model.specs.Calls.{over}
use Rattle.model.specs.declared.Header as DM
use Rattle.answers.specs.Says.{room_in}
use Rattle.cache_answers.specs.Stores.{costs_at, choices_at, count_at, slot_at}
use Rattle.cache_answers.specs.Says.{CachedSays}
use Rattle.cache_call.specs.Steps.{cached, held_in, held_outcome}
use Rattle.cache_call.proofs.Judged.{judged_full, judged_fits}

module _ (h : DM.Header) (costs choices work store : List ℕ) (k : ℕ) where
  abbrev slot : List ℕ
  slot = slot_at store k

  module _ (c room : ℕ) (points : c ≡ min (word4 (drop count_at slot)) max_points)
      (room_as : room ≡ room_in h (length costs) (length choices)) {work' : List ℕ}
      (cleared : work' ≡ replicate (length work) 0) where
    pub held_full : room < c → (f : Refusal) → f.reason ≡ Full → f.place ≡ 0
        → CachedSays (held_outcome h costs choices work store k) costs choices work' store (cached (Err f) true)
    unfolding held_outcome held_in
    held_full more f why here =
        judged_full true (held_in h slot) (room_in h (length costs) (length choices)) costs choices work store
        (omega (arith, more, points, room_as)) f (rw (why, here) refl) cleared refl

    pub held_fits : c ≤ room → {costs' choices' : List ℕ}
        → costs' ≡ over (words_in (c * h.objectives) (drop costs_at slot)) costs
        → choices' ≡ over (take (c * h.variables) (drop choices_at slot)) choices
        → CachedSays (held_outcome h costs choices work store k) costs' choices' work' store (cached (Ok c) true)
    unfolding held_outcome held_in
    held_fits fits ce xe =
        rw points
        (judged_fits true (held_in h slot) (room_in h (length costs) (length choices)) costs choices work store
        (omega (arith, fits, points, room_as)) (rw points at ce) (rw points at xe) cleared refl)
