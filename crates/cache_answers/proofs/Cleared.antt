-- A cleared store: no slot holds a form, and slot 0 is written next.
use mathlib.Core.Path.{◌≡◌, refl, sym, ap, ◌∙◌}
use mathlib.Core.List.{List, [], ◌++◌}
use Prim.Native.Nat.{ℕ, zero, suc, ◌+◌, ◌-◌, ◌*◌, ◌/◌, ◌≤◌, min}
use native.Mathlib.Omega.{arith}
use lib.ListN.{length, take, drop, replicate, length-replicate, replicate-append-replicate}
use lib.Seq.{take_at, drop_at}
use Rattle.model.specs.Encoding.{two_bytes, four_bytes, word_bytes}
use Rattle.cache_answers.specs.Stores.{slot_size, max_slots, length_at, count_at, next_at, slots_in}
use Rattle.cache_answers.proofs.Ring.{ring_empty}
use Rattle.cache_answers.proofs.Slots.{Stands, Holds}
use Rattle.cache_answers.proofs.Finding.{answer_of, SlotsHold}
use Rattle.cache_answers.proofs.Keeping.{Keeps}

part_alike : {A : Type 0} (x : A) (n k from : ℕ) → from + k ≤ n → take k (drop from (replicate n x)) ≡ replicate k x
part_alike {A} x n k from h =
    let rest : ℕ = n - (from + k) in
    let all : from + (k + rest) ≡ n = omega (arith, h) in
    let behind : List A = replicate k x ++ replicate rest x in
    let cut : replicate n x ≡ replicate from x ++ behind = ap (λ (i : ℕ). replicate i x) (sym all)
    ∙ sym (replicate-append-replicate from (k + rest) x)
    ∙ ap (λ (l : List A). replicate from x ++ l) (sym (replicate-append-replicate k rest x)) in
    ap (λ (l : List A). take k (drop from l)) cut
    ∙ ap (take k) (drop_at (replicate from x) behind from (length-replicate from x))
    ∙ take_at (replicate k x) (replicate rest x) k (length-replicate k x)

zero_word : (n from : ℕ) → from + 4 ≤ n → Stands (four_bytes 0) from (replicate n 0)
unfolding four_bytes two_bytes
zero_word n from h = part_alike 0 n 4 from h

empty_slot : (n at : ℕ) → at + slot_size ≤ n → Holds (replicate n 0) at [] (answer_of [])
unfolding answer_of word_bytes
empty_slot n at h = record {
  fits = record {
    short_form = omega arith;
    few_costs = omega arith;
    few_choices = omega arith;
    few_points = omega arith;
  };
  bytes = refl;
  costs = refl;
  choices = refl;
  long = zero_word n (at + length_at) (omega arith);
  count = zero_word n (at + count_at) (omega arith);
}

empty_slots : (n j k : ℕ) → slot_size * (k + j) ≤ n → SlotsHold (replicate n 0) k (replicate j [])
empty_slots n zero k h = tt
empty_slots n (suc j) k h = (
  empty_slot n (slot_size * k) (omega (arith, h)),
  empty_slots n j (suc k) (omega (arith, h)),
)

pub keeps_cleared : (n : ℕ) → slot_size ≤ n → Keeps (min (n / slot_size) max_slots) [] (replicate n 0)
unfolding slots_in
keeps_cleared n h =
    let m = min (n / slot_size) max_slots in
    let none : List (List ℕ) = replicate m [] in
    let many : length none ≡ m = length-replicate m [] in
    record {
      slots = count;
      before = [];
      after = none;
      some = omega (arith, h, many);
      ring = ring_empty m;
      next = zero_word n next_at (omega (arith, h));
      held = empty_slots n m 0 (omega arith);
    }
  where
    count : slots_in (replicate n 0) ≡ min (n / slot_size) max_slots
    count = ap (λ (l : ℕ). min (l / slot_size) max_slots) (length-replicate {A = ℕ} n 0)
