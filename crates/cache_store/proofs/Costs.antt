-- Costs read from a store one by one, and written to it.
use mathlib.Core.Path.{◌≡◌, refl, ◌∙◌, ap}
use mathlib.Core.List.{List, [], ◌∷◌, ◌++◌}
use Prim.Native.Nat.{ℕ, suc, ◌+◌, ◌*◌, ◌/◌, ◌%◌, ◌^◌, ◌≤◌, ◌<◌}
use native.Mathlib.Numerals.{add-one}
use native.Mathlib.Omega.{arith}
use lib.ListN.{length, get_or, take, drop, set, drop_of_length-le}
use lib.Seq.{drop-cons, drop-drop}
use Rattle.model.specs.Encoding.{four_bytes, two_bytes, word_bytes}
use Rattle.model.specs.Reading.{word4, words_in}
use Rattle.std.specs.Int.{to_le_bytes}
use Rattle.std.proofs.Common.{w32}
use Rattle.model.specs.Calls.{over}
use Rattle.problem.proofs.Filled.{over_step, over_end}
use Rattle.form_canonical.specs.Places.{over_at}
use Rattle.form_order.proofs.Copying.{Unfinished, unfinished_next, unfinished_none}

-- the costs that are left, from number i on, over the buffer
abbrev pub rest : List ℕ → ℕ → ℕ → ℕ → List ℕ → List ℕ
rest s at n i costs = take i costs ++ over (words_in n (drop (at + 4 * i) s)) (drop i costs)

pub rest_next : (s : List ℕ) (at n m i : ℕ) (costs : List ℕ) → n ≡ suc m → i < length costs
    → rest s at m (i + 1) (set costs i (word4 (drop (at + 4 * i) s))) ≡ rest s at n i costs
unfolding words_in
rest_next s at n m i costs e h =
    let place : at + 4 * i + 4 ≡ at + 4 * (i + 1) = omega arith in
    let behind : drop 4 (drop (at + 4 * i) s) ≡ drop (at + 4 * (i + 1)) s =
    drop-drop 4 (at + 4 * i) s ∙ ap (λ (k : ℕ). drop k s) place in
    over_step i (word4 (drop (at + 4 * i) s)) (words_in m (drop (at + 4 * (i + 1)) s)) costs h
    ∙ rw (e, behind) refl

pub rest_none : (s : List ℕ) (at i : ℕ) (costs : List ℕ) → rest s at 0 i costs ≡ costs
unfolding words_in
rest_none s at i costs = over_end i costs

-- std's bytes of a number, the low one first, are its four bytes
pub four_low_first : (x : ℕ) → x < 2 ^ 32 → to_le_bytes w32 x ≡ four_bytes x
unfolding four_bytes two_bytes
four_low_first x h =
    let first : x % 256 ≡ x % 65536 % 256 = omega arith in
    let second : x / 256 % 256 ≡ x % 65536 / 256 = omega arith in
    let third : x / 65536 % 256 ≡ x / 65536 % 256 = refl in
    let last : x / 16777216 % 256 ≡ x / 65536 / 256 = omega arith in
    λ i. first i ∷ second i ∷ third i ∷ last i ∷ []

-- one more cost written behind those before it
pub cost_written : (costs : List ℕ) (at i : ℕ) (out whole : List ℕ) → i < length costs
    → Unfinished (word_bytes (drop i costs)) (at + 4 * i) out whole
    → Unfinished (word_bytes (drop (i + 1) costs)) (at + 4 * (i + 1))
    (over_at (at + 4 * i) (four_bytes (get_or costs i 0)) out) whole
unfolding word_bytes four_bytes two_bytes
cost_written costs at i out whole h u =
    let place : at + 4 * i + 4 ≡ at + 4 * (i + 1) = omega arith in
    rw (← place, add-one)
    (unfinished_next (four_bytes (get_or costs i 0)) (word_bytes (drop (suc i) costs)) (at + 4 * i) out whole
    (rw (drop-cons costs i 0 h) at u))

pub costs_written : (costs : List ℕ) (next i : ℕ) (out whole : List ℕ) → length costs ≤ i
    → Unfinished (word_bytes (drop i costs)) next out whole → out ≡ whole
unfolding word_bytes
costs_written costs next i out whole h u = unfinished_none next out whole (rw (drop_of_length-le costs {i = i} h) at u)
