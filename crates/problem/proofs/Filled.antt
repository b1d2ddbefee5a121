-- Memory that is filled from the front: an array, what is written so far and then zeros, and a lent buffer.
use mathlib.Core.Path.{◌≡◌}
use mathlib.Core.List.{List, [], ◌∷◌, ◌++◌, append_assoc}
use Prim.Native.Nat.{ℕ, suc, ◌+◌, ◌-◌, ◌≤◌, ◌<◌}
use native.Mathlib.Omega.{arith}
use native.Mathlib.Numerals.{add-one}
use lib.ListN.{length, take, drop, set, replicate, length-append, length-replicate, take-append-drop}
use lib.Seq.{set_at, take_at, take-suc-set, drop-set-lt, drop-drop}
use Rattle.model.specs.Calls.{padded, over}

padded_set : (n i : ℕ) (xs : List ℕ) (v : ℕ) → length xs ≡ i → i < n → set (padded n xs) i v ≡ padded n (xs ++ (v ∷ []))
unfolding padded
padded_set n i xs v e h =
    let before : n - length xs ≡ suc (n - suc i) = omega arith in
    let after : n - length (xs ++ (v ∷ [])) ≡ n - suc i = simp length-append (omega arith) in
    rw (before, after, append_assoc) (set_at xs 0 (replicate (n - suc i) 0) v i e)

-- the array holds the first i numbers of a list that grows by v
pub padded_step : (n i : ℕ) (f : ℕ → List ℕ) (xs : List ℕ) (v : ℕ) → length (f i) ≡ i → i < n
    → f (suc i) ≡ f i ++ (v ∷ []) → xs ≡ padded n (f i) → set xs i v ≡ padded n (f (i + 1))
padded_step n i f xs v l h m e = rw (e, add-one, m) (padded_set n i (f i) v l h)

pub length_padded : (n : ℕ) (xs : List ℕ) → length xs ≤ n → length (padded n xs) ≡ n
unfolding padded
length_padded n xs h = simp (length-append, length-replicate) (omega arith)

pub take_padded : (n i : ℕ) (xs : List ℕ) → length xs ≡ i → take i (padded n xs) ≡ xs
unfolding padded
take_padded n i xs e = take_at xs (replicate (n - length xs) 0) i e

-- xs is still to be written over the buffer from the place i on; its first element is x
pub over_step : (i x : ℕ) (xs buffer : List ℕ) → i < length buffer
    → take (i + 1) (set buffer i x) ++ over xs (drop (i + 1) (set buffer i x))
    ≡ take i buffer ++ over (x ∷ xs) (drop i buffer)
unfolding over
over_step i x xs buffer h =
    let place : suc i + length xs ≡ i + suc (length xs) = omega arith in
    rw (
      add-one,
      take-suc-set buffer i x h,
      drop-set-lt (suc i) buffer i x (omega arith),
      drop-drop (length xs) (suc i) buffer,
      drop-drop (suc (length xs)) i buffer,
      place,
      append_assoc,
    )

-- nothing is left to be written
pub over_end : (i : ℕ) (buffer : List ℕ) → take i buffer ++ over [] (drop i buffer) ≡ buffer
unfolding over
over_end i buffer = take-append-drop i buffer
