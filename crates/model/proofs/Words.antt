-- Numbers of two and of four bytes: reading gives back what was written, and writing what was read.
use mathlib.Core.Path.{◌≡◌, refl, ap}
use mathlib.Core.List.{List, [], ◌∷◌, ◌++◌, append_assoc}
use Prim.Native.Nat.{ℕ, zero, suc, ◌+◌, ◌*◌, ◌/◌, ◌%◌, ◌≤◌, ◌<◌}
use native.Mathlib.Omega.{arith}
use native.Mathlib.Nat.{add-zero}
use lib.ListN.{length, get_or, drop, length-drop}
use lib.Seq.{get_or-drop, drop-drop}
use Rattle.model.specs.Basics.{All}
use Rattle.model.specs.Limits.{byte_end, short_end}
use Rattle.model.specs.Problems.{Word}
use Rattle.model.specs.Encoding.{Byte, two_bytes, four_bytes, word_bytes}
use Rattle.model.specs.Reading.{word2, word4, words_in}
use Rattle.model.proofs.Elements.{all_drop, all_at}

pub two_at : (i : ℕ) (s : List ℕ) → word2 i s ≡ word2 0 (drop i s)
unfolding word2
two_at i s = simp (get_or-drop, add-zero)

-- ## what was written is read

pub two_read : (x : ℕ) (rest : List ℕ) → word2 0 (two_bytes x ++ rest) ≡ x
unfolding two_bytes word2
two_read x rest = omega arith

pub four_read : (x : ℕ) (rest : List ℕ) → word4 (four_bytes x ++ rest) ≡ x
unfolding two_bytes four_bytes word2 word4
four_read x rest = omega arith

pub words_read : (xs rest : List ℕ) → words_in (length xs) (word_bytes xs ++ rest) ≡ xs
unfolding two_bytes four_bytes word_bytes words_in
words_read [] rest = refl
words_read (x ∷ xs) rest = λ i. four_read x (word_bytes xs ++ rest) i ∷ words_read xs rest i

pub length_word_bytes : (xs : List ℕ) → length (word_bytes xs) ≡ 4 * length xs
unfolding two_bytes four_bytes word_bytes
length_word_bytes [] = refl
length_word_bytes (x ∷ xs) =
    let k : length (word_bytes xs) ≡ 4 * length xs = length_word_bytes xs in
    omega arith

-- ## what is read was written

pub two_written : (s : List ℕ) → 2 ≤ length s → All Byte s → two_bytes (word2 0 s) ++ drop 2 s ≡ s
unfolding two_bytes word2
two_written [] l h = absurd (omega arith)
two_written (a ∷ []) l h = absurd (omega arith)
two_written (a ∷ b ∷ s) l h =
    let low : (a + byte_end * b) % byte_end ≡ a = omega arith in
    let high : (a + byte_end * b) / byte_end ≡ b = omega arith in
    λ i. low i ∷ high i ∷ s

pub four_written : (s : List ℕ) → 4 ≤ length s → All Byte s → four_bytes (word4 s) ++ drop 4 s ≡ s
unfolding four_bytes word4 word2
four_written [] l h = absurd (omega arith)
four_written (a ∷ []) l h = absurd (omega arith)
four_written (a ∷ b ∷ s) l h =
    let low : word4 (a ∷ b ∷ s) % short_end ≡ word2 0 (a ∷ b ∷ s) = omega arith in
    let high : word4 (a ∷ b ∷ s) / short_end ≡ word2 0 s = omega arith in
    rw (four_bytes, low, high, append_assoc, two_written s (omega arith) h.1.1)
    (two_written (a ∷ b ∷ s) (omega arith) h)

pub length_words_in : (n : ℕ) (s : List ℕ) → length (words_in n s) ≡ n
unfolding words_in
length_words_in zero s = refl
length_words_in (suc n) s = ap suc (length_words_in n (drop 4 s))

pub words_written : (n : ℕ) (s : List ℕ) → 4 * n ≤ length s → All Byte s
    → word_bytes (words_in n s) ++ drop (4 * n) s ≡ s
unfolding word_bytes words_in
words_written zero s l h = refl
words_written (suc n) s l h =
    let rest : word_bytes (words_in n (drop 4 s)) ++ drop (4 * n) (drop 4 s) ≡ drop 4 s =
    words_written n (drop 4 s) (omega (arith, length-drop 4 s)) (all_drop Byte 4 s h) in
    let place : 4 * suc n ≡ 4 + 4 * n = omega arith in
    rw (place, ← drop-drop (4 * n) 4 s, append_assoc, rest) (four_written s (omega arith) h)

pub words_below : (n : ℕ) (s : List ℕ) → All Byte s → All Word (words_in n s)
unfolding words_in word4 word2
words_below zero s h = tt
words_below (suc n) s h =
    let byte : (i : ℕ) → get_or s i 0 < byte_end = λ i. all_at Byte s h i 0 (omega arith) in
    (omega (arith, byte 0, byte 1, byte 2, byte 3), words_below n (drop 4 s) (all_drop Byte 4 s h))
