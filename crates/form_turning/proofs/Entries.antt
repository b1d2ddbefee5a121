-- The bytes of an entry of a table that was read are the four bytes from which it was read.
use mathlib.Core.Path.{◌≡◌, ap, sym, ◌∙◌}
use mathlib.Core.List.{List, append-nil}
use Prim.Native.Nat.{ℕ, zero, suc, ◌+◌, ◌*◌, ◌≤◌, ◌<◌}
use native.Mathlib.Omega.{arith}
use lib.ListN.{length, get_or, take, drop, length-drop}
use lib.Seq.{take_at, drop-drop}
use Rattle.model.specs.Basics.{All}
use Rattle.model.specs.Encoding.{Byte, four_bytes, word_bytes}
use Rattle.model.specs.Reading.{word4, words_in}
use Rattle.model.proofs.Elements.{all_drop}
use Rattle.model.proofs.Words.{words_written, length_word_bytes}
use Rattle.form_turning.specs.Steps.{entry_bytes}

first_bytes : (s : List ℕ) → 4 ≤ length s → All Byte s → four_bytes (word4 s) ≡ take 4 s
unfolding words_in word_bytes
first_bytes s l bytes =
    let one : word_bytes (words_in 1 s) ≡ four_bytes (word4 s) = append-nil (four_bytes (word4 s)) in
    let long : length (word_bytes (words_in 1 s)) ≡ 4 = length_word_bytes (words_in 1 s) in
    sym one ∙ sym (take_at (word_bytes (words_in 1 s)) (drop 4 s) 4 long)
    ∙ ap (take 4) (words_written 1 s l bytes)

pub entry_bytes_lem : (n : ℕ) (s : List ℕ) (i : ℕ) → 4 * n ≤ length s → All Byte s → i < n
    → four_bytes (get_or (words_in n s) i 0) ≡ entry_bytes s (4 * i)
unfolding words_in entry_bytes
entry_bytes_lem zero s i l bytes h = absurd (omega arith)
entry_bytes_lem (suc n) s zero l bytes h = first_bytes s (omega arith) bytes
entry_bytes_lem (suc n) s (suc i) l bytes h =
    let place : 4 + 4 * i ≡ 4 * suc i = omega arith in
    entry_bytes_lem n (drop 4 s) i (omega (arith, length-drop 4 s)) (all_drop Byte 4 s bytes) (omega arith)
    ∙ rw (drop-drop (4 * i) 4 s, place)
