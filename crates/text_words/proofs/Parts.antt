-- Parts of a text between two places: by the first byte, by the last byte, and cut in two.
use mathlib.Core.Path.{◌≡◌, sym, ap, ◌∙◌}
use mathlib.Core.List.{List, [], ◌∷◌, ◌++◌}
use Prim.Native.Nat.{ℕ, ◌+◌, ◌-◌, ◌≤◌, ◌<◌}
use native.Mathlib.Omega.{arith}
use native.Mathlib.Nat.{zero-add}
use native.Mathlib.Numerals.{add-one}
use lib.ListN.{length, get_or, drop, length-take, length-drop, take-append-drop}
use lib.Seq.{drop-cons, drop-drop}
use Rattle.model.proofs.Lists.{take_drop, part_split, part_next}
use Rattle.text_words.specs.Reads.{part}

module _ (s : List ℕ) where
  pub rest_cons : (i : ℕ) → i < length s → drop i s ≡ get_or s i 0 ∷ drop (i + 1) s
  rest_cons i h = rw add-one (drop-cons s i 0 h)

  pub part_none : (i k : ℕ) → k ≤ i → part s i k ≡ []
  part_none i k h =
      let none : k - i ≡ 0 = omega arith in
      rw none

  pub part_empty : (i : ℕ) → part s i i ≡ []
  part_empty i = part_none i i (omega arith)

  pub part_cut : (i j k : ℕ) → i ≤ j → j ≤ k → part s i k ≡ part s i j ++ part s j k
  part_cut i j k g h = simp zero-add at (part_split s 0 i j k g h)

  pub part_cons : (i k : ℕ) → i < k → k ≤ length s → part s i k ≡ get_or s i 0 ∷ part s (i + 1) k
  part_cons i k h g = part_next 0 s i k h g

  pub part_more : (i j : ℕ) → i ≤ j → j < length s → part s i (j + 1) ≡ part s i j ++ (get_or s j 0 ∷ [])
  part_more i j h g =
      part_cut i j (j + 1) h (omega arith)
      ∙ ap (λ (l : List ℕ). part s i j ++ l)
      (part_cons j (j + 1) (omega arith) (omega arith) ∙ ap (λ (l : List ℕ). get_or s j 0 ∷ l) (part_empty (j + 1)))

  pub part_length : (i k : ℕ) → k ≤ length s → length (part s i k) ≡ k - i
  part_length i k h = simp (length-take, length-drop) (omega arith)

  -- what is left at a place, by a later place
  pub rest_cut : (i k : ℕ) → i ≤ k → drop i s ≡ part s i k ++ drop k s
  rest_cut i k h =
      let seam : i + (k - i) ≡ k = omega arith in
      sym (rw (drop-drop, seam) at (take-append-drop (k - i) (drop i s)))

  pub part_drop : (i e k : ℕ) → i + k ≤ e → drop k (part s i e) ≡ part s (i + k) e
  part_drop i e k h =
      let left : k + (e - (i + k)) ≡ e - i = omega arith in
      sym (rw (left, drop-drop) at (take_drop (e - (i + k)) k (drop i s)))
