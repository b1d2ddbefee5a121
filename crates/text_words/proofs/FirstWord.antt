-- The first word of a text from a place on: behind the white space, up to the next or the end.
use mathlib.Core.Path.{◌≡◌, sym, ap, ◌∙◌}
use mathlib.Core.Logic.{⊎_elim}
use mathlib.Core.List.{List, [], ◌∷◌}
use Prim.Native.Nat.{ℕ, ◌+◌, ◌<◌}
use native.Mathlib.Omega.{arith}
use native.Mathlib.Nat.{eq-or-lt_of_le}
use lib.ListN.{length, get_or, drop, drop_of_length-le}
use Rattle.model.proofs.Bits.{true_false}
use Rattle.text_words.specs.Texts.{words_of}
use Rattle.text_words.specs.Reads.{words_at, word_at, part, Skipped, WordEnds}
use Rattle.text_words.proofs.Words.{word_front}
use Rattle.text_words.proofs.Parts.{part_none, part_cons, rest_cut}
use Rattle.text_words.proofs.Places.{break_here}

module _ (s : List ℕ) (at start e : ℕ) (skipped : Skipped s at start) (ends : WordEnds s start e) where
  pub word_some : start < e → words_at s at ≡ part s start e ∷ words_at s e
  word_some h =
      let first = part_cons s start e h ends.within in
      sym skipped.words
      ∙ ap words_of (rest_cut s start e ends.after)
      ∙ rw first
      (word_front (get_or s start 0) (part s (start + 1) e) (drop e s) (rw first at ends.solid) ends.stop)

  last : start ≡ e → start ≡ length s
  last q =
      ⊎_elim (λ (k : start ≡ length s). k)
      (λ (h : start < length s).
      absurd (true_false (sym (break_here s start h) ∙ (rw (← q) at ends.stop)) (skipped.stop h)))
      (eq-or-lt_of_le skipped.within)

  pub word_none : start ≡ e → words_at s at ≡ []
  unfolding words_of
  word_none q = sym skipped.words ∙ ap words_of (drop_of_length-le s {i = start} (omega (arith, last q)))

  -- where there is none, all of the text is read
  pub word_missing : words_at s at ≡ [] → e ≡ length s
  word_missing none =
      ⊎_elim (λ (q : start ≡ e). sym q ∙ last q)
      (λ (h : start < e). absurd (omega (arith, ap length (sym none ∙ word_some h))))
      (eq-or-lt_of_le ends.after)

  -- both: the first word, which is empty where there is none, and the words behind it
  pub word_is : word_at s at ≡ part s start e
  word_is =
      ⊎_elim (λ (q : start ≡ e).
      ap (λ (l : List (List ℕ)). get_or l 0 []) (word_none q) ∙ sym (part_none s start e (omega arith)))
      (λ (h : start < e). ap (λ (l : List (List ℕ)). get_or l 0 []) (word_some h)) (eq-or-lt_of_le ends.after)

  pub words_behind : words_at s e ≡ drop 1 (words_at s at)
  words_behind =
      ⊎_elim (λ (q : start ≡ e).
      ap (words_at s) (sym q) ∙ skipped.words ∙ word_none q ∙ sym (ap (drop 1) (word_none q)))
      (λ (h : start < e). sym (ap (drop 1) (word_some h))) (eq-or-lt_of_le ends.after)
