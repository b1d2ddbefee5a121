-- What comes first in a text: white space, bytes without it, zeros.
use Rattle.std.proofs.Common.{◌≡◌, refl, sym, ap, ◌∙◌, true, false, List, [], ◌∷◌, ℕ, zero, suc, ◌+◌, ◌≤◌}
use Rattle.std.proofs.Common.{arith, length, take, drop, ⊎_elim, length-drop, ◌-◌}
use Rattle.std.specs.List.{prefix_len}
use Rattle.std.proofs.Math.Seq.{drop-drop, take-length}
use Rattle.std.proofs.lemmas.List.{get_or-drop, get_or-take}
use Rattle.std.proofs.lemmas.List.Sums.{prefix_len-le-length, prefix_len_stops}
use borrow.Author.Tests.{eqb-true}
use Rattle.model.proofs.Bits.{test, and_right, true_false}
use Rattle.text_words.specs.Texts.{is_space, is_digit, words_of, all_digits, value_from}
use Rattle.text_words.specs.Reads.{part, is_visible, is_zero, is_solid, is_break, Skipped, WordEnds, ZerosSkipped}
use Rattle.text_words.proofs.Words.{space_front}
use Rattle.text_words.proofs.Parts.{part_drop, part_length}

one_more : (n : ℕ) → 1 + n ≡ suc n
one_more n = omega arith

pub words_behind : (l : List ℕ) → words_of (drop (prefix_len is_space l) l) ≡ words_of l
words_behind [] = refl
words_behind (b ∷ l) =
    ⊎_elim (λ (e : is_space b ≡ true). simp (e, one_more) (words_behind l ∙ sym (space_front b l e)))
    (λ (e : is_space b ≡ false). simp e) (test (is_space b))

pub solid_front : (l : List ℕ) → is_solid (take (prefix_len is_visible l) l) ≡ true
unfolding is_solid
solid_front [] = refl
solid_front (b ∷ l) =
    ⊎_elim (λ (e : is_space b ≡ true). simp e)
    (λ (e : is_space b ≡ false). simp (e, one_more) (solid_front l)) (test (is_space b))

pub break_behind : (l : List ℕ) → is_break (drop (prefix_len is_visible l) l) ≡ true
unfolding is_break
break_behind [] = refl
break_behind (b ∷ l) =
    ⊎_elim (λ (e : is_space b ≡ true). simp e)
    (λ (e : is_space b ≡ false). simp (e, one_more) (break_behind l)) (test (is_space b))

pub value_behind_zeros : (l : List ℕ) → value_from 0 (drop (prefix_len is_zero l) l) ≡ value_from 0 l
unfolding value_from
value_behind_zeros [] = refl
value_behind_zeros (b ∷ l) =
    ⊎_elim (λ (e : is_zero b ≡ true).
    let z : b ≡ 48 = eqb-true b 48 e in
    simp (e, one_more) (value_behind_zeros l ∙ rw z))
    (λ (e : is_zero b ≡ false). simp e) (test (is_zero b))

pub digits_behind : (n : ℕ) (l : List ℕ) → all_digits l ≡ true → all_digits (drop n l) ≡ true
unfolding all_digits
digits_behind zero l e = e
digits_behind (suc n) [] e = refl
digits_behind (suc n) (b ∷ l) e = digits_behind n l (and_right (is_digit b) (all_digits l) e)

-- ## from a place on

module _ (s : List ℕ) (at n : ℕ) (inside : at ≤ length s) where
  rest : part s at (length s) ≡ drop at s
  rest =
      let many : length s - at ≡ length (drop at s) = sym (length-drop at s) in
      rw many (take-length (drop at s))

  pub skipped : n ≡ prefix_len is_space (part s at (length s)) → Skipped s at (at + n)
  skipped e =
      let e' : n ≡ prefix_len is_space (drop at s) = rw rest at e in
      let short = simp length-drop at (prefix_len-le-length is_space (drop at s)) in
      record {
        after = omega arith;
        within = omega arith;
        words = sym (ap words_of (drop-drop n at s)) ∙ rw e' (words_behind (drop at s));
        stop = λ h.
            sym (ap is_space (get_or-drop at s n 0))
            ∙ rw e' (prefix_len_stops is_space (drop at s) 0 (simp length-drop (omega arith)));
      }

  pub word_ends : n ≡ prefix_len is_visible (part s at (length s)) → WordEnds s at (at + n)
  word_ends e =
      let e' : n ≡ prefix_len is_visible (drop at s) = rw rest at e in
      let short = simp length-drop at (prefix_len-le-length is_visible (drop at s)) in
      let width : at + n - at ≡ n = omega arith in
      record {
        after = omega arith;
        within = omega arith;
        solid = rw (width, e') (solid_front (drop at s));
        stop = sym (ap is_break (drop-drop n at s)) ∙ rw e' (break_behind (drop at s));
      }

  pub zeros_skipped : (end : ℕ) → at ≤ end → end ≤ length s → all_digits (part s at end) ≡ true
      → n ≡ prefix_len is_zero (part s at end) → ZerosSkipped s at end (at + n)
  zeros_skipped end h g digits e =
      let short = rw (part_length s at end g) at (prefix_len-le-length is_zero (part s at end)) in
      let left = part_drop s at end n (omega arith) in
      record {
        after = omega arith;
        within = omega arith;
        digits = rw (← left) (digits_behind n (part s at end) digits);
        value = rw (← left, e) (value_behind_zeros (part s at end));
        stop = λ l q.
            let here =
            get_or-take (end - at) (drop at s) n 0 (omega arith) ∙ get_or-drop at s n 0 ∙ q in
            let stops =
            prefix_len_stops is_zero (part s at end) 0 (rw (part_length s at end g) (omega arith)) in
            let last = rw (← e) at stops in
            absurd (true_false (ap is_zero here) last);
      }
