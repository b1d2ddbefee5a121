-- What reading a number finds, by the sign and the run of digits behind it: no number, a number, a negative number.
use mathlib.Core.Path.{◌≡◌, refl, sym, ap, ◌∙◌}
use mathlib.Core.Logic.{⊎_elim}
use mathlib.Core.Bool.{true}
use mathlib.Core.List.{List, ◌++◌}
use Prim.Native.Nat.{ℕ, ◌+◌, ◌≤◌, ◌<◌, min}
use native.Mathlib.Omega.{arith}
use native.Mathlib.Nat.{eq-or-lt_of_le}
use lib.ListN.{length, get_or, drop}
use Rattle.text_words.specs.Texts.{value_from, Term, number, negative, other}
use Rattle.text_words.specs.Texts.{unsigned, negated, term_of, value_of}
use Rattle.text_words.specs.Reads.{part, is_solid, is_break, cap_end, kind_of, sign_width, no_digits}
use Rattle.text_words.specs.Reads.{term_at, Skipped, WordEnds, RunSays, NumberSays}
use Rattle.text_words.specs.declared.Kind.TheVariants.{Natural, Negative, Other}
use Rattle.text_words.specs.declared.Digits as DD
use Rattle.text_words.proofs.Words.{solid_append, digits_solid}
use Rattle.text_words.proofs.Parts.{part_none, part_empty, part_cons, part_cut, part_length}
use Rattle.text_words.proofs.Places.{solid_more}
use Rattle.text_words.proofs.Signs.{unsigned_digits, unsigned_broken, negated_some, sign_one}
use Rattle.text_words.proofs.Signs.{word_plain, word_minus, word_other}
use Rattle.text_words.proofs.FirstWord.{word_is, word_missing, words_behind}

-- reading has begun: behind white space and a sign there is the longest run of digits
pub record Begun (s : List ℕ) (at start from : ℕ) (r : DD.Digits) : Type 0 where
  pub skipped : Skipped s at start
  pub sign : from ≡ start + sign_width (drop start s)
  pub run : RunSays s from r

module _ {s : List ℕ} {at start from : ℕ} {run : DD.Digits} (begun : Begun s at start from run) where
  -- ## the whole word

  none_solid : (i : ℕ) → is_solid (part s i i) ≡ true
  unfolding is_solid
  none_solid i = ap is_solid (part_empty s i)

  sign_solid : is_solid (part s start from) ≡ true
  sign_solid =
      let one = sign_one (drop start s) in
      let low : start ≤ from = omega arith in
      ⊎_elim (λ (q : start ≡ from). rw q (none_solid from))
      (λ (h : start < from).
      let next : from ≡ start + 1 = omega arith in
      let inside : start < length s = omega (arith, begun.run.after, begun.run.within) in
      rw next (solid_more s start start (omega arith) inside (none_solid start) (begun.skipped.stop inside)))
      (eq-or-lt_of_le low)

  whole : (e : ℕ) → WordEnds s run.end e → WordEnds s start e
  whole e ends =
      record {
        after = omega (arith, begun.run.after, ends.after);
        within = ends.within;
        solid =
            ap is_solid (part_cut s start from e (omega arith) (omega (arith, begun.run.after, ends.after)))
            ∙ solid_append (part s start from) (part s from e) sign_solid
            (ap is_solid (part_cut s from run.end e begun.run.after ends.after)
            ∙ solid_append (part s from run.end) (part s run.end e)
            (digits_solid (part s from run.end) begun.run.digits) ends.solid);
        stop = ends.stop;
      }

  -- ## no number

  -- something else than digits is behind the sign, up to e
  module _ (e : ℕ) (ends : WordEnds s run.end e) (bad : is_break (drop run.end s) ≡ true → run.end ≡ from) where
    behind_other : unsigned (part s from e) ≡ other
    unfolding unsigned
    behind_other =
        ⊎_elim (λ (q : run.end ≡ e).
        let none : from ≡ e = sym (bad (rw q ends.stop)) ∙ q in
        ap unsigned (part_none s from e (omega arith)))
        (λ (h : run.end < e).
        ap unsigned
        (part_cut s from run.end e begun.run.after ends.after
        ∙ ap (λ (l : List ℕ). part s from run.end ++ l) (part_cons s run.end e h ends.within))
        ∙ unsigned_broken (part s from run.end) (get_or s run.end 0) (part s (run.end + 1) e)
        (begun.run.stop (omega (arith, ends.within)))) (eq-or-lt_of_le ends.after)

    term_other : term_at s at ≡ other
    unfolding term_of
    term_other =
        ap term_of (word_is s at start e begun.skipped (whole e ends))
        ∙ ⊎_elim (λ (q : start ≡ e). ap term_of (part_none s start e (omega arith)))
        (λ (h : start < e). word_other s start e h ends.within from begun.sign behind_other)
        (eq-or-lt_of_le (whole e ends).after)

    pub other_says : NumberSays s at (no_digits Other e)
    unfolding kind_of value_of
    other_says =
        record {
          kind = sym (ap kind_of term_other);
          value = sym (ap (λ (t : Term). min (value_of t) cap_end) term_other);
          digits = λ h. absurd (cc);
          exact = λ h. absurd (cc);
          after = omega (arith, begun.skipped.after, (whole e ends).after);
          within = ends.within;
          rest = words_behind s at start e begun.skipped (whole e ends);
          some = λ h. absurd (h refl);
          missing = word_missing s at start e begun.skipped (whole e ends);
        }

  -- ## digits alone are behind the sign

  module _ (h : from < run.end) (stop : is_break (drop run.end s) ≡ true) where
    abbrev x : ℕ
    x = value_from 0 (part s from run.end)

    ends : WordEnds s start run.end
    ends =
        whole run.end
        (record { after = omega arith; within = begun.run.within; solid = none_solid run.end; stop = stop })

    behind_number : unsigned (part s from run.end) ≡ number x
    behind_number =
        unsigned_digits (part s from run.end) (rw (part_length s from run.end begun.run.within) (omega arith))
        begun.run.digits

    term_plain : (get_or s start 0 ≡ 45 → ⊥) → term_at s at ≡ number x
    term_plain n =
        ap term_of (word_is s at start run.end begun.skipped ends)
        ∙ word_plain s start run.end (omega arith) begun.run.within from begun.sign n
        ∙ behind_number

    term_minus : get_or s start 0 ≡ 45 → term_at s at ≡ negated (number x)
    term_minus q =
        ap term_of (word_is s at start run.end begun.skipped ends)
        ∙ word_minus s start run.end (omega arith) begun.run.within from begun.sign q
        ∙ ap negated behind_number

    number_says : term_at s at ≡ number x
        → NumberSays s at (record { kind = Natural; value = run.value; from = from; end = run.end })
    unfolding kind_of value_of
    number_says t =
        record {
          kind = sym (ap kind_of t);
          value = begun.run.value ∙ sym (ap (λ (u : Term). min (value_of u) cap_end) t);
          digits = λ _.
              record {
                ordered = omega arith;
                within = begun.run.within;
                digits = begun.run.digits;
                value = begun.run.value;
              };
          exact = λ _. sym (ap value_of t);
          after = omega (arith, begun.skipped.after);
          within = begun.run.within;
          rest = words_behind s at start run.end begun.skipped ends;
          some = λ _. omega (arith, begun.skipped.after);
          missing = word_missing s at start run.end begun.skipped ends;
        }

    pub plain_says : (get_or s start 0 ≡ 45 → ⊥)
        → NumberSays s at (record { kind = Natural; value = run.value; from = from; end = run.end })
    plain_says n = number_says (term_plain n)

    pub zero_says : get_or s start 0 ≡ 45 → run.value ≡ 0
        → NumberSays s at (record { kind = Natural; value = run.value; from = from; end = run.end })
    unfolding negated
    zero_says q e =
        let none : x ≡ 0 = omega (arith, begun.run.value) in
        number_says (term_minus q ∙ rw none)

    pub negative_says : get_or s start 0 ≡ 45 → (run.value ≡ 0 → ⊥)
        → NumberSays s at (no_digits Negative run.end)
    unfolding kind_of value_of
    negative_says q n =
        let t : term_at s at ≡ negative = term_minus q ∙ negated_some x (λ e. n (begun.run.value ∙ rw e)) in
        record {
          kind = sym (ap kind_of t);
          value = sym (ap (λ (u : Term). min (value_of u) cap_end) t);
          digits = λ k. absurd (cc);
          exact = λ k. absurd (cc);
          after = omega (arith, begun.skipped.after);
          within = begun.run.within;
          rest = words_behind s at start run.end begun.skipped ends;
          some = λ _. omega (arith, begun.skipped.after);
          missing = word_missing s at start run.end begun.skipped ends;
        }
