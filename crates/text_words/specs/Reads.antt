-- A text that is read from a place on: what each function of the source finds there.
use Rattle.std.specs.Prelude.{◌≡◌, Bool, true, false, ◌&&◌, not, List, [], ◌∷◌, ℕ, ◌-◌, ◌≤◌, ◌<◌, min, eqb, length}
use Rattle.std.specs.Prelude.{get_or, take, drop}
use Rattle.model.specs.Basics.{pick}
use Rattle.text_words.specs.Texts.{is_space, is_digit, words_of, all_digits, value_from}
use Rattle.text_words.specs.Texts.{Term, number, negative, other, term_of, value_of}
use Rattle.text_words.specs.declared.Word as DW
use Rattle.text_words.specs.declared.Digits as DD
use Rattle.text_words.specs.declared.Kind.{Kind}
use Rattle.text_words.specs.declared.Kind.TheVariants.{Natural, Negative, Other}
use Rattle.text_words.specs.declared.Number as DN

-- the words from a place on, and the bytes from one place to another
abbrev pub words_at : List ℕ → ℕ → List (List ℕ)
words_at s at = words_of (drop at s)

abbrev pub part : List ℕ → ℕ → ℕ → List ℕ
part s from end = take (end - from) (drop from s)

-- a byte that is no white space; a zero
abbrev pub is_visible : ℕ → Bool
is_visible b = not (is_space b)

abbrev pub is_zero : ℕ → Bool
is_zero b = eqb b 48

-- bytes without white space; white space, or the end, comes first
unfoldable pub is_solid : List ℕ → Bool
is_solid [] = true
is_solid (b ∷ bs) = not (is_space b) && is_solid bs

unfoldable pub is_break : List ℕ → Bool
is_break [] = true
is_break (b ∷ bs) = is_space b

-- values are told up to here, ten times the least value to which no digit can be added
abbrev pub cap_end : ℕ
cap_end = 18446744073709551610

-- what a word is, as a number
unfoldable pub kind_of : Term → Kind
kind_of (number x) = Natural
kind_of negative = Negative
kind_of other = Other

-- how many bytes of sign come first
unfoldable pub sign_width : List ℕ → ℕ
sign_width [] = 0
sign_width (b ∷ bs) = pick (eqb b 45) 1 (pick (eqb b 43) 1 0)

-- the first word from a place on, none if there is no word; and what it is
abbrev pub word_at : List ℕ → ℕ → List ℕ
word_at s at = get_or (words_at s at) 0 []

abbrev pub term_at : List ℕ → ℕ → Term
term_at s at = term_of (word_at s at)

-- white space is skipped to r
pub record Skipped (s : List ℕ) (at r : ℕ) : Type 0 where
  pub after : at ≤ r
  pub within : r ≤ length s
  pub words : words_at s r ≡ words_at s at
  pub stop : r < length s → is_space (get_or s r 0) ≡ false

-- the word that is read at a place ends at r
pub record WordEnds (s : List ℕ) (at r : ℕ) : Type 0 where
  pub after : at ≤ r
  pub within : r ≤ length s
  pub solid : is_solid (part s at r) ≡ true
  pub stop : is_break (drop r s) ≡ true

-- the next word; it is empty where there is none
pub record WordSays (s : List ℕ) (at : ℕ) (r : DW.Word) : Type 0 where
  pub after : at ≤ r.start
  pub ordered : r.start ≤ r.end
  pub within : r.end ≤ length s
  pub none : r.start ≡ r.end → words_at s at ≡ []
  pub some : r.start < r.end → words_at s at ≡ part s r.start r.end ∷ words_at s r.end

-- the longest run of digits at a place
pub record RunSays (s : List ℕ) (at : ℕ) (r : DD.Digits) : Type 0 where
  pub after : at ≤ r.end
  pub within : r.end ≤ length s
  pub digits : all_digits (part s at r.end) ≡ true
  pub value : r.value ≡ min (value_from 0 (part s at r.end)) cap_end
  pub stop : r.end < length s → is_digit (get_or s r.end 0) ≡ false

-- the digits of a number that was read, with its value up to the cap
abbrev pub numeral : List ℕ → DN.Number → List ℕ
numeral s r = part s r.from r.end

pub record DigitsAt (s : List ℕ) (r : DN.Number) : Type 0 where
  pub ordered : r.from ≤ r.end
  pub within : r.end ≤ length s
  pub digits : all_digits (numeral s r) ≡ true
  pub value : r.value ≡ min (value_from 0 (numeral s r)) cap_end

-- a word up to e that is no number
abbrev pub no_digits : Kind → ℕ → DN.Number
no_digits k e = record { kind = k; value = 0; from = e; end = e }

-- the first word from a place on as a number; where it is one, its digits
pub record NumberSays (s : List ℕ) (at : ℕ) (r : DN.Number) : Type 0 where
  pub kind : r.kind ≡ kind_of (term_at s at)
  pub value : r.value ≡ min (value_of (term_at s at)) cap_end
  pub digits : r.kind ≡ Natural → DigitsAt s r
  pub exact : r.kind ≡ Natural → value_from 0 (numeral s r) ≡ value_of (term_at s at)
  pub after : at ≤ r.end
  pub within : r.end ≤ length s
  pub rest : words_at s r.end ≡ drop 1 (words_at s at)
  pub some : (r.kind ≡ Other → ⊥) → at < r.end
  pub missing : words_at s at ≡ [] → r.end ≡ length s

-- zeros in front of digits are skipped to r
pub record ZerosSkipped (s : List ℕ) (from end r : ℕ) : Type 0 where
  pub after : from ≤ r
  pub within : r ≤ end
  pub digits : all_digits (part s r end) ≡ true
  pub value : value_from 0 (part s r end) ≡ value_from 0 (part s from end)
  pub stop : r < end → get_or s r 0 ≡ 48 → ⊥
