-- The words and the digits of a text from a place on, one byte at a time.
use mathlib.Core.Path.{◌≡◌, refl, sym, ap, ◌∙◌}
use mathlib.Core.Bool.{Bool, true, false}
use mathlib.Core.List.{List, [], ◌∷◌}
use Prim.Native.Nat.{ℕ, ◌+◌, ◌-◌, ◌*◌, ◌≤◌, ◌<◌}
use native.Mathlib.Omega.{arith}
use lib.Dec.{ltb}
use lib.ListN.{length, get_or, drop, drop_of_length-le}
use Rattle.model.proofs.Bits.{and_both}
use Rattle.text_words.specs.Texts.{is_space, is_digit, all_digits, value_from}
use Rattle.text_words.specs.Reads.{part, is_solid, is_break}
use Rattle.text_words.proofs.Words.{solid_cons, solid_append}
use Rattle.text_words.proofs.Values.{digits_rest, digits_append, value_append, front_same, front_differs}
use Rattle.text_words.proofs.Parts.{rest_cons, part_cons, part_more, part_length}

module _ (s : List ℕ) where
  pub break_here : (i : ℕ) → i < length s → is_break (drop i s) ≡ is_space (get_or s i 0)
  unfolding is_break
  break_here i h = ap is_break (rest_cons s i h)

  pub break_end : (i : ℕ) → length s ≤ i → is_break (drop i s) ≡ true
  unfolding is_break
  break_end i h = ap is_break (drop_of_length-le s {i = i} h)

  -- one byte more
  module _ (i j : ℕ) (g : i ≤ j) (h : j < length s) where
    pub solid_more : is_solid (part s i j) ≡ true → is_space (get_or s j 0) ≡ false → is_solid (part s i (j + 1)) ≡ true
    unfolding is_solid
    solid_more e d =
        ap is_solid (part_more s i j g h)
        ∙ solid_append (part s i j) (get_or s j 0 ∷ []) e (solid_cons (get_or s j 0) [] d refl)

    pub digits_more : all_digits (part s i j) ≡ true → is_digit (get_or s j 0) ≡ true
        → all_digits (part s i (j + 1)) ≡ true
    unfolding all_digits
    digits_more e d =
        ap all_digits (part_more s i j g h)
        ∙ digits_append (part s i j) (get_or s j 0 ∷ []) e (and_both {a = is_digit (get_or s j 0)} d refl)

    pub value_more : value_from 0 (part s i (j + 1)) ≡ 10 * value_from 0 (part s i j) + (get_or s j 0 - 48)
    unfolding value_from
    value_more = ap (value_from 0) (part_more s i j g h) ∙ value_append 0 (part s i j) (get_or s j 0 ∷ [])

  -- one digit less
  module _ (i e : ℕ) (h : i < e) (g : e ≤ length s) where
    pub digits_later : all_digits (part s i e) ≡ true → all_digits (part s (i + 1) e) ≡ true
    digits_later d = digits_rest (get_or s i 0) (part s (i + 1) e) (rw (part_cons s i e h g) at d)

  -- the digits from a to e and from b to f are as many, and are compared from the front
  module _ (a e b f : ℕ) (in-a : a < e) (in_b : b < f) (g : e ≤ length s) (h : f ≤ length s)
      (many : e - a ≡ f - b) where
    abbrev less : ℕ → ℕ → Bool
    less i j = ltb (value_from 0 (part s i e)) (value_from 0 (part s j f))

    as_long : length (part s (a + 1) e) ≡ length (part s (b + 1) f)
    as_long = rw (part_length s (a + 1) e g, part_length s (b + 1) f h) (omega arith)

    pub less_later : get_or s a 0 ≡ get_or s b 0 → less (a + 1) (b + 1) ≡ less a b
    less_later q =
        sym (rw (part_cons s a e in-a g, part_cons s b f in_b h, q)
        (front_same (part s (a + 1) e) (part s (b + 1) f) as_long (get_or s b 0)))

    pub less_here : all_digits (part s a e) ≡ true → all_digits (part s b f) ≡ true → (get_or s a 0 ≡ get_or s b 0 → ⊥)
        → ltb (get_or s a 0) (get_or s b 0) ≡ less a b
    less_here d k n =
        sym (rw (part_cons s a e in-a g, part_cons s b f in_b h)
        (front_differs (get_or s a 0) (get_or s b 0) (part s (a + 1) e) (part s (b + 1) f) as_long
        (rw (part_cons s a e in-a g) at d) (rw (part_cons s b f in_b h) at k) n))
