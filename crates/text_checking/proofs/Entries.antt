-- What an entry holds: the size that it was made of, and whether a number is less.
use mathlib.Core.Path.{◌≡◌, refl, sym, ◌∙◌}
use mathlib.Core.Logic.{⊎_elim}
use mathlib.Core.Bool.{true, false}
use mathlib.Core.List.{List}
use Prim.Native.Nat.{ℕ, ◌+◌, ◌-◌, ◌≤◌, ◌<◌, min, max}
use native.Mathlib.Omega.{arith}
use lib.Dec.{ltb}
use lib.ListN.{length, get_or, drop_of_length-le, get_or-map}
use borrow.Author.Tests.{ltb-true, ltb-false, lt-ltb, le-ltb}
use Rattle.text_words.specs.Texts.{Term, number, negative, other, words_of, term_of, value_of}
use Rattle.text_words.specs.Reads.{term_at, kind_of, cap_end, NumberSays}
use Rattle.text_words.specs.declared.Kind.TheVariants.{Natural}
use Rattle.text_words.specs.declared.Number as DN
use Rattle.text_checking.specs.Sizes.{half, entry_of, size_held, sizes_held}
use Rattle.text_checking.proofs.Codes.{lt_or_ge}
use Rattle.text_checking.proofs.Fields.{same_test}

module _ (s : List ℕ) where
  pub held_small : (e : ℕ) → e < half → size_held s e ≡ e
  unfolding size_held
  held_small e h = rw (lt-ltb e half h)

  pub held_large : (e : ℕ) → half ≤ e → size_held s e ≡ max half (value_of (term_at s (e - half)))
  unfolding size_held
  held_large e h = rw (le-ltb e half h)

  -- a small size is its entry
  pub small_held : (e : ℕ) → size_held s e < half → size_held s e ≡ e
  small_held e h =
      ⊎_elim (λ (k : e < half). held_small e k)
      (λ (k : half ≤ e). absurd (omega (arith, held_large e k))) (lt_or_ge e half)

  pub entry_held : (at : ℕ) (r : DN.Number) → NumberSays s at r
      → size_held s (entry_of r.value at) ≡ value_of (term_at s at)
  unfolding entry_of
  entry_held at r says =
      let x = value_of (term_at s at) in
      ⊎_elim (λ (h : r.value < half).
      rw (lt-ltb r.value half h) (held_small r.value h ∙ omega (arith, says.value)))
      (λ (h : half ≤ r.value).
      let place : half + at - half ≡ at = omega arith in
      rw (le-ltb r.value half h)
      (held_large (half + at) (omega arith) ∙ rw place (omega (arith, says.value)))) (lt_or_ge r.value half)

  -- ## whether a number is less

  module _ (e x value : ℕ) (v : value ≡ min x cap_end) where
    pub below_small : e < half → ltb value e ≡ ltb x (size_held s e)
    below_small h =
        rw (held_small e h)
        (same_test (ltb value e) (ltb x e) (λ t. lt-ltb x e (omega (arith, ltb-true value e t)))
        (λ t. le-ltb x e (omega (arith, ltb-false value e t))))

    pub below_half : half ≤ e → value < half → true ≡ ltb x (size_held s e)
    below_half h k = sym (lt-ltb x (size_held s e) (omega (arith, held_large e h)))

    -- no number stands there
    pub below_none : half ≤ e → half ≤ value → value_of (term_at s (e - half)) ≡ 0 → false ≡ ltb x (size_held s e)
    below_none h k z = sym (le-ltb x (size_held s e) (omega (arith, held_large e h)))

    pub below_large : half ≤ e → half ≤ value → ltb x (value_of (term_at s (e - half))) ≡ ltb x (size_held s e)
    below_large h k =
        let y = value_of (term_at s (e - half)) in
        same_test (ltb x y) (ltb x (size_held s e))
        (λ t. lt-ltb x (size_held s e) (omega (arith, held_large e h, ltb-true x y t)))
        (λ t. le-ltb x (size_held s e) (omega (arith, held_large e h, ltb-false x y t)))

  pub none_behind : (at : ℕ) → length s < at → value_of (term_at s at) ≡ 0
  unfolding words_of term_of value_of
  none_behind at h = rw (drop_of_length-le s {i = at} (omega arith))

  pub none_value : (at : ℕ) (r : DN.Number) → NumberSays s at r → (r.kind ≡ Natural → ⊥) → value_of (term_at s at) ≡ 0
  unfolding kind_of value_of
  none_value at r says k = go (term_at s at) (λ e. k (says.kind ∙ e))
    where
      go : (t : Term) → (kind_of t ≡ Natural → ⊥) → value_of t ≡ 0
      go (number x) e = absurd (e refl)
      go negative e = refl
      go other e = refl

  -- ## entries one by one

  pub held_at : (entries : List ℕ) (i : ℕ) → get_or (sizes_held s entries) i 0 ≡ size_held s (get_or entries i 0)
  held_at entries i =
      rw (held_small 0 (omega arith)) at (get_or-map (size_held s) entries i 0)
