-- Of two numbers without leading zeros the one with fewer digits is less.
use mathlib.Core.Path.{◌≡◌, sym, ◌∙◌}
use mathlib.Core.Logic.{⊎_elim}
use mathlib.Core.List.{List}
use Prim.Native.Nat.{ℕ, ◌+◌, ◌-◌, ◌≤◌, ◌<◌}
use native.Mathlib.Omega.{arith}
use native.Mathlib.Nat.{le_of_lt}
use lib.Dec.{ltb}
use lib.ListN.{length, get_or}
use borrow.Author.Tests.{lt-ltb, le-ltb}
use Rattle.model.proofs.Numbers.{one_first}
use Rattle.text_words.specs.Texts.{value_from}
use Rattle.text_words.specs.Reads.{part, ZerosSkipped}
use Rattle.text_words.proofs.Values.{digit_low, digits_first, shorter_less}
use Rattle.text_words.proofs.Parts.{part_cons, part_length}

module _ (s : List ℕ) where
  narrower : (a e i b f j : ℕ) → ZerosSkipped s a e i → ZerosSkipped s b f j → e ≤ length s → f ≤ length s
      → e - i < f - j → value_from 0 (part s a e) < value_from 0 (part s b f)
  narrower a e i b f j u w g k h =
      let some : j < f = omega arith in
      let first = part_cons s j f some k in
      let low = digit_low (get_or s j 0) (digits_first _ _ (rw first at w.digits)) in
      let high : 48 < get_or s j 0 = omega (arith, w.stop some) in
      rw (← u.value, ← w.value, first)
      (shorter_less (part s i e) (get_or s j 0) (part s (j + 1) f) u.digits high
      (rw (part_length s i e g, part_length s (j + 1) f k) (omega arith)))

  pub width_less : (a e i b f j : ℕ) → ZerosSkipped s a e i → ZerosSkipped s b f j → e ≤ length s → f ≤ length s
      → (e - i ≡ f - j → ⊥) → ltb (e - i) (f - j) ≡ ltb (value_from 0 (part s a e)) (value_from 0 (part s b f))
  width_less a e i b f j u w g k n =
      ⊎_elim (λ (h : e - i < f - j).
      lt-ltb (e - i) (f - j) h ∙ sym (lt-ltb _ _ (narrower a e i b f j u w g k h)))
      (λ (h : f - j < e - i).
      le-ltb (e - i) (f - j) (le_of_lt h) ∙ sym (le-ltb _ _ (le_of_lt (narrower b f j a e i w u k g h))))
      (one_first (e - i) (f - j) n)
