-- An array of unsigned numbers that is a parameter by value: its length, and that its elements fit their type.
use mathlib.Core.Path.{◌≡◌}
use mathlib.Core.List.{List, [], ◌∷◌}
use Prim.Native.Nat.{ℕ, zero, suc, ◌^◌, ◌<◌}
use native.Mathlib.Omega.{arith}
use lib.ListN.{length, get_or}
use mir.Syntax.{Width}
use mir.Val.{Val, bits}
use denote.Plain.{UInt}
use denote.Array.{Array, each}
use denote.Shadow.{shadow}
use denote.Laws.{Is}

each_fits : (w : Width) (xs : List ℕ) (us : List Val) → shadow (each ℕ (UInt w).own_val xs us) → (i : ℕ) → i < length xs
    → get_or xs i 0 < 2 ^ bits w
each_fits w [] us p i h = absurd (omega arith)
each_fits w (x ∷ xs) [] p i h = absurd p
each_fits w (x ∷ xs) (u ∷ us) p zero h = p.0.1
each_fits w (x ∷ xs) (u ∷ us) p (suc i) h = each_fits w xs us p.1 i (omega arith)

module _ (w : Width) (n : ℕ) (xs : List ℕ) (vs : List Val) (good : Is (Array (UInt w) n) xs vs) where
  pub array_length : length xs ≡ n
  array_length = good.1.0.1

  pub array_fits : (i : ℕ) → i < n → get_or xs i 0 < 2 ^ bits w
  array_fits i h = each_fits w xs good.0 good.1.1 i (omega (arith, array_length))
