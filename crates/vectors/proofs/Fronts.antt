-- The first p numbers of two lists: how many there are.
use mathlib.Core.Path.{◌≡◌, sym, ◌∙◌}
use mathlib.Core.List.{List}
use Prim.Native.Nat.{ℕ, ◌≤◌}
use lib.ListN.{length, take}
use lib.Seq.{length-take-le}

-- two lists that have them
pub fronts : (p : ℕ) (a b : List ℕ) → p ≤ length a → p ≤ length b → length (take p a) ≡ length (take p b)
fronts p a b la lb = length-take-le p a la ∙ sym (length-take-le p b lb)
