-- Numbers as a row has them: what fits 32 bits is itself, and the order stays. The numbers of a bound, clamped one
-- after another.
use mathlib.Core.Path.{◌≡◌}
use mathlib.Core.Logic.{◌⊎◌, ⊎_elim}
use mathlib.Core.List.{List}
use Prim.Native.Nat.{ℕ, ◌-◌, ◌≤◌, ◌<◌}
use native.Mathlib.Omega.{arith}
use lib.Dec.{ltb}
use lib.ListN.{length, get_or}
use borrow.Author.Tests.{ltb-true, ltb-false, lt-ltb, le-ltb}
use Rattle.model.specs.Limits.{word_end}
use Rattle.model.proofs.Bits.{test}
use Rattle.branch_directions.specs.Directions.{max_directions}
use Rattle.branch_zones.specs.Zones.{clamped}

pub clamped_small : (x : ℕ) → x < word_end → clamped x ≡ x
clamped_small x h = rw (lt-ltb x word_end h)

pub clamped_large : (x : ℕ) → word_end ≤ x → clamped x ≡ word_end - 1
clamped_large x h = rw (le-ltb x word_end h)

pub clamped_mono : (x y : ℕ) → x ≤ y → clamped x ≤ clamped y
clamped_mono x y h =
    ⊎_elim
    (λ t. rw (clamped_small y (ltb-true y word_end t), clamped_small x (omega (arith, ltb-true y word_end t))) h)
    (λ t. rw (clamped_large y (ltb-false y word_end t)) (most x))
    (test (ltb y word_end))
  where
    most : (a : ℕ) → clamped a ≤ word_end - 1
    most a =
        ⊎_elim
        (λ t. rw (clamped_small a (ltb-true a word_end t)) (omega (arith, ltb-true a word_end t)))
        (λ t. rw (clamped_large a (ltb-false a word_end t)) (omega arith))
        (test (ltb a word_end))

-- of the first i numbers of b those below w are clamped, and the others are zeros
pub record Clamping (w : ℕ) (b least : List ℕ) (i : ℕ) : Type 0 where
  pub long : length least ≡ max_directions
  pub numbers : (j : ℕ) → j < i → j < w → get_or least j 0 ≡ clamped (get_or b j 0)
  pub zeros : (j : ℕ) → (i ≤ j) ⊎ (w ≤ j) → get_or least j 0 ≡ 0
