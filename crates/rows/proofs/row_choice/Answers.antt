-- `row_choice` meets its contract: value 4 k + j is byte j of number k.
use Rattle.std.proofs.Common.{◌≡◌, ◌/◌, ◌%◌, ℕ, refl, ap₂, ◌∷◌, arith, add-zero}
use Rattle.rows.specs.Rows.{value_at, values_in, tabulated}
use Rattle.rows.proofs.row_choice.Goals as goal

low : (n : ℕ) → n % 256 ≡ n / 1 % 256
low n = omega arith

pub returns : goal.returns
unfolding values_in tabulated value_at
returns c =
    rw (
      add-zero,
      c.to_le_bytes.ensures,
      c.to_le_bytes-2.ensures,
      c.to_le_bytes-3.ensures,
      c.to_le_bytes-4.ensures,
      c.to_le_bytes-5.ensures,
      c.to_le_bytes-6.ensures,
    )
    (ap₂ ◌∷◌ (low _) (ap₂ ◌∷◌ refl (ap₂ ◌∷◌ refl (ap₂ ◌∷◌ refl
    (ap₂ ◌∷◌ (low _) (ap₂ ◌∷◌ refl (ap₂ ◌∷◌ refl (ap₂ ◌∷◌ refl
    (ap₂ ◌∷◌ (low _) (ap₂ ◌∷◌ refl (ap₂ ◌∷◌ refl (ap₂ ◌∷◌ refl
    (ap₂ ◌∷◌ (low _) (ap₂ ◌∷◌ refl (ap₂ ◌∷◌ refl (ap₂ ◌∷◌ refl
    (ap₂ ◌∷◌ (low _) (ap₂ ◌∷◌ refl (ap₂ ◌∷◌ refl (ap₂ ◌∷◌ refl
    (ap₂ ◌∷◌ (low _) (ap₂ ◌∷◌ refl (ap₂ ◌∷◌ refl (ap₂ ◌∷◌ refl refl))))))))))))))))))))))))
