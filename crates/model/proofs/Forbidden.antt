-- Forbidden entries among what records give, each by a function of the record.
use mathlib.Core.Path.{◌≡◌, refl}
use mathlib.Core.Logic.{⊎_elim}
use mathlib.Core.Bool.{true, false}
use mathlib.Core.List.Memᴰ.{head as here}
use mathlib.Core.List.Memᴰ.{tail as there}
use mathlib.Core.List.{List, [], ◌∷◌, Memᴰ as In}
use mathlib.Core.List.Memᴰ.{cases_cons as in-cases}
use mathlib.Core.List.Memᴰ.{not-nil as in-none}
use Prim.Native.Nat.{ℕ, ◌≤◌}
use native.Mathlib.Omega.{arith}
use lib.Dec.{eqb}
use borrow.Author.Tests.{eqb-true, eqb-false, eq-eqb}
use Rattle.model.specs.Basics.{All}
use Rattle.model.specs.Problems.{Table}
use Rattle.model.specs.Costs.{total, forbidden, meets_forbidden}
use Rattle.model.proofs.Bits.{true_false, or-false, or_cases}

module _ (f : Table → ℕ) where
  -- one of the records gives it
  pub meets_in : (ts : List Table) → meets_forbidden f ts ≡ true → (t : Table) × In t ts × (f t ≡ forbidden)
  unfolding meets_forbidden
  meets_in [] h = absurd (true_false h refl)
  meets_in (t ∷ ts) h =
      ⊎_elim
      (λ e. (t, here refl, eqb-true (f t) forbidden e))
      (λ r. let (u, m, e) = meets_in ts r in (u, there m, e))
      (or_cases (eqb (f t) forbidden) (meets_forbidden f ts) h)

  -- or none does
  pub meets_none : (ts : List Table) → meets_forbidden f ts ≡ false → All (λ t. f t ≡ forbidden → ⊥) ts
  unfolding meets_forbidden
  meets_none [] h = tt
  meets_none (t ∷ ts) h =
      let (first, others) = or-false (eqb (f t) forbidden) (meets_forbidden f ts) h in
      (eqb-false (f t) forbidden first, meets_none ts others)

  -- what a record gives is part of its objective's sum
  pub total_in : (t : Table) (ts : List Table) → In t ts → f t ≤ total t.objective f ts
  unfolding total
  total_in t [] m = absurd (in-none m)
  total_in t (u ∷ ts) m =
      ⊎_elim
      (λ (e : t ≡ u). rw (e, eq-eqb u.objective u.objective refl) (omega arith))
      (λ n. omega (arith, total_in t ts n))
      (in-cases m)
