-- The same cost records in another order, and what does not depend on their order.
-- proofs/Rearrangements.antt proves it.
use Rattle.std.specs.Prelude.{◌≡◌, List, [], ◌∷◌, ℕ}
use Rattle.model.specs.Problems.{Problem}
use Rattle.model.specs.Costs.{costs_of}
use Rattle.model.specs.Frontiers.{frontier}
use Rattle.model.specs.Bounds.{bound_of}
use Rattle.model.specs.Cuts.{half, cut_list, half_size}

-- the same elements in another order: neighbours change places, as often as one likes
pub data Rearranged {A : Type 0} : List A → List A → Type 0 where
  none : Rearranged [] []
  keep : {x : A} {xs ys : List A} → Rearranged xs ys → Rearranged (x ∷ xs) (x ∷ ys)
  swap : {x y : A} {xs ys : List A} → Rearranged xs ys → Rearranged (x ∷ y ∷ xs) (y ∷ x ∷ ys)
  then : {xs ys zs : List A} → Rearranged xs ys → Rearranged ys zs → Rearranged xs zs

-- two problems that differ in the order of their cost records alone
pub record Reordered (q r : Problem) : Type 0 where
  pub objectives : q.objectives ≡ r.objectives
  pub ceilings : q.ceilings ≡ r.ceilings
  pub domains : q.domains ≡ r.domains
  pub tables : Rearranged q.tables r.tables

pub record OrderLaws : Type 0 where
  pub costs : (q r : Problem) → Reordered q r → (xs : List ℕ) → costs_of q xs ≡ costs_of r xs
  pub list : (q r : Problem) → Reordered q r → frontier q ≡ frontier r
  pub bounds : (q r : Problem) → Reordered q r → (prefix : List ℕ) → bound_of q prefix ≡ bound_of r prefix
  pub halves : (q r : Problem) → Reordered q r → (k : ℕ) (sides : List ℕ)
      → frontier (half k q sides) ≡ frontier (half k r sides)
  pub sizes : (q r : Problem) → Reordered q r → (k : ℕ) (sides : List ℕ) → half_size k q sides ≡ half_size k r sides
  pub cuts : (q r : Problem) → Reordered q r → (sides : List ℕ) → cut_list q sides ≡ cut_list r sides
