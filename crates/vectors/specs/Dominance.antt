-- The dominance test for every number of objectives at once: when one vector matches or beats another by p costs.
use Rattle.std.specs.Prelude.{◌≡◌, true, List, ◌++◌, ℕ, ◌≤◌, ◌<◌, length, get_or}
use Rattle.model.specs.Vectors.{at_most}
use Rattle.vectors.specs.Fronts.{front_at_most}

-- each of the first p costs is at most the other's
abbrev pub EachAtMost : ℕ → List ℕ → List ℕ → Type 0
EachAtMost p a b = (i : ℕ) → i < p → get_or a i 0 ≤ get_or b i 0

pub record DominanceLaws : Type 0 where
  -- the test says yes exactly then
  pub sound : (p : ℕ) (a b : List ℕ) → p ≤ length a → p ≤ length b → front_at_most p a b ≡ true → EachAtMost p a b
  pub complete : (p : ℕ) (a b : List ℕ) → p ≤ length a → p ≤ length b → EachAtMost p a b → front_at_most p a b ≡ true
  -- whatever stands beyond two vectors of p costs, it says what the model says of them
  pub beyond : (p : ℕ) (a b x y : List ℕ) → length a ≡ p → length b ≡ p
      → front_at_most p (a ++ x) (b ++ y) ≡ at_most a b
