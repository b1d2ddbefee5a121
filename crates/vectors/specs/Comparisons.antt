-- What one vector is to another: the four answers of the dominance test, each in the rules' words, and their laws.
use Rattle.std.specs.Prelude.{◌≡◌, Bool, true, false, List, ◌++◌, ℕ, take}
use Rattle.model.specs.Vectors.{at_most, same, beats}
use Rattle.vectors.specs.declared.Comparison.{Comparison}
use Rattle.vectors.specs.declared.Comparison.TheVariants.{Beats, Beaten, Same, Neither}
use Rattle.vectors.specs.Fronts.{front_at_most}

-- what each answer says of a and b (reference, section 2)
abbrev pub Says : Comparison → List ℕ → List ℕ → Type 0
Says Beats a b = beats a b ≡ true
Says Beaten a b = beats b a ≡ true
Says Same a b = same a b ≡ true
Says Neither a b = (at_most a b ≡ false) × (at_most b a ≡ false)

-- by the first p costs, whatever stands beyond them
abbrev pub FrontSays : ℕ → Comparison → List ℕ → List ℕ → Type 0
FrontSays p r a b = Says r (take p a) (take p b)

-- the answer about the vectors exchanged
abbrev pub exchanged : Comparison → Comparison
exchanged Beats = Beaten
exchanged Beaten = Beats
exchanged Same = Same
exchanged Neither = Neither

-- whether the first matches or beats the second
abbrev pub matches : Comparison → Bool
matches Beats = true
matches Beaten = false
matches Same = true
matches Neither = false

-- the laws of the four answers, of any two vectors with p costs or more
pub record ComparisonLaws (p : ℕ) (a b : List ℕ) : Type 0 where
  -- exactly one answer is true
  pub some : (r : Comparison) × FrontSays p r a b
  pub one : (r s : Comparison) → FrontSays p r a b → FrontSays p s a b → r ≡ s
  -- with the vectors exchanged, beats and beaten change places and the other two stay
  pub exchange : (r : Comparison) → FrontSays p r a b → FrontSays p (exchanged r) b a
  -- each answer against "matches or beats", both ways
  pub forth : (r : Comparison) → FrontSays p r a b → front_at_most p a b ≡ matches r
  pub back : (r : Comparison) → FrontSays p r a b → front_at_most p b a ≡ matches (exchanged r)
  pub told : (r : Comparison) → front_at_most p a b ≡ matches r → front_at_most p b a ≡ matches (exchanged r)
      → FrontSays p r a b
  -- whatever stands beyond the first p costs
  pub beyond : (r : Comparison) (x y : List ℕ) → FrontSays p r a b → FrontSays p r (take p a ++ x) (take p b ++ y)
