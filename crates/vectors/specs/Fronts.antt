-- Two vectors by their first p numbers, whatever stands beyond them: four costs of which p count, or a bound in every
-- direction.
use Rattle.std.specs.Prelude.{Bool, List, ℕ, ◌<◌, take}
use Rattle.model.specs.Vectors.{at_most, earlier}
use Rattle.model.specs.Core.{under}

abbrev pub front_under : ℕ → List ℕ → List ℕ → Bool
front_under p a ceilings = under (take p a) (take p ceilings)

abbrev pub front_at_most : ℕ → List ℕ → List ℕ → Bool
front_at_most p a b = at_most (take p a) (take p b)

abbrev pub front_earlier : ℕ → List ℕ → List ℕ → Bool
front_earlier p a b = earlier (take p a) (take p b)

-- numbers of which two cannot wrap when they are added: below 2^63
abbrev pub Half : ℕ → Type 0
Half x = x < 9223372036854775808
