-- What finding the gains relies on and ensures. A gain is what the least cost of the last variables is more than the
-- sum of their records' least entries.
use Rattle.std.specs.Prelude.{◌≡◌, List, ℕ, ◌+◌, ◌*◌, ◌≤◌, ◌<◌, length, get_or, drop}
use Rattle.model.specs.Limits.{max_objectives}
use Rattle.model.specs.Problems.{Problem}
use Rattle.model.specs.Suffixes.{Gain}
use Rattle.layout.specs.Layout.{gains_at, source_at}

-- the gain of objective o and the variables from k on, as a row of work memory has it
abbrev pub gain_in : List ℕ → ℕ → ℕ → ℕ
gain_in work k o = get_or work (gains_at + 4 * k + o) 0

-- every gain is sound; there is none in an objective before o, none in objective o for the variables from k or an
-- earlier one on, and none behind the last variable
pub record FoundFrom (q : Problem) (o k : ℕ) (work : List ℕ) : Type 0 where
  pub sound : (i j : ℕ) → i < q.objectives → j ≤ length q.domains → Gain q i j (gain_in work j i)
  pub before : (i j : ℕ) → i < o → j ≤ length q.domains → gain_in work j i ≡ 0
  pub above : (j : ℕ) → j ≤ k → gain_in work j o ≡ 0
  pub last : (i : ℕ) → i < max_objectives → gain_in work (length q.domains) i ≡ 0

-- what finding them leaves: everything from the records of the problem on
abbrev pub Left : List ℕ → List ℕ → Type 0
Left work work' = (drop source_at work' ≡ drop source_at work) × (length work' ≡ length work)
