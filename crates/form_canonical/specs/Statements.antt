-- The promises about the canonical form as statements over the definitions. proofs/Statements.antt proves them.
use Rattle.std.specs.Prelude.{◌≡◌, true, List, [], ◌∷◌, ℕ, length}
use Rattle.model.specs.Basics.{All}
use Rattle.model.specs.Problems.{Table, Problem, has_variable}
use Rattle.model.specs.Encoding.{Byte, encode, WellFormed}
use Rattle.model.specs.Reading.{verdict_of, problem_of}
use Rattle.model.specs.Costs.{is_choice, cost_of, costs_of}
use Rattle.model.specs.Frontiers.{frontier}
use Rattle.model.specs.Rearrangements.{Rearranged}
use Rattle.form_canonical.specs.Canonical.{canonical, canonical_bytes}

-- one cost record in another layout: the same variables in its scope, and the same entry for every choice
pub record Turning (ds : List ℕ) (t u : Table) : Type 0 where
  pub objective : t.objective ≡ u.objective
  pub variables : (v : ℕ) → has_variable v t.scope ≡ has_variable v u.scope
  pub entries : (xs : List ℕ) → is_choice ds xs ≡ true → cost_of ds xs t ≡ cost_of ds xs u

abbrev pub TurnedAlike : List ℕ → List Table → List Table → Type 0
TurnedAlike ds [] us = us ≡ []
TurnedAlike ds (t ∷ ts) [] = ⊥
TurnedAlike ds (t ∷ ts) (u ∷ us) = Turning ds t u × TurnedAlike ds ts us

-- one problem in two layouts: cost records in another order, and each with its scope and its table turned alike
pub record SameProblem (q r : Problem) : Type 0 where
  pub objectives : q.objectives ≡ r.objectives
  pub ceilings : q.ceilings ≡ r.ceilings
  pub domains : q.domains ≡ r.domains
  pub between : List Table
  pub order : Rearranged q.tables between
  pub layout : TurnedAlike q.domains between r.tables

pub record CanonicalLaws : Type 0 where
  -- the form keeps the rules, is as long as the problem, and is one of its layouts
  pub kept : (q : Problem) → WellFormed q → WellFormed (canonical q)
  pub long : (q : Problem) → WellFormed q → length (encode (canonical q)) ≡ length (encode q)
  pub same : (q : Problem) → WellFormed q → SameProblem (canonical q) q
  -- layouts of one problem have the same form, the same costs and the same frontier
  pub same_form : (q r : Problem) → WellFormed q → WellFormed r → SameProblem q r
      → encode (canonical q) ≡ encode (canonical r)
  pub costs : (q r : Problem) → SameProblem q r → (xs : List ℕ) → is_choice q.domains xs ≡ true
      → costs_of q xs ≡ costs_of r xs
  pub list : (q r : Problem) → SameProblem q r → frontier q ≡ frontier r
  -- conversely, bytes that are not refused and have the same form have the same frontier
  pub form_tells : (s t : List ℕ) → All Byte s → All Byte t → (verdict_of s).number ≡ 0 → (verdict_of t).number ≡ 0
      → canonical_bytes s ≡ canonical_bytes t → frontier (problem_of s) ≡ frontier (problem_of t)
  -- the form of the form is itself
  pub form_again : (s : List ℕ) → All Byte s → (verdict_of s).number ≡ 0
      → canonical_bytes (canonical_bytes s) ≡ canonical_bytes s
