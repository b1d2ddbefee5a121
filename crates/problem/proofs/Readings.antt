-- An accepted reading, as parts of the problem that was read: how many objectives and variables it has, its domain
-- sizes, its ceilings and its tables.
use mathlib.Core.Path.{◌≡◌, refl, sym, ap, ◌∙◌}
use mathlib.Core.List.{List}
use Prim.Native.Nat.{ℕ}
use native.Mathlib.Omega.{arith}
use lib.ListN.{length, take, drop}
use lib.Seq.{length-take-le, take_at}
use Rattle.model.specs.Basics.{All}
use Rattle.model.specs.Problems.{DomainSize}
use Rattle.model.specs.Reading.{words_in, head_objectives, tables_at, problem_of}
use Rattle.model.specs.Calls.{padded}
use Rattle.model.proofs.Words.{length_words_in}
use Rattle.problem.specs.declared.Problem as DQ
use Rattle.problem.specs.Says.{start_of}
use Rattle.problem.proofs.Accepted.{AcceptedReading}

module _ (s : List ℕ) (r : DQ.Problem) (a : AcceptedReading s r) where
  abbrev sizes : List ℕ
  sizes = take r.head.variables r.sizes

  pub sized : length sizes ≡ r.head.variables
  sized = length-take-le r.head.variables r.sizes (omega (arith, a.room, a.few_variables))

  pub objectives_are : r.head.objectives ≡ (problem_of s).objectives
  unfolding problem_of
  objectives_are = a.objectives

  pub domains_are : sizes ≡ (problem_of s).domains
  unfolding problem_of
  domains_are = a.domains

  pub variables_are : r.head.variables ≡ length (problem_of s).domains
  variables_are = sym sized ∙ ap length domains_are

  pub ceilings_are : take r.head.objectives r.head.ceilings ≡ (problem_of s).ceilings
  unfolding problem_of padded
  ceilings_are =
      rw (a.ceilings, a.objectives)
      (take_at (words_in (head_objectives s) (drop 6 s)) _ (head_objectives s)
      (length_words_in (head_objectives s) (drop 6 s)))

  pub tables_are : tables_at r.head.tables sizes s (start_of r.head) ≡ (problem_of s).tables
  unfolding problem_of
  tables_are = rw (a.domains, a.tables, a.objectives, a.variables) refl

  -- the domains are sizes of domains
  pub domains_small : All DomainSize (problem_of s).domains
  domains_small = rw (← domains_are) a.small
