-- What a reading that does not refuse holds: the problem's domain sizes and its cost records.
use mathlib.Core.Path.{◌≡◌, refl, sym}
use mathlib.Core.List.{List}
use Prim.Native.Nat.{ℕ, ◌≤◌}
use native.Mathlib.Omega.{arith}
use lib.ListN.{length, take}
use lib.Seq.{length-take-le}
use Rattle.model.specs.Reading.{tables_start, tables_at, problem_of}
use Rattle.problem.specs.declared.Problem as DQ
use Rattle.problem.specs.Says.{start_of}
use Rattle.problem.proofs.Accepted.{AcceptedReading}

module _ (s : List ℕ) (r : DQ.Problem) (a : AcceptedReading s r) where
  -- the domain sizes are the first n of the array
  pub within : r.head.variables ≤ length r.sizes
  within = omega (arith, a.room, a.few_variables)

  pub taken : r.head.variables ≡ length (take r.head.variables r.sizes)
  taken = sym (length-take-le r.head.variables r.sizes within)

  pub sizes_held_lem : take r.head.variables r.sizes ≡ (problem_of s).domains
  unfolding problem_of
  sizes_held_lem = a.domains

  -- the cost records, from where they start on, are the problem's tables
  pub tables_begin : start_of r.head ≡ tables_start s
  tables_begin = rw (a.objectives, a.variables) refl

  pub tables_held : tables_at r.head.tables (take r.head.variables r.sizes) s (start_of r.head)
      ≡ (problem_of s).tables
  unfolding problem_of
  tables_held = rw (a.domains, a.variables, a.objectives, a.tables) refl
