-- What callers get of an accepted problem: whole cost records, sizes of domains, and the plain facts of what was read.
use mathlib.Core.Path.{◌≡◌, ap}
use mathlib.Core.List.{List}
use Prim.Native.Nat.{ℕ, ◌≤◌}
use lib.ListN.{length, take}
use Rattle.model.specs.Basics.{All}
use Rattle.model.specs.Limits.{max_bytes, max_variables, max_objectives, max_tables}
use Rattle.model.specs.Problems.{DomainSize}
use Rattle.model.specs.Reading.{head_variables, head_objectives, head_tables, head_length, domains_of, tables_start}
use Rattle.model.specs.Reading.{verdict_of, problem_of}
use Rattle.model.specs.Calls.{padded}
use Rattle.model.proofs.DomainRecords.{domain_sizes, domains_end}
use Rattle.model.proofs.Reading.{accepted_parts}
use Rattle.problem.specs.declared.Problem as DQ
use Rattle.problem.specs.Records.{AllWhole}
use Rattle.problem.specs.Says.{start_of, Reads}
use Rattle.problem.proofs.DomainSteps.{domains_taken, domains_room}
use Rattle.problem.proofs.TableSteps.{all_whole}

module _ (s : List ℕ) (e : (verdict_of s).number ≡ 0) where
  pub accepted_sizes : All DomainSize (domains_of s)
  accepted_sizes = domain_sizes (head_variables s) s (head_length s) (accepted_parts s e).domains

  pub accepted_whole : AllWhole (head_tables s) (domains_of s) s (tables_start s)
  accepted_whole =
      let a = accepted_parts s e in
      all_whole (head_tables s) (head_objectives s) (domains_of s) s (tables_start s) a.head.objectives.1
      (domains_end (head_variables s) s (head_length s) a.head.long a.domains) a.tables

-- what `read_problem` gives where the problem is accepted
pub record AcceptedReading (s : List ℕ) (r : DQ.Problem) : Type 0 where
  pub none : (verdict_of s).number ≡ 0
  pub short : length s ≤ max_bytes
  pub variables : r.head.variables ≡ head_variables s
  pub objectives : r.head.objectives ≡ head_objectives s
  pub tables : r.head.tables ≡ head_tables s
  pub ceilings : r.head.ceilings ≡ padded max_objectives (problem_of s).ceilings
  pub few_variables : (1 ≤ r.head.variables) × (r.head.variables ≤ max_variables)
  pub few_objectives : (1 ≤ r.head.objectives) × (r.head.objectives ≤ max_objectives)
  pub few_tables : r.head.tables ≤ max_tables
  pub room : length r.sizes ≡ max_variables
  pub domains : take r.head.variables r.sizes ≡ domains_of s
  pub small : All DomainSize (take r.head.variables r.sizes)
  pub whole : AllWhole r.head.tables (take r.head.variables r.sizes) s (start_of r.head)

pub read_accepted : (s : List ℕ) (r : DQ.Problem) → Reads s r → AcceptedReading s r
unfolding problem_of
read_accepted s r reads =
    let e : (verdict_of s).number ≡ 0 = ap (λ v. v.number) reads.accepts in
    let a = accepted_parts s e in
    let n : r.head.variables ≡ head_variables s = reads.variables in
    let p : r.head.objectives ≡ head_objectives s = reads.objectives in
    let t : r.head.tables ≡ head_tables s = reads.tables in
    let filled : r.sizes ≡ padded max_variables (domains_of s) = reads.sizes in
    let domains : take r.head.variables r.sizes ≡ domains_of s =
    rw (filled, n) (domains_taken (head_variables s) s (head_length s)) in
    record {
      none = e;
      short = a.short;
      variables = n;
      objectives = p;
      tables = t;
      ceilings = reads.ceilings;
      few_variables = rw n a.head.variables;
      few_objectives = rw p a.head.objectives;
      few_tables = rw t a.head.tables;
      room = rw filled (domains_room (head_variables s) s (head_length s) a.head.variables.1);
      domains = domains;
      small = rw domains (accepted_sizes s e);
      whole = rw (domains, n, p, t) (accepted_whole s e);
    }
