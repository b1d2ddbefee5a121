-- What the reading functions ensure, with a name for each part.
use Rattle.std.specs.Prelude.{◌≡◌, List, ℕ, ◌+◌, ◌*◌, drop, Result, IfOk}
use Rattle.model.specs.Limits.{max_variables, max_objectives}
use Rattle.model.specs.Refusals.{Verdict, accepted}
use Rattle.model.specs.Reasons.{told, number_in}
use Rattle.model.specs.Reading.{words_in, head_variables, head_objectives, head_tables, domains_verdict, domains_at}
use Rattle.model.specs.Reading.{table_number, table_objective, table_arity, table_length, verdict_of, problem_of}
use Rattle.model.specs.Calls.{padded}
use Rattle.model.specs.declared.Header as DH
use Rattle.model.specs.declared.CostRecord as DC
use Rattle.model.specs.declared.Reason.{Reason}
use Rattle.model.specs.declared.Refusal.{Refusal}
use Rattle.problem.specs.declared.Problem as DQ

-- the header of s, where its number is 0
pub record HeadSays (s : List ℕ) (h : DH.Header) : Type 0 where
  pub variables : h.variables ≡ head_variables s
  pub objectives : h.objectives ≡ head_objectives s
  pub tables : h.tables ≡ head_tables s
  pub ceilings : h.ceilings ≡ padded max_objectives (words_in (head_objectives s) (drop 6 s))

-- where the cost records start: behind the header's single fields, its ceilings and the domain records
abbrev pub start_of : DH.Header → ℕ
start_of h = 6 + 4 * h.objectives + 3 * h.variables

-- n domain records from `at` on
pub record DomainsSays (s : List ℕ) (at n : ℕ) (r : Result (List ℕ) Refusal) : Type 0 where
  pub verdict : told r ≡ domains_verdict n s at
  pub sizes : IfOk r (λ sizes. sizes ≡ padded max_variables (domains_at n s at))

-- the cost record that starts the list s: its number, and where that is 0 its length
pub record ScanSays (p : ℕ) (ds s : List ℕ) (r : Result ℕ Reason) : Type 0 where
  pub number : number_in r ≡ table_number p ds s
  pub width : IfOk r (λ n. n ≡ table_length ds s)

-- a verdict
abbrev pub RefusalSays : {A : Type 0} → Verdict → Result A Refusal → Type 0
RefusalSays v r = told r ≡ v

-- the fields of an accepted cost record at `at`
pub record RecordSays (ds s : List ℕ) (at : ℕ) (r : DC.CostRecord) : Type 0 where
  pub objective : r.objective ≡ table_objective (drop at s)
  pub arity : r.arity ≡ table_arity (drop at s)
  pub start : r.at ≡ at
  pub width : r.length ≡ table_length ds (drop at s)

-- what reading the bytes s gives where they are accepted: the header and the domain sizes
pub record Reads (s : List ℕ) (q : DQ.Problem) : Type 0 where
  pub accepts : verdict_of s ≡ accepted
  pub variables : q.head.variables ≡ head_variables s
  pub objectives : q.head.objectives ≡ head_objectives s
  pub tables : q.head.tables ≡ head_tables s
  pub ceilings : q.head.ceilings ≡ padded max_objectives (problem_of s).ceilings
  pub sizes : q.sizes ≡ padded max_variables (problem_of s).domains

-- the whole: the verdict, and where it does not refuse what was read
pub record ReadSays (s : List ℕ) (r : Result DQ.Problem Refusal) : Type 0 where
  pub verdict : told r ≡ verdict_of s
  pub problem : IfOk r (λ q. Reads s q)
