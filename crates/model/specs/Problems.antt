-- Problems: ceilings, domains, cost tables; and the rules that a problem's records keep.
use Rattle.std.specs.Prelude.{◌≡◌, Bool, true, false, not, ◌&&◌, ◌||◌, List, [], ◌∷◌, ℕ, ◌*◌, ◌≤◌, ◌<◌, eqb, ltb}
use Rattle.std.specs.Prelude.{length, get_or}
use Rattle.model.specs.Basics.{All}
use Rattle.model.specs.Limits.{max_variables, max_objectives, max_tables, max_domain, max_arity, word_end}

-- a cost record: the objective that it belongs to, its scope in the order in which it is written, its table of costs
pub record Table : Type 0 where
  pub objective : ℕ
  pub scope : List ℕ
  pub costs : List ℕ

-- p objectives, a ceiling for each; a domain size for each variable; the cost records
pub record Problem : Type 0 where
  pub objectives : ℕ
  pub ceilings : List ℕ
  pub domains : List ℕ
  pub tables : List Table

-- the number of a table's entries: the product of its scope's domain sizes
unfoldable pub size_of : List ℕ → List ℕ → ℕ
size_of ds [] = 1
size_of ds (v ∷ vs) = get_or ds v 0 * size_of ds vs

-- whether a scope has the variable v
unfoldable pub has_variable : ℕ → List ℕ → Bool
has_variable v [] = false
has_variable v (w ∷ ws) = eqb w v || has_variable v ws

-- the rule of a scope over n variables, in any order: each is below n, and none is named again after it
unfoldable pub scope_rule : ℕ → List ℕ → Bool
scope_rule n [] = true
scope_rule n (v ∷ vs) = ltb v n && (not (has_variable v vs) && scope_rule n vs)

-- variables that exist, in one scope and in those of some records
abbrev pub InRange : ℕ → List ℕ → Type 0
InRange n vs = All (λ v. v < n) vs

abbrev pub AllInRange : ℕ → List Table → Type 0
AllInRange n ts = All (λ t. InRange n t.scope) ts

-- numbers of four bytes, and domain sizes
abbrev pub Word : ℕ → Type 0
Word x = x < word_end

abbrev pub DomainSize : ℕ → Type 0
DomainSize d = (1 ≤ d) × (d ≤ max_domain)

-- the rules of a cost record, over p objectives and the domain sizes ds
pub record TableRules (p : ℕ) (ds : List ℕ) (t : Table) : Type 0 where
  pub owner : t.objective < p
  pub arity : length t.scope ≤ max_arity
  pub distinct : scope_rule (length ds) t.scope ≡ true
  pub entries : length t.costs ≡ size_of ds t.scope
  pub words : All Word t.costs

-- the record rules: what the reference, sections 4 and 5, asks of a problem, but for the length of its bytes
pub record RecordRules (q : Problem) : Type 0 where
  pub some_variable : 1 ≤ length q.domains
  pub few_variables : length q.domains ≤ max_variables
  pub some_objective : 1 ≤ q.objectives
  pub few_objectives : q.objectives ≤ max_objectives
  pub few_tables : length q.tables ≤ max_tables
  pub ceiling_each : length q.ceilings ≡ q.objectives
  pub ceiling_words : All Word q.ceilings
  pub domain_sizes : All DomainSize q.domains
  pub table_rules : All (TableRules q.objectives q.domains) q.tables
