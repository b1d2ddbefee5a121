-- The encoding of a problem that keeps the rules is a list of bytes.
use mathlib.Core.List.{List, [], ◌∷◌, ◌++◌}
use Prim.Native.Nat.{ℕ, ◌≤◌, ◌<◌}
use native.Mathlib.Omega.{arith}
use lib.ListN.{length}
use Rattle.model.specs.Basics.{All}
use Rattle.model.specs.Limits.{max_variables, max_objectives}
use Rattle.model.specs.Problems.{Table, Problem, Word, DomainSize, TableRules, RecordRules}
use Rattle.model.specs.Encoding.{Byte, two_bytes, four_bytes, word_bytes, head_bytes, domain_bytes, table_bytes}
use Rattle.model.specs.Encoding.{tables_bytes, encode}
use Rattle.model.proofs.Scopes.{scope_distinct, distinct_range}
use Rattle.model.proofs.Elements.{all_append, all_map}

pub words_bytes : (xs : List ℕ) → All Word xs → All Byte (word_bytes xs)
unfolding two_bytes four_bytes word_bytes
words_bytes [] h = tt
words_bytes (x ∷ xs) h = (omega arith, (omega arith, (omega arith, (omega arith, words_bytes xs h.1))))

head_bytes_lem : (q : Problem) → RecordRules q → All Byte (head_bytes q)
unfolding two_bytes head_bytes
head_bytes_lem q r = (
  omega arith,
  (
    omega arith,
    (
      omega (arith, r.few_variables),
      (
        omega (arith, r.few_objectives),
        (
          omega (arith, r.few_tables),
          (omega (arith, r.few_tables), words_bytes q.ceilings r.ceiling_words),
        ),
      ),
    ),
  ),
)

domains_bytes : (ds : List ℕ) → All DomainSize ds → All Byte (domain_bytes ds)
unfolding domain_bytes
domains_bytes [] h = tt
domains_bytes (d ∷ ds) h = (omega arith, (omega arith, (omega arith, domains_bytes ds h.1)))

module _ (p : ℕ) (ds : List ℕ) (few : p ≤ max_objectives) (small : length ds ≤ max_variables) where
  table_bytes_lem : (t : Table) → TableRules p ds t → All Byte (table_bytes t)
  unfolding table_bytes
  table_bytes_lem t r = (
    omega arith,
    (
      omega arith,
      (
        omega (arith, r.owner),
        (
          omega (arith, r.arity),
          all_append Byte t.scope (word_bytes t.costs)
              (all_map (λ v. v < length ds) Byte (λ v l. omega arith) t.scope
              (distinct_range (length ds) t.scope (scope_distinct (length ds) t.scope r.distinct)))
              (words_bytes t.costs r.words),
        ),
      ),
    ),
  )

  tables_bytes_lem : (ts : List Table) → All (TableRules p ds) ts → All Byte (tables_bytes ts)
  unfolding tables_bytes
  tables_bytes_lem [] h = tt
  tables_bytes_lem (t ∷ ts) h =
      all_append Byte (table_bytes t) (tables_bytes ts) (table_bytes_lem t h.0) (tables_bytes_lem ts h.1)

pub encoded_bytes : (q : Problem) → RecordRules q → All Byte (encode q)
unfolding encode
encoded_bytes q r =
    all_append Byte (head_bytes q ++ domain_bytes q.domains) (tables_bytes q.tables)
    (all_append Byte (head_bytes q) (domain_bytes q.domains) (head_bytes_lem q r)
    (domains_bytes q.domains r.domain_sizes))
    (tables_bytes_lem q.objectives q.domains r.few_objectives r.few_variables q.tables r.table_rules)
