-- An accepted problem is open for writing its canonical form.
use mathlib.Core.Path.{◌≡◌}
use mathlib.Core.Bool.{true}
use mathlib.Core.List.{List}
use Prim.Native.Nat.{ℕ}
use lib.ListN.{length, take}
use Rattle.model.specs.Basics.{All}
use Rattle.model.specs.Problems.{scope_rule, TableRules}
use Rattle.model.specs.Encoding.{Byte}
use Rattle.model.specs.Reading.{tables_at, problem_of}
use Rattle.model.proofs.Elements.{all_map}
use Rattle.model.proofs.Reading.{accepted_rules}
use Rattle.problem.specs.declared.Problem as DQ
use Rattle.problem.specs.Says.{start_of}
use Rattle.problem.proofs.Accepted.{AcceptedReading}
use Rattle.problem.proofs.AcceptedTables.{sizes_held_lem, tables_begin, tables_held}
use Rattle.form_call.specs.Opened.{Opened}

module _ (s : List ℕ) (r : DQ.Problem) (a : AcceptedReading s r) where
  abbrev sizes : List ℕ
  sizes = take r.head.variables r.sizes

  distinct : All Byte s
      → All (λ t. scope_rule (length sizes) t.scope ≡ true)
      (tables_at r.head.tables sizes s (start_of r.head))
  distinct bytes =
      let q = problem_of s in
      rw (tables_held s r a, sizes_held_lem s r a)
      (all_map (TableRules q.objectives q.domains) (λ t. scope_rule (length q.domains) t.scope ≡ true)
      (λ t h. h.distinct) q.tables (accepted_rules s bytes a.none).table_rules)

  pub opened : All Byte s → Opened s r.head sizes
  opened bytes =
      record {
        fine = a.none;
        domains = sizes_held_lem s r a;
        tables = tables_held s r a;
        few = a.few_tables;
        begins = tables_begin s r a;
        turnable = record { whole = a.whole; small = a.small; distinct = distinct bytes; short = a.short };
      }
