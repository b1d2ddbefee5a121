-- The canonical form keeps the rules, has as many bytes as the problem, and is one of its layouts.
use mathlib.Core.Path.{◌≡◌, refl, ap, sym, ◌∙◌}
use mathlib.Core.List.{◌++◌}
use Prim.Native.Nat.{◌+◌}
use lib.ListN.{length, length-append}
use Rattle.model.specs.Problems.{Problem, RecordRules, TableRules}
use Rattle.model.specs.Encoding.{head_bytes, domain_bytes, table_bytes, tables_bytes, encode, WellFormed}
use Rattle.model.specs.Rearrangements.{Rearranged}
use Rattle.model.proofs.Rearranged.{rearranged_length, rearranged_bytes}
use Rattle.form_canonical.specs.Canonical.{turned_tables, canonical}
use Rattle.form_canonical.specs.Statements.{SameProblem}
use Rattle.form_canonical.proofs.Filing.{ordered_all, ordered_rearranged}
use Rattle.form_canonical.proofs.TurnedTables.{turned_tables_count, turned_alike, turned_tables_rules}
use Rattle.form_canonical.proofs.TurnedTables.{turned_tables_length}

-- a header says how many cost records follow, and nothing else of them
pub same_head : (q r : Problem) → q.objectives ≡ r.objectives → q.ceilings ≡ r.ceilings → q.domains ≡ r.domains
    → length q.tables ≡ length r.tables → head_bytes q ≡ head_bytes r
unfolding head_bytes
same_head q r objectives ceilings domains count = rw (objectives, ceilings, domains, count) refl

module _ (q : Problem) where
  canonical_records : Rearranged (canonical q).tables (turned_tables q.domains q.tables)
  unfolding canonical
  canonical_records = ordered_rearranged table_bytes (turned_tables q.domains q.tables)

  canonical_count : length (canonical q).tables ≡ length q.tables
  canonical_count = rearranged_length canonical_records ∙ turned_tables_count q.domains q.tables

  pub canonical_head : head_bytes (canonical q) ≡ head_bytes q
  unfolding canonical
  canonical_head = same_head (canonical q) q refl refl refl canonical_count

  module _ (rules : RecordRules q) where
    canonical_rules : RecordRules (canonical q)
    unfolding canonical
    canonical_rules = record {
      some_variable = rules.some_variable;
      few_variables = rules.few_variables;
      some_objective = rules.some_objective;
      few_objectives = rules.few_objectives;
      few_tables = rw canonical_count rules.few_tables;
      ceiling_each = rules.ceiling_each;
      ceiling_words = rules.ceiling_words;
      domain_sizes = rules.domain_sizes;
      table_rules =
          ordered_all table_bytes (TableRules q.objectives q.domains) (turned_tables q.domains q.tables)
          (turned_tables_rules q.objectives q.domains q.tables rules.table_rules);
    }

    canonical_tables : length (tables_bytes (canonical q).tables) ≡ length (tables_bytes q.tables)
    canonical_tables =
        rearranged_bytes canonical_records
        ∙ turned_tables_length q.objectives q.domains q.tables rules.table_rules

    pub canonical_long : length (encode (canonical q)) ≡ length (encode q)
    unfolding encode canonical
    canonical_long =
        rw canonical_head
        (length-append (head_bytes q ++ domain_bytes q.domains) (tables_bytes (canonical q).tables)
        ∙ ap (◌+◌ (length (head_bytes q ++ domain_bytes q.domains))) canonical_tables
        ∙ sym (length-append (head_bytes q ++ domain_bytes q.domains) (tables_bytes q.tables)))

    pub canonical_same : SameProblem (canonical q) q
    unfolding canonical
    canonical_same = record {
      objectives = refl;
      ceilings = refl;
      domains = refl;
      between = turned_tables q.domains q.tables;
      order = canonical_records;
      layout = turned_alike q.objectives q.domains q.tables rules.table_rules;
    }

pub canonical_kept : (q : Problem) → WellFormed q → WellFormed (canonical q)
canonical_kept q w =
    record { rules = canonical_rules q w.rules; short = rw (canonical_long q w.rules) w.short }
