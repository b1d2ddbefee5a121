-- The problem that is written, with its forbidden entries as the upper bound: it keeps the rules and the length of its
-- bytes, and it is the problem itself where nothing is forbidden.
use mathlib.Core.Path.{◌≡◌, refl, sym, ap, ap₂, ◌∙◌}
use mathlib.Core.Bool.{false}
use mathlib.Core.List.{List, [], ◌∷◌, ◌++◌, map}
use Prim.Native.Nat.{ℕ, ◌+◌, ◌≤◌}
use native.Mathlib.Omega.{arith}
use lib.Dec.{eqb, ltb}
use lib.ListN.{length, length-append, length-map}
use borrow.Author.Tests.{ltb-false, ne_eqb}
use Rattle.model.specs.Basics.{All}
use Rattle.model.specs.Problems.{Table, Problem, Word, TableRules, RecordRules}
use Rattle.model.specs.Encoding.{head_bytes, domain_bytes, table_bytes, tables_bytes, encode}
use Rattle.model.specs.Encoding.{WellFormed}
use Rattle.model.specs.Costs.{forbidden}
use Rattle.model.proofs.Bits.{pick_both, or-false}
use Rattle.text_networks.specs.Networks.{max_bound}
use Rattle.text_networks.specs.NetworkTexts.{upper_bound_of, written_cost, written_table, written}
use Rattle.text_networks.specs.Conversions.{unwritable}
use Rattle.text_networks.specs.Statements.{Writable, Permitted}
use Rattle.text_networks.proofs.TextLength.{table_long}

module _ (bound : ℕ) where
  -- ## the rules

  module _ (word : Word bound) where
    costs_fit : (cs : List ℕ) → All Word cs → All Word (map (written_cost bound) cs)
    costs_fit [] h = tt
    costs_fit (c ∷ cs) h = (pick_both Word (eqb c forbidden) word h.0, costs_fit cs h.1)

    table_ruled : (p : ℕ) (ds : List ℕ) (t : Table) → TableRules p ds t → TableRules p ds (written_table bound t)
    table_ruled p ds t r =
        record {
          owner = r.owner;
          arity = r.arity;
          distinct = r.distinct;
          entries = length-map t.costs (written_cost bound) ∙ r.entries;
          words = costs_fit t.costs r.words;
        }

    tables_ruled : (p : ℕ) (ds : List ℕ) (ts : List Table) → All (TableRules p ds) ts
        → All (TableRules p ds) (map (written_table bound) ts)
    tables_ruled p ds [] h = tt
    tables_ruled p ds (t ∷ ts) h = (table_ruled p ds t h.0, tables_ruled p ds ts h.1)

  -- ## how long the records are

  table_kept : (t : Table) → length (table_bytes (written_table bound t)) ≡ length (table_bytes t)
  table_kept t =
      omega (
        arith,
        table_long (written_table bound t),
        table_long t,
        length-map t.costs (written_cost bound),
      )

  tables_kept : (ts : List Table) → length (tables_bytes (map (written_table bound) ts)) ≡ length (tables_bytes ts)
  unfolding tables_bytes
  tables_kept [] = refl
  tables_kept (t ∷ ts) =
      omega (
        arith,
        length-append (table_bytes (written_table bound t)) (tables_bytes (map (written_table bound) ts)),
        length-append (table_bytes t) (tables_bytes ts),
        table_kept t,
        tables_kept ts,
      )

  -- ## nothing is forbidden

  costs_same : (cs : List ℕ) → All (λ c. c ≡ forbidden → ⊥) cs → map (written_cost bound) cs ≡ cs
  costs_same [] h = refl
  costs_same (c ∷ cs) h = rw (ne_eqb c forbidden h.0) (ap (λ (l : List ℕ). c ∷ l) (costs_same cs h.1))

  tables_same : (ts : List Table) → All (λ t. All (λ c. c ≡ forbidden → ⊥) t.costs) ts
      → map (written_table bound) ts ≡ ts
  tables_same [] h = refl
  tables_same (t ∷ ts) h =
      ap₂ (λ (cs : List ℕ) (us : List Table). record { objective = t.objective; scope = t.scope; costs = cs } ∷ us)
      (costs_same t.costs h.0) (tables_same ts h.1)

-- ## the whole problem

pub written_long : (q : Problem) → length (encode (written q)) ≡ length (encode q)
unfolding written encode head_bytes
written_long q =
    let us = map (written_table (upper_bound_of q)) q.tables in
    let front = head_bytes q ++ domain_bytes q.domains in
    rw length-map
    (length-append front (tables_bytes us)
    ∙ ap (λ (n : ℕ). length front + n) (tables_kept (upper_bound_of q) q.tables)
    ∙ sym (length-append front (tables_bytes q.tables)))

written_rules : (q : Problem) → RecordRules q → upper_bound_of q ≤ max_bound → RecordRules (written q)
unfolding written
written_rules q r bounded =
    record {
      some_variable = r.some_variable;
      few_variables = r.few_variables;
      some_objective = r.some_objective;
      few_objectives = r.few_objectives;
      few_tables = rw length-map r.few_tables;
      ceiling_each = r.ceiling_each;
      ceiling_words = r.ceiling_words;
      domain_sizes = r.domain_sizes;
      table_rules =
          tables_ruled (upper_bound_of q) (omega arith) q.objectives q.domains q.tables r.table_rules;
    }

-- a problem that is not refused
pub formed_writable : (q : Problem) → WellFormed q → unwritable q ≡ false → Writable q
formed_writable q w h =
    let (few, low) = or-false (ltb 1 q.objectives) (ltb max_bound (upper_bound_of q)) h in
    record {
      formed = w;
      one = omega (arith, ltb-false 1 q.objectives few, w.rules.some_objective);
      bounded = ltb-false max_bound (upper_bound_of q) low;
    }

-- a text can hold it where it can hold the problem
pub written_writable : (q : Problem) → Writable q → Writable (written q)
unfolding written
written_writable q w =
    record {
      formed = record {
        rules = written_rules q w.formed.rules w.bounded;
        short = omega (arith, written_long q, w.formed.short);
      };
      one = w.one;
      bounded = w.bounded;
    }

pub written_same : (q : Problem) → Permitted q → written q ≡ q
unfolding written
written_same q h =
    ap (λ (ts : List Table).
    record { objectives = q.objectives; ceilings = q.ceilings; domains = q.domains; tables = ts })
    (tables_same (upper_bound_of q) q.tables h)
