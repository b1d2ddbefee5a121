-- Every sum of costs and every bound stays below 2^40: at most 256 records, each entry below 2^32.
use mathlib.Core.List.{List}
use Prim.Native.Nat.{ℕ, ◌<◌}
use native.Mathlib.Omega.{arith}
use lib.ListN.{get_or}
use Rattle.model.specs.Basics.{All}
use Rattle.model.specs.Limits.{word_end, sum_end}
use Rattle.model.specs.Problems.{Table, Problem, Word, TableRules, RecordRules}
use Rattle.model.specs.Costs.{entry_from, cost_of, total}
use Rattle.model.specs.Bounds.{least_of}
use Rattle.model.proofs.Elements.{all_at, all_map}
use Rattle.model.proofs.LeastEntry.{least_limit}
use Rattle.model.proofs.Totals.{total_limit}

-- an entry that is missing reads as 0, which is below the limit too
total_small : (q : Problem) → RecordRules q → (o : ℕ) (f : Table → ℕ)
    → ((t : Table) → ((i : ℕ) → get_or t.costs i 0 < word_end) → f t < word_end) → total o f q.tables < sum_end
total_small q r o f h =
    let each : All (λ t. f t < word_end) q.tables = all_map (TableRules q.objectives q.domains) _
    (λ t rules. h t (λ i. all_at Word t.costs rules.words i 0 (omega arith))) q.tables r.table_rules in
    omega (arith, total_limit o word_end f q.tables each, r.few_tables)

pub sum_limit : (q : Problem) → RecordRules q → (o : ℕ) (x : List ℕ)
    → total o (cost_of q.domains x) q.tables < sum_end
unfolding cost_of
sum_limit q r o x = total_small q r o (cost_of q.domains x) (λ t h. h (entry_from 0 q.domains t.scope x))

pub bound_limit : (q : Problem) → RecordRules q → (o : ℕ) (pre : List ℕ)
    → total o (least_of q.domains pre) q.tables < sum_end
bound_limit q r o pre = total_small q r o (least_of q.domains pre) (λ t. least_limit word_end q.domains pre t)
