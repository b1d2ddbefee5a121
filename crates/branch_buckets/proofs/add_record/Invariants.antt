-- The loop of `add_record`: the totals of the values passed have the record added.
use Rattle.std.proofs.Common.{drop, set}
use Rattle.model.specs.Reading.{table_objective}
use Rattle.model.specs.Costs.{cost_of}
use Rattle.costs.specs.Entries.{table_at}
use Rattle.branch_buckets.proofs.RecordSteps.{AddingRecord}
use Rattle.branch_buckets.proofs.add_record.Given as goal

abbrev pub invariant-loop-a : goal.invariant-loop-a
invariant-loop-a l =
    AddingRecord
    (table_objective (drop l.at l.s)) (λ b. cost_of l.sizes (set l.choice l.v b) (table_at l.sizes l.s l.at))
    l.initial.totals l.a l.totals
