-- What `add_record` leaves to show: the entries are in the table, and each turn adds the record to one more value.
use Rattle.std.proofs.Common.{◌≡◌, set, ap, sym, ◌∙◌, arith}
use Rattle.model.specs.Reading.{table_of}
use Rattle.model.specs.Costs.{cost_of}
use Rattle.problem.proofs.Sizes.{domain_size_lem}
use Rattle.problem.proofs.Scopes.{whole_inside, whole_ends}
use Rattle.costs.specs.Entries.{table_at, entry_at}
use Rattle.branch_buckets.proofs.RecordSteps.{adding_next}
use Rattle.branch_buckets.proofs.add_record.Goals as goal

pub objective_at-o-requires : goal.objective_at-o-requires
objective_at-o-requires c = whole_inside c.args.sizes.now c.args.s.now c.args.at c.requires.0

pub overflow_mul-a : goal.overflow_mul-a
overflow_mul-a c =
    omega (
      arith,
      c.entry_run-r.ensures c.loop-a.a (omega arith),
      whole_ends c.args.sizes.now c.args.s.now c.args.at c.requires.0,
    )

pub overflow_add-first : goal.overflow_add-first
overflow_add-first c =
    omega (
      arith,
      c.entry_run-r.ensures c.loop-a.a (omega arith),
      whole_ends c.args.sizes.now c.args.s.now c.args.at c.requires.0,
    )

pub loop-a-preserved : goal.loop-a-preserved
unfolding cost_of table_of
loop-a-preserved c =
    let q = c.requires in
    let a = c.loop-a.a in
    let cost = c.table_entry in
    let few = domain_size_lem c.args.sizes.now q.1 c.args.v q.2 in
    let is : cost.result
    ≡ cost_of c.args.sizes.now (set c.args.choice.now c.args.v a)
    (table_at c.args.sizes.now c.args.s.now c.args.at) = cost.ensures.0
    ∙ ap (entry_at c.args.sizes.now c.args.s.now c.args.at) (sym (c.entry_run-r.ensures a (omega arith)).0) in
    adding_next c.loop-a.invariant cost.result q.0.owner (omega (arith, q.0.owner)) is cost.ensures.1 _
    c.objective_at-o.ensures
