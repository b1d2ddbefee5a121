-- What `content` leaves to show: what the calls ask for, and `content_filled`.
use Rattle.std.proofs.Common.{arith}
use Rattle.problem.proofs.Sizes.{domain_size_lem}
use Rattle.costs.proofs.ScopeVariables.{value_exists}
use Rattle.model.proofs.Zeros.{zeros_at}
use Rattle.branch_buckets.proofs.ContentRows.{planned_whole, planned_width, directed_small, content_filled}
use Rattle.branch_buckets.proofs.content.Goals as goal

pub fill_totals-requires : goal.fill_totals-requires
fill_totals-requires c =
    let q = c.requires in (
      q.0.small,
      q.1.records,
      q.0.few,
      omega (arith, q.0.few, q.0.long),
      planned_whole q.0,
      q.2,
      q.3,
      omega arith,
      zeros_at 32,
    )

pub put_rows-requires : goal.put_rows-requires
put_rows-requires c =
    let q = c.requires in
    let t = c.fill_totals in (
      q.0.sensible,
      (domain_size_lem c.args.sizes.now q.0.small c.args.v q.2).1,
      omega (arith, t.auto.totals),
      λ a o h l. (t.ensures a o h l).1,
      omega arith,
      zeros_at 64,
    )

pub add_received-requires : goal.add_received-requires
add_received-requires c =
    let q = c.requires in
    let a = c.args in
    let t = c.fill_totals in
    let r = c.put_rows in (
      q.1.children,
      q.1.children_end,
      q.0.long,
      value_exists a.sizes.now a.choice.now q.3 a.v q.2,
      (domain_size_lem a.sizes.now q.0.small a.v q.2).1,
      planned_width q.0,
      omega (arith, r.auto.rows),
      directed_small q.0 a.span a.v a.choice.now t.new.totals r.new.rows q.2 (omega (arith, t.auto.totals)) t.ensures
          r.ensures,
    )

pub returns : goal.returns
returns c =
    let q = c.requires in
    let a = c.args in
    let t = c.fill_totals in
    content_filled q.0 a.span a.v a.choice.now t.new.totals c.put_rows.new.rows q.2 (omega (arith, t.auto.totals))
    t.ensures c.put_rows.ensures _ c.add_received.ensures
