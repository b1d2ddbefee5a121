-- What `bound_of` leaves to show: each return hands what the callees ensure to one law of BoundAnswers.
use Rattle.std.proofs.Common.{◌≡◌, ◌≤◌, ◌∙◌, ℕ, List, length, take, sym, arith}
use lib.Seq.{length-take-le}
use Rattle.problem.proofs.Accepted.{read_accepted}
use Rattle.bound_call.proofs.BoundAnswers.{prefix_answer, bound_answer}
use Rattle.bound_call.proofs.bound_of.Goals as goal

pub shared_ref_as_front-sizes : goal.shared_ref_as_front-sizes
shared_ref_as_front-sizes c =
    let a = read_accepted c.args.problem.now c.in-Ok.q c.in-Ok.ensures.problem in
    omega (arith, a.room, a.few_variables)

pub returns-then-not-prefix_ok : goal.returns-then-not-prefix_ok
returns-then-not-prefix_ok c =
    let a = read_accepted c.args.problem.now c.in-Ok.q c.in-Ok.ensures.problem in
    prefix_answer _ a.none _ c.at.result c.at.ensures.reason c.at.ensures.place
    (rw (← a.domains) (sym c.prefix_ok.ensures ∙ c.if-not-prefix_ok.true))

pub bounds_of-requires : goal.bounds_of-requires
bounds_of-requires c =
    let a = read_accepted c.args.problem.now c.in-Ok.q c.in-Ok.ensures.problem in
    let ok = sym c.prefix_ok.ensures ∙ c.if-not-prefix_ok.false in
    (rw c.tables_start-start.ensures a.whole, a.few_tables, a.small, ok)

pub returns : goal.returns
returns c =
    let a = read_accepted c.args.problem.now c.in-Ok.q c.in-Ok.ensures.problem in
    let ok = sym c.prefix_ok.ensures ∙ c.if-not-prefix_ok.false in
    let said = rw c.tables_start-start.ensures at c.bounds_of.ensures in
    bound_answer _ a.none _ c.bounds_of.result (rw (← a.domains) ok)
    (rw (← a.domains, ← a.tables, ← a.objectives, ← a.variables) said)
