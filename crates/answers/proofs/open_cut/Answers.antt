-- What `open_cut` leaves to show: each return hands what the callees ensure to one law of CutRefusals.
use Rattle.std.proofs.Common.{◌∙◌, ℕ, List, sym, arith}
use Rattle.std.proofs.lemmas.Result.{err_from_is_err_and}
use Rattle.problem.proofs.Accepted.{read_accepted}
use Rattle.answers.proofs.CutRefusals.{early_cut, sides_cut, linked_cut, sides_told, sides_sized, linked_told}
use Rattle.answers.proofs.open_cut.Goals as goal

pub returns-in_err-q-clause-verdict : goal.returns-in_err-q-clause-verdict
returns-in_err-q-clause-verdict c =
    let p = err_from_is_err_and c.from_residual.result c.from_residual.ensures.1 in
    rw (p.1, p.2) (early_cut c.args.problem.now c.args.sides.now c.args.memory _ c.in_err-q.ensures.verdict)

pub returns-then-not-sides_ok-clause-verdict : goal.returns-then-not-sides_ok-clause-verdict
returns-then-not-sides_ok-clause-verdict c =
    let s : List ℕ = c.args.problem.now in
    let ss : List ℕ = c.args.sides.now in
    let a = read_accepted s c.in_ok-q.q c.in_ok-q.ensures.problem in
    let bad = sym (sides_told s c.in_ok-q.q a ss _ c.sides_ok.ensures) ∙ c.if-not-sides_ok.true in
    rw (c.at.ensures.reason, c.at.ensures.place) (sides_cut s ss c.args.memory c.in_ok-q.ensures.verdict bad)

pub shared_ref_as_front-first_linked : goal.shared_ref_as_front-first_linked
shared_ref_as_front-first_linked c =
    let a = read_accepted c.args.problem.now c.in_ok-q.q c.in_ok-q.ensures.problem in
    omega (arith, a.room, a.few_variables)

pub first_linked-requires : goal.first_linked-requires
first_linked-requires c =
    let s : List ℕ = c.args.problem.now in
    let ss : List ℕ = c.args.sides.now in
    let a = read_accepted s c.in_ok-q.q c.in_ok-q.ensures.problem in
    let good = sym (sides_told s c.in_ok-q.q a ss _ c.sides_ok.ensures) ∙ c.if-not-sides_ok.false in
    (rw c.tables_start-start.ensures a.whole, a.small, sides_sized s c.in_ok-q.q a ss good)

pub returns-in_err-first_linked-clause-verdict : goal.returns-in_err-first_linked-clause-verdict
returns-in_err-first_linked-clause-verdict c =
    let s : List ℕ = c.args.problem.now in
    let ss : List ℕ = c.args.sides.now in
    let a = read_accepted s c.in_ok-q.q c.in_ok-q.ensures.problem in
    let good = sym (sides_told s c.in_ok-q.q a ss _ c.sides_ok.ensures) ∙ c.if-not-sides_ok.false in
    let r = c.from_residual-in_err-first_linked in
    let p = err_from_is_err_and r.result r.ensures.1 in
    rw (p.1, p.2)
    (linked_cut s ss c.args.memory c.in_ok-q.ensures.verdict good _
    (linked_told s c.in_ok-q.q a ss _ (rw c.tables_start-start.ensures at c.in_err-first_linked.ensures)))

pub returns-clause-verdict : goal.returns-clause-verdict
returns-clause-verdict c =
    let s : List ℕ = c.args.problem.now in
    let ss : List ℕ = c.args.sides.now in
    let a = read_accepted s c.in_ok-q.q c.in_ok-q.ensures.problem in
    let good = sym (sides_told s c.in_ok-q.q a ss _ c.sides_ok.ensures) ∙ c.if-not-sides_ok.false in
    linked_cut s ss c.args.memory c.in_ok-q.ensures.verdict good _
    (linked_told s c.in_ok-q.q a ss _ (rw c.tables_start-start.ensures at c.in_ok-first_linked.ensures))
