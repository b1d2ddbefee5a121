-- What `canonical_form` leaves to show: each return hands what the callees ensure to one law of FormAnswers.
use Rattle.std.proofs.Common.{ℕ, List, arith}
use Rattle.model.specs.Basics.{All}
use Rattle.model.specs.Encoding.{Byte}
use Rattle.model.proofs.Elements.{all_each}
use Rattle.problem.proofs.Accepted.{read_accepted}
use Rattle.problem.proofs.AcceptedTables.{within}
use Rattle.form_call.proofs.Opening.{opened}
use Rattle.form_call.proofs.FormAnswers.{short_answer, form_answer}
use Rattle.form_call.proofs.canonical_form.Goals as goal

pub returns-then-form-count : goal.returns-then-form-count
returns-then-form-count c =
    let s : List ℕ = c.args.problem.now in
    let bytes : All Byte s = all_each Byte 0 s (λ i. omega (arith, c.type_inv.problem i)) in
    let a = read_accepted s c.in_ok-q.q c.in_ok-q.ensures.problem in
    short_answer s c.args.form.now bytes a.none c.at.result c.at.ensures.reason c.at.ensures.place c.if-form-count.true

pub shared_ref_as_front-put_form : goal.shared_ref_as_front-put_form
shared_ref_as_front-put_form c =
    let a = read_accepted c.args.problem.now c.in_ok-q.q c.in_ok-q.ensures.problem in
    omega (arith, within _ _ a, a.room)

pub put_form-requires : goal.put_form-requires
put_form-requires c =
    let s : List ℕ = c.args.problem.now in
    let bytes : All Byte s = all_each Byte 0 s (λ i. omega (arith, c.type_inv.problem i)) in
    (opened s c.in_ok-q.q (read_accepted s c.in_ok-q.q c.in_ok-q.ensures.problem) bytes, omega arith)

pub overflow_cast-result : goal.overflow_cast-result
overflow_cast-result c =
    let a = read_accepted c.args.problem.now c.in_ok-q.q c.in_ok-q.ensures.problem in
    record { fits = omega (arith, a.short) }

pub returns : goal.returns
returns c =
    let s : List ℕ = c.args.problem.now in
    let bytes : All Byte s = all_each Byte 0 s (λ i. omega (arith, c.type_inv.problem i)) in
    let a = read_accepted s c.in_ok-q.q c.in_ok-q.ensures.problem in
    form_answer s c.args.form.now bytes a.none _ c.key_of-key.result (omega arith) c.put_form.ensures
    c.key_of-key.ensures
