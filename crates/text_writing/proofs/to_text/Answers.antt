-- What `to_text` leaves to show: each return hands what the callees ensure to one law of TextAnswers.
use Rattle.std.proofs.Common.{◌∙◌, ℕ, List, sym, arith}
use Rattle.model.specs.Basics.{All}
use Rattle.model.specs.Encoding.{Byte}
use Rattle.model.proofs.Elements.{all_each}
use Rattle.problem.proofs.Accepted.{read_accepted}
use Rattle.problem.proofs.AcceptedTables.{within}
use Rattle.text_writing.proofs.Opening.{unwritable_told, text_placed, opened}
use Rattle.text_writing.proofs.TextAnswers.{unwritable_answer, short_answer, text_answer}
use Rattle.text_writing.proofs.to_text.Goals as goal

pub returns-then-is_unwritable : goal.returns-then-is_unwritable
returns-then-is_unwritable c =
    let s : List ℕ = c.args.problem.now in
    let a = read_accepted s c.in_ok-q.q c.in_ok-q.ensures.problem in
    let told = c.is_unwritable.ensures ∙ unwritable_told s c.in_ok-q.q a in
    unwritable_answer s c.args.text.now a.none c.at.result c.at.ensures.reason c.at.ensures.place
    (sym told ∙ c.if-is_unwritable.true)

pub shared_ref_as_front-put_network : goal.shared_ref_as_front-put_network
shared_ref_as_front-put_network c =
    let a = read_accepted c.args.problem.now c.in_ok-q.q c.in_ok-q.ensures.problem in
    omega (arith, within _ _ a, a.room)

pub put_network-length-requires : goal.put_network-length-requires
put_network-length-requires c =
    let s : List ℕ = c.args.problem.now in
    let bytes : All Byte s = all_each Byte 0 s (λ i. omega (arith, c.type_inv.problem i)) in
    let a = read_accepted s c.in_ok-q.q c.in_ok-q.ensures.problem in
    let told = c.is_unwritable.ensures ∙ unwritable_told s c.in_ok-q.q a in
    opened s c.in_ok-q.q a bytes (sym told ∙ c.if-is_unwritable.false)

pub returns-then-text-length : goal.returns-then-text-length
returns-then-text-length c =
    let s : List ℕ = c.args.problem.now in
    let a = read_accepted s c.in_ok-q.q c.in_ok-q.ensures.problem in
    let told = c.is_unwritable.ensures ∙ unwritable_told s c.in_ok-q.q a in
    let r = c.at-then-text-length in
    short_answer s c.args.text.now a.none (sym told ∙ c.if-is_unwritable.false) c.put_network-length.ensures r.result
    r.ensures.reason r.ensures.place c.if-text-length.true

pub put_network-written-requires : goal.put_network-written-requires
put_network-written-requires c =
    let s : List ℕ = c.args.problem.now in
    let bytes : All Byte s = all_each Byte 0 s (λ i. omega (arith, c.type_inv.problem i)) in
    let a = read_accepted s c.in_ok-q.q c.in_ok-q.ensures.problem in
    let told = c.is_unwritable.ensures ∙ unwritable_told s c.in_ok-q.q a in
    opened s c.in_ok-q.q a bytes (sym told ∙ c.if-is_unwritable.false)

pub overflow_cast-result : goal.overflow_cast-result
overflow_cast-result c =
    let s : List ℕ = c.args.problem.now in
    let bytes : All Byte s = all_each Byte 0 s (λ i. omega (arith, c.type_inv.problem i)) in
    let a = read_accepted s c.in_ok-q.q c.in_ok-q.ensures.problem in
    let told = c.is_unwritable.ensures ∙ unwritable_told s c.in_ok-q.q a in
    let few = text_placed s c.in_ok-q.q a bytes (sym told ∙ c.if-is_unwritable.false) in
    record { fits = omega (arith, c.put_network-written.ensures.next, few) }

pub returns : goal.returns
returns c =
    let s : List ℕ = c.args.problem.now in
    let a = read_accepted s c.in_ok-q.q c.in_ok-q.ensures.problem in
    let told = c.is_unwritable.ensures ∙ unwritable_told s c.in_ok-q.q a in
    text_answer s c.args.text.now a.none (sym told ∙ c.if-is_unwritable.false) c.put_network-length.ensures
    (omega (arith, c.if-text-length.false)) c.put_network-written.ensures
