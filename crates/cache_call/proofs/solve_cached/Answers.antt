-- What `solve_cached` leaves to show: each return hands what the callees ensure to one law of Cases.
use Rattle.std.proofs.Common.{◌≡◌, refl, sym, ap, ◌∙◌, List, ℕ, length, arith}
use Rattle.model.specs.Encoding.{Byte}
use Rattle.model.proofs.Elements.{all_each}
use Rattle.problem.proofs.AcceptedTables.{within}
use Rattle.problem.proofs.Readings.{objectives_are, variables_are}
use Rattle.answers.proofs.Early.{early_none}
use Rattle.problem.proofs.Accepted.{read_accepted}
use Rattle.form_canonical.specs.Canonical.{canonical_bytes}
use Rattle.form_call.proofs.Opening.{opened}
use Rattle.form_call.proofs.FormBytes.{no_bytes}
use Rattle.form_call.proofs.FormAnswers.{form_lent}
use Rattle.cache_answers.specs.Stores.{slots_in, find_form}
use Rattle.cache_call.proofs.Cases.{refused_cached, short_cached, held_cached, fresh_cached}
use Rattle.cache_call.proofs.Form.{header_counted, form_inside, form_held, form_short_lem, not_held}
use Rattle.cache_call.proofs.solve_cached.Goals as goal

-- the slot that is found for a form is the one for the canonical bytes, which it is
sought : (store : List ℕ) (form s : List ℕ) (k : ℕ) → form ≡ canonical_bytes s
    → k ≡ find_form (slots_in store) 0 form store → k ≡ find_form (slots_in store) 0 (canonical_bytes s) store
sought store form s k held e = e ∙ ap (λ (f : List ℕ). find_form (slots_in store) 0 f store) held

pub returns-in-Err : goal.returns-in-Err
returns-in-Err c =
    let a = c.args in
    refused_cached a.problem.now a.costs.now a.choices.now a.work.now a.store.now c.in-Err.refusal
    c.in-Err.ensures.verdict

pub returns-then-store-lt-LEAST_STORE : goal.returns-then-store-lt-LEAST_STORE
returns-then-store-lt-LEAST_STORE c =
    let a = c.args in
    let none = early_none a.problem.now (length a.work.now) c.in-Ok.ensures.verdict in
    short_cached a.problem.now a.costs.now a.choices.now a.work.now a.store.now none
    c.if-store-lt-LEAST_STORE.true c.at.result c.at.ensures.reason c.at.ensures.place

-- ## the form

pub shared_ref_as_front-put_form : goal.shared_ref_as_front-put_form
shared_ref_as_front-put_form c =
    let a = read_accepted c.args.problem.now c.in-Ok.q c.in-Ok.ensures.problem in
    omega (arith, within _ _ a, a.room)

pub put_form-requires : goal.put_form-requires
put_form-requires c =
    let s : List ℕ = c.args.problem.now in
    let a = read_accepted s c.in-Ok.q c.in-Ok.ensures.problem in
    let bytes = all_each Byte 0 s (λ i. omega (arith, c.type_inv.problem i)) in
    (opened s c.in-Ok.q a bytes, omega (arith, a.short))

pub slice_bounds-form-end : goal.slice_bounds-form-end
slice_bounds-form-end c =
    let s : List ℕ = c.args.problem.now in
    let a = read_accepted s c.in-Ok.q c.in-Ok.ensures.problem in
    let bytes = all_each Byte 0 s (λ i. omega (arith, c.type_inv.problem i)) in
    form_inside a bytes no_bytes c.put_form.ensures

pub slice_bounds-form-end-2 : goal.slice_bounds-form-end-2
slice_bounds-form-end-2 c =
    let s : List ℕ = c.args.problem.now in
    let a = read_accepted s c.in-Ok.q c.in-Ok.ensures.problem in
    let bytes = all_each Byte 0 s (λ i. omega (arith, c.type_inv.problem i)) in
    form_lent s no_bytes bytes a.none _ c.put_form.ensures

pub find_form-requires : goal.find_form-requires
find_form-requires c =
    let s : List ℕ = c.args.problem.now in
    let a = read_accepted s c.in-Ok.q c.in-Ok.ensures.problem in
    let bytes = all_each Byte 0 s (λ i. omega (arith, c.type_inv.problem i)) in
    form_short_lem a bytes no_bytes c.put_form.ensures

-- ## a hit

pub answer_held-answer-requires : goal.answer_held-answer-requires
answer_held-answer-requires c =
    (c.in-Some.ensures.1, header_counted (read_accepted c.args.problem.now c.in-Ok.q c.in-Ok.ensures.problem))

pub returns-in-Some : goal.returns-in-Some
returns-in-Some c =
    let s : List ℕ = c.args.problem.now in
    let a = read_accepted s c.in-Ok.q c.in-Ok.ensures.problem in
    let bytes = all_each Byte 0 s (λ i. omega (arith, c.type_inv.problem i)) in
    let x = c.args in
    let none = early_none s (length x.work.now) c.in-Ok.ensures.verdict in
    let same =
    held_cached s x.costs.now x.choices.now x.work.now x.store.now none c.if-store-lt-LEAST_STORE.false c.in-Some.k
    (sought x.store.now _ s c.in-Some.k (form_held a bytes no_bytes c.put_form.ensures) c.in-Some.ensures.0)
    c.in-Ok.q.head (objectives_are s c.in-Ok.q a) (variables_are s c.in-Ok.q a) c.in-Some.ensures.1 in
    rw same c.answer_held-answer.ensures

-- ## no hit

pub answer_anew-answer-requires : goal.answer_anew-answer-requires
answer_anew-answer-requires c =
    let s : List ℕ = c.args.problem.now in
    let a = read_accepted s c.in-Ok.q c.in-Ok.ensures.problem in
    let bytes = all_each Byte 0 s (λ i. omega (arith, c.type_inv.problem i)) in
    let none = early_none s (length c.args.work.now) c.in-Ok.ensures.verdict in
    not_held a bytes no_bytes c.put_form.ensures c.args.work.now c.args.store.now none
    c.if-store-lt-LEAST_STORE.false

pub returns-in-None : goal.returns-in-None
returns-in-None c =
    let s : List ℕ = c.args.problem.now in
    let a = read_accepted s c.in-Ok.q c.in-Ok.ensures.problem in
    let bytes = all_each Byte 0 s (λ i. omega (arith, c.type_inv.problem i)) in
    let x = c.args in
    let none = early_none s (length x.work.now) c.in-Ok.ensures.verdict in
    let held = form_held a bytes no_bytes c.put_form.ensures in
    let found : ℕ = find_form (slots_in x.store.now) 0 (canonical_bytes s) x.store.now in
    let behind : found ≡ slots_in x.store.now = sym (sought x.store.now _ s _ held refl) ∙ c.in-None.ensures in
    let same =
    fresh_cached s x.costs.now x.choices.now x.work.now x.store.now none c.if-store-lt-LEAST_STORE.false found refl
    held (omega (arith, behind)) in
    rw same c.answer_anew-answer.ensures
