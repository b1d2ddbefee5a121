-- What `check_tuple` leaves to show: the values in two parts, and the cost.
use Rattle.std.proofs.Common.{◌≡◌, ◌∙◌, sym, ap, refl, [], ℕ, suc, ◌+◌, length, drop, arith, rules}
use Rattle.std.proofs.Math.ListN.{length-map}
use Rattle.text_words.specs.Reads.{words_at}
use Rattle.text_checking.specs.declared.Found.TheVariants.{Nothing}
use Rattle.text_checking.specs.Sizes.{size_held, sizes_held, scope_sizes}
use Rattle.text_checking.proofs.Codes.{none_light}
use Rattle.text_checking.proofs.Checks.{as_wide, as_found, stops, then}
use Rattle.text_checking.proofs.Scopes.{far_count}
use Rattle.text_checking.proofs.Tuples.{values_decide, tuple_code}
use Rattle.text_checking.proofs.check_tuple.Goals as goal

pub returns-then-ne : goal.returns-then-ne
returns-then-ne c =
    let a = c.args in
    let s = a.s.now in
    let ws = words_at s a.at in
    let xs = sizes_held s a.entries.now in
    let ys = scope_sizes s [] a.far a.declared in
    let first = c.check_values-values.ensures in
    let some : c.check_values-values.result.finding ≡ Nothing → ⊥ = search rules in
    as_found (tuple_code xs ys ws _ _ refl refl)
    (stops first _ (suc (length a.entries.now + a.far.count)) (values_decide xs ws _ first.finding some))

pub returns-then-ne-2 : goal.returns-then-ne-2
returns-then-ne-2 c =
    let a = c.args in
    let s = a.s.now in
    let ws = words_at s a.at in
    let xs = sizes_held s a.entries.now in
    let ys = scope_sizes s [] a.far a.declared in
    let first = c.check_values-values in
    let second = c.check_far-more.ensures in
    let none : first.result.finding ≡ Nothing = search rules in
    let some : c.check_far-more.result.finding ≡ Nothing → ⊥ = search rules in
    let behind : words_at s first.result.next ≡ drop (length xs) ws =
    first.ensures.words (none_light first.result.finding none)
    ∙ ap (λ (n : ℕ). drop n ws) (sym (length-map a.entries.now (size_held s))) in
    as_wide (omega arith)
    (as_found (tuple_code xs ys ws (words_at s first.result.next) _ behind refl)
    (then first.ensures none (stops second _ (a.far.count + 1) (values_decide ys _ _ second.finding some))))

pub returns : goal.returns
returns c =
    let a = c.args in
    let s = a.s.now in
    let ws = words_at s a.at in
    let xs = sizes_held s a.entries.now in
    let ys = scope_sizes s [] a.far a.declared in
    let first = c.check_values-values in
    let more = c.check_far-more in
    let none : first.result.finding ≡ Nothing = search rules in
    let none' : more.result.finding ≡ Nothing = search rules in
    let behind : words_at s first.result.next ≡ drop (length xs) ws =
    first.ensures.words (none_light first.result.finding none)
    ∙ ap (λ (n : ℕ). drop n ws) (sym (length-map a.entries.now (size_held s))) in
    let last : words_at s more.result.next ≡ drop (length ys) (words_at s first.result.next) =
    more.ensures.words (none_light more.result.finding none')
    ∙ ap (λ (n : ℕ). drop n (words_at s first.result.next)) (sym (far_count s a.far a.declared)) in
    as_wide (omega arith)
    (as_found (tuple_code xs ys ws (words_at s first.result.next) _ behind last)
    (then first.ensures none (then more.ensures none' c.check_cost.ensures)))
