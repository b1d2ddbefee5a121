-- What `check_values` leaves to show: a value that decides, one more, and the last.
use Rattle.std.proofs.Common.{◌≡◌, sym, List, ℕ, get_or, arith, rules, subst}
use Rattle.std.proofs.Math.ListN.{length-map}
use Rattle.text_words.specs.Reads.{words_at}
use Rattle.text_networks.specs.Findings.{term_at}
use Rattle.text_networks.specs.Networks.{declared_finding}
use Rattle.text_checking.specs.declared.Found.TheVariants.{Nothing}
use Rattle.text_checking.specs.declared.Step as DS
use Rattle.text_checking.specs.Codes.{found_of}
use Rattle.text_checking.specs.Sizes.{size_held, sizes_held}
use Rattle.text_checking.specs.Steps.{Checked}
use Rattle.text_checking.proofs.Entries.{held_at}
use Rattle.text_checking.proofs.Checks.{as_wide}
use Rattle.text_checking.proofs.Values.{values_done, values_stop, values_on}
use Rattle.text_checking.proofs.check_values.Goals as goal

-- the value that was read, by the sizes
one : (s entries : List ℕ) (i next : ℕ) (step : DS.Step)
    → Checked s (found_of (declared_finding (size_held s (get_or entries i 0)) (term_at 0 (words_at s next)))) 1 next
    step
    → Checked s (found_of (declared_finding (get_or (sizes_held s entries) i 0) (term_at 0 (words_at s next)))) 1 next
    step
one s entries i next step h =
    subst (λ (d : ℕ). Checked s (found_of (declared_finding d (term_at 0 (words_at s next)))) 1 next step)
    (sym (held_at s entries i)) h

pub returns-then-ne : goal.returns-then-ne
returns-then-ne c =
    let a = c.args in
    let s = a.s.now in
    let w = c.loop-e in
    let long = length-map a.entries.now (size_held s) in
    let some : c.check_value-step.result.finding ≡ Nothing → ⊥ = search rules in
    as_wide long
    (values_stop s (sizes_held s a.entries.now) a.at w.e-index w.next (omega (arith, long)) w.invariant
    c.check_value-step.result (one s a.entries.now w.e-index w.next _ c.check_value-step.ensures) some)

pub loop-e-preserved : goal.loop-e-preserved
loop-e-preserved c =
    let a = c.args in
    let s = a.s.now in
    let w = c.loop-e in
    let long = length-map a.entries.now (size_held s) in
    let none : c.check_value-step.result.finding ≡ Nothing = search rules in
    values_on s (sizes_held s a.entries.now) a.at w.e-index w.next (omega (arith, long)) w.invariant
    c.check_value-step.result (one s a.entries.now w.e-index w.next _ c.check_value-step.ensures) none

pub returns : goal.returns
returns c =
    let a = c.args in
    let s = a.s.now in
    let w = c.loop-e in
    let long = length-map a.entries.now (size_held s) in
    as_wide long (values_done s (sizes_held s a.entries.now) a.at w.e-index w.next (omega (arith, long)) w.invariant)
