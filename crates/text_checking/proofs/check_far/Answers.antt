-- What `check_far` leaves to show: a value that decides, one more, and the last.
use Rattle.std.proofs.Common.{◌≡◌, ◌∙◌, subst, refl, List, [], ℕ, ◌<◌, ◌≤◌, get_or, drop, arith, rules}
use Rattle.std.proofs.Math.Seq.{drop-drop}
use Rattle.text_words.specs.Reads.{words_at, cap_end, NumberSays}
use Rattle.text_words.specs.declared.Number as DN
use Rattle.text_networks.specs.Findings.{term_at}
use Rattle.text_networks.specs.Networks.{declared_finding}
use Rattle.text_checking.specs.declared.Found.TheVariants.{Nothing}
use Rattle.text_checking.specs.declared.Declared as DD
use Rattle.text_checking.specs.declared.Far as DF
use Rattle.text_checking.specs.declared.Step as DS
use Rattle.text_checking.specs.Codes.{found_of}
use Rattle.text_checking.specs.Sizes.{size_held, domains_at, scope_sizes}
use Rattle.text_checking.specs.Steps.{Checked}
use Rattle.text_checking.proofs.Checks.{as_wide}
use Rattle.text_checking.proofs.Scopes.{variable_size, far_count}
use Rattle.text_checking.proofs.Values.{values_begin, values_done, values_stop, values_on}
use Rattle.text_checking.proofs.check_far.Goals as goal

-- the value that was read, by the sizes
one : (s : List ℕ) (far : DF.Far) (d : DD.Declared) (i word next e : ℕ) (v : DN.Number) (step : DS.Step)
    → NumberSays s word v → words_at s word ≡ drop i (words_at s far.at) → i < far.count → d.variables ≤ cap_end
    → size_held s e ≡ get_or (domains_at s d) v.value 0
    → Checked s (found_of (declared_finding (size_held s e) (term_at 0 (words_at s next)))) 1 next step
    → Checked s (found_of (declared_finding (get_or (scope_sizes s [] far d) i 0) (term_at 0 (words_at s next)))) 1 next
    step
one s far d i word next e v step says here h few size checked =
    subst (λ (x : ℕ). Checked s (found_of (declared_finding x (term_at 0 (words_at s next)))) 1 next step)
    (size ∙ variable_size s d far.at far.count i word v says here h few) checked

pub loop-i-init : goal.loop-i-init
loop-i-init c =
    let a = c.args in
    record {
      read = values_begin a.s.now (scope_sizes a.s.now [] a.far a.declared) a.at c.requires.0;
      within = c.requires.1;
      words = refl;
    }

pub returns-then-ne : goal.returns-then-ne
returns-then-ne c =
    let a = c.args in
    let s = a.s.now in
    let w = c.loop-i in
    let n = far_count s a.far a.declared in
    let some : c.check_value-step.result.finding ≡ Nothing → ⊥ = search rules in
    as_wide n
    (values_stop s (scope_sizes s [] a.far a.declared) a.at w._i w.next (omega (arith, n)) w.invariant.read
    c.check_value-step.result
    (one s a.far a.declared w._i w.word w.next c.size_entry-e.result c.read_number-v.result c.check_value-step.result
    c.read_number-v.ensures w.invariant.words (omega arith) c.requires.2.few c.size_entry-e.ensures
    c.check_value-step.ensures) some)

pub loop-i-preserved : goal.loop-i-preserved
loop-i-preserved c =
    let a = c.args in
    let s = a.s.now in
    let w = c.loop-i in
    let says = c.read_number-v.ensures in
    let none : c.check_value-step.result.finding ≡ Nothing = search rules in
    record {
      read =
          values_on s (scope_sizes s [] a.far a.declared) a.at w._i w.next
          (omega (arith, far_count s a.far a.declared)) w.invariant.read c.check_value-step.result
          (one s a.far a.declared w._i w.word w.next c.size_entry-e.result c.read_number-v.result
          c.check_value-step.result says w.invariant.words (omega arith) c.requires.2.few c.size_entry-e.ensures
          c.check_value-step.ensures) none;
      within = says.within;
      words = says.rest ∙ rw w.invariant.words (drop-drop 1 w._i (words_at s a.far.at));
    }

pub returns : goal.returns
returns c =
    let a = c.args in
    let s = a.s.now in
    let w = c.loop-i in
    let n = far_count s a.far a.declared in
    as_wide n (values_done s (scope_sizes s [] a.far a.declared) a.at w._i w.next (omega (arith, n)) w.invariant.read)
