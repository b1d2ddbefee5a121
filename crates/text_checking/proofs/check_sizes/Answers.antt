-- What `check_sizes` leaves to show: a size that decides, one more, and the last.
use Rattle.std.proofs.Common.{◌≡◌, ◌∙◌, ◌<◌, arith}
use native.Mathlib.Nat.{mul-one}
use Rattle.text_words.specs.Texts.{value_from}
use Rattle.text_words.specs.Reads.{words_at, numeral}
use Rattle.text_networks.specs.Findings.{value_at}
use Rattle.text_checking.specs.Codes.{rank}
use Rattle.text_checking.specs.Sizes.{size_held}
use Rattle.text_checking.proofs.Codes.{both_second}
use Rattle.text_checking.proofs.Checks.{as_wide}
use Rattle.text_checking.proofs.Filling.{holds_more}
use Rattle.text_checking.proofs.Runs.{run_begin, run_done, run_stop, run_on, run_number}
use Rattle.text_checking.proofs.SizeRuns.{met_begin, met_on, met_done}
use Rattle.text_checking.proofs.check_sizes.Goals as goal

pub loop-i-init : goal.loop-i-init
loop-i-init c =
    let a = c.args in
    record {
      read = run_begin a.s.now _ 1 a.n a.at c.requires.0;
      largest = met_begin a.s.now a.at a.n (value_from 0 (numeral a.s.now a.most)) a.most.value c.requires.1.value;
      held = λ k h. absurd (omega arith);
    }

pub returns-then-decides : goal.returns-then-decides
returns-then-decides c =
    let a = c.args in
    let w = c.loop-i in
    let heavy = c.decides.ensures.0 c.if-decides.true in
    record {
      step = run_stop a.s.now _ 1 a.n a.at w.i w.finding w.next (omega arith) w.invariant.read _
          c.check_size-size.ensures.step c.and_then-finding.result c.and_then-finding.ensures a.n heavy;
      met = λ l. absurd (omega (arith, heavy));
      held = λ l. absurd (omega (arith, heavy));
    }

pub loop-i-preserved : goal.loop-i-preserved
loop-i-preserved c =
    let a = c.args in
    let s = a.s.now in
    let w = c.loop-i in
    let size = c.check_size-size in
    let sum = c.and_then-finding in
    let light = c.decides.ensures.1 c.if-decides.false in
    let small : rank size.result.finding < 2 = both_second w.finding _ (rw sum.ensures at light) in
    record {
      read =
          run_on s _ 1 a.n a.at w.i w.finding w.next (omega arith) w.invariant.read _ size.ensures.step sum.result
          sum.ensures light;
      largest =
          met_on s a.at a.n (value_from 0 (numeral s a.most)) w.i w.next size.result.next w.met size.result.met
          (omega arith) w.invariant.largest (size.ensures.below small) (size.ensures.met small)
          (size.ensures.step.words small);
      held =
          rw c.put.ensures
          (holds_more (λ v e. size_held s e ≡ value_at v (words_at s a.at)) w.i w.index size.result.entry
          w.invariant.held
          (size.ensures.entry small ∙ run_number s _ a.n a.at w.i w.finding w.next w.invariant.read));
    }

pub returns : goal.returns
returns c =
    let a = c.args in
    let w = c.loop-i in
    record {
      step = as_wide (mul-one a.n)
          (run_done a.s.now _ 1 a.n a.at w.i w.finding w.next c.loop-i-test.false w.invariant.read);
      met = λ _. met_done a.s.now a.at a.n _ w.i w.next w.met c.loop-i-test.false w.invariant.largest;
      held = λ _ k h. w.invariant.held k (omega arith);
    }
