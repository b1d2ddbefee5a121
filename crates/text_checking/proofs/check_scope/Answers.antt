-- What `check_scope` leaves to show: a variable that is not declared, one more, and the last.
use Rattle.std.proofs.Common.{◌≡◌, ◌∙◌, ℕ, arith, rules}
use native.Mathlib.Nat.{mul-one}
use borrow.Author.Tests.{lt-ltb, le-ltb}
use Rattle.text_words.specs.declared.Kind.TheVariants.{Natural}
use Rattle.text_words.specs.Reads.{words_at}
use Rattle.text_networks.specs.Findings.{value_at}
use Rattle.text_checking.specs.declared.Found.TheVariants.{Nothing}
use Rattle.text_checking.proofs.Fields.{declared_none, declared_below, declared_above}
use Rattle.text_checking.proofs.Checks.{as_wide}
use Rattle.text_checking.proofs.Filling.{holds_more}
use Rattle.text_checking.proofs.Runs.{run_begin, run_done, run_fault, run_fine, run_number}
use Rattle.text_checking.proofs.check_scope.Goals as goal

pub loop-i-init : goal.loop-i-init
loop-i-init c =
    record {
      read = run_begin c.args.s.now _ 1 c.args.arity c.args.at c.requires.0;
      filled = λ k h. absurd (omega arith);
    }

pub returns-then-ne : goal.returns-then-ne
returns-then-ne c =
    let a = c.args in
    let w = c.loop-i in
    let other : c.read_number-v.result.kind ≡ Natural → ⊥ = search rules in
    record {
      step =
          run_fault a.s.now _ 1 a.arity a.at w.i w.next (omega arith) w.invariant.read a.arity
          (declared_none c.read_number-v.ensures a.variables other);
      filled = λ l. absurd (omega arith);
    }

pub returns-then-variables-variable : goal.returns-then-variables-variable
returns-then-variables-variable c =
    let a = c.args in
    let w = c.loop-i in
    let says = c.read_number-v.ensures in
    let x = value_at 0 (words_at a.s.now w.next) in
    record {
      step =
          run_fault a.s.now _ 1 a.arity a.at w.i w.next (omega arith) w.invariant.read a.arity
          (declared_above says a.variables (le-ltb x a.variables (omega (arith, says.value))));
      filled = λ l. absurd (omega arith);
    }

pub loop-i-preserved : goal.loop-i-preserved
loop-i-preserved c =
    let a = c.args in
    let s = a.s.now in
    let w = c.loop-i in
    let says = c.read_number-v.ensures in
    let x : ℕ = value_at 0 (words_at s w.next) in
    let exact : c.read_number-v.result.value ≡ x = omega (arith, says.value, c.requires.1) in
    let number : c.read_number-v.result.kind ≡ Natural = search rules in
    record {
      read =
          run_fine s _ 1 a.arity a.at w.i w.next (omega arith) w.invariant.read c.read_number-v.result.end
          (declared_below says a.variables number (lt-ltb x a.variables (omega arith))) says.within says.rest;
      filled =
          rw c.put.ensures
          (holds_more (λ k v. v ≡ value_at k (words_at s a.at)) w.i w.scope c.read_number-v.result.value
          w.invariant.filled (exact ∙ run_number s _ a.arity a.at w.i Nothing w.next w.invariant.read));
    }

pub returns : goal.returns
returns c =
    let a = c.args in
    let w = c.loop-i in
    record {
      step = as_wide (mul-one a.arity)
          (run_done a.s.now _ 1 a.arity a.at w.i Nothing w.next (omega arith) w.invariant.read);
      filled = λ _ k h. w.invariant.filled k (omega arith);
    }
