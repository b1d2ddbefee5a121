-- What the loop of `read_domains` leaves to show.
use Rattle.std.proofs.Common.{◌≡◌, ◌∙◌, ℕ, take, refl, subst, arith}
use lib.ListN.{length-set}
use Rattle.model.specs.Problems.{DomainSize}
use Rattle.text_words.specs.Reads.{words_at}
use Rattle.text_networks.specs.Findings.{values_in}
use Rattle.text_reading.proofs.Numbers.{value_has, value_stored, none_passed, one_passed, passed_value}
use Rattle.text_reading.proofs.read_domains.Goals as goal

pub loop-i-init : goal.loop-i-init
unfolding values_in
loop-i-init c = record { passed = none_passed c.args.s.now c.args.at c.requires.0; read = refl; long = refl }

pub overflow_cast-sizes : goal.overflow_cast-sizes
overflow_cast-sizes c =
    let ws = words_at c.args.s.now c.args.at in
    let size = value_has DomainSize c.args.count ws c.requires.2 c.loop-i.i (omega arith) in
    let told = passed_value c.loop-i.invariant.passed c.read_number-size.result c.read_number-size.ensures
    (omega (arith, size.1)) in
    record { fits = omega (arith, told, size.1) }

pub loop-i-preserved : goal.loop-i-preserved
loop-i-preserved c =
    let w = c.loop-i in
    let r = c.read_number-size in
    let ws = words_at c.args.s.now c.args.at in
    let size = value_has DomainSize c.args.count ws c.requires.2 w.i (omega arith) in
    let told = passed_value w.invariant.passed r.result r.ensures (omega (arith, size.1)) in
    record {
      passed = one_passed w.invariant.passed r.result r.ensures;
      read =
          value_stored w.sizes ws w.i r.result.value w.invariant.read (omega (arith, c.requires.1, w.invariant.long))
          told;
      long = length-set w.sizes w.i r.result.value ∙ w.invariant.long;
    }

pub returns : goal.returns
returns c =
    let w = c.loop-i in
    let a = c.args in
    let all : w.i ≡ a.count = omega arith in
    record {
      count = refl;
      sizes = subst (λ (n : ℕ). take n w.sizes ≡ values_in n (words_at a.s.now a.at)) all w.invariant.read;
      within = w.invariant.passed.within;
      rest = rw all at w.invariant.passed.words;
    }
