-- What the loop of `read_domains` leaves to show. Past the branch the record here is good, so the next one starts in
-- the list.
use Rattle.std.proofs.Common.{◌≡◌, refl, sym, ◌∙◌, suc, ◌+◌, ◌-◌, arith}
use native.Mathlib.Nat.{sub-zero}
use lib.Seq.{get_or-drop}
use Rattle.model.specs.Limits.{max_variables}
use Rattle.model.specs.Reading.{domains_verdict, domains_at}
use Rattle.model.specs.Calls.{padded}
use Rattle.model.proofs.DomainRecords.{length_domains_at}
use Rattle.model.proofs.Reasons.{number_positive}
use Rattle.problem.proofs.Filled.{padded_step}
use Rattle.problem.proofs.DomainSteps.{domains_go, domains_stop, domains_more, domain_next}
use Rattle.problem.proofs.read_domains.Goals as goal

pub loop-i-init : goal.loop-i-init
unfolding padded domains_at
loop-i-init c =
    record {
      place = omega arith;
      inside = c.requires.0;
      rest = rw sub-zero;
      filled = refl;
    }

pub returns-in-Err : goal.returns-in-Err
returns-in-Err c =
    let w = c.loop-i in
    let more : c.args.n - w.i ≡ suc (c.args.n - (w.i + 1)) = omega arith in
    let e = c.in-Err.ensures in
    let stop = domains_stop (c.args.n - (w.i + 1)) c.args.s.now w.here (λ z. number_positive _ (e ∙ z)) in
    record {
      verdict =
          rw (c.at.ensures.reason, c.at.ensures.place, e) (sym (sym (rw more at w.invariant.rest) ∙ stop));
      sizes = tt;
    }

pub bounds-s-here : goal.bounds-s-here
bounds-s-here c = omega (arith, domain_next c.args.s.now c.loop-i.here (sym c.in_default.ensures))

pub loop-i-preserved : goal.loop-i-preserved
loop-i-preserved c =
    let s = c.args.s.now in
    let w = c.loop-i in
    let more : c.args.n - w.i ≡ suc (c.args.n - (w.i + 1)) = omega arith in
    let good = sym c.in_default.ensures in
    let size = rw (get_or-drop, ← w.invariant.place) at (domains_more s c.args.at w.i) in
    record {
      place = omega arith;
      inside = domain_next s w.here good;
      rest = sym (domains_go (c.args.n - (w.i + 1)) s w.here good) ∙ rw more at w.invariant.rest;
      filled = padded_step max_variables w.i (λ k. domains_at k s c.args.at) w.sizes _
          (length_domains_at w.i s c.args.at) (omega arith) size w.invariant.filled;
    }

pub returns : goal.returns
unfolding domains_verdict
returns c =
    let w = c.loop-i in
    let all : w.i ≡ c.args.n = omega arith in
    let none : c.args.n - w.i ≡ 0 = omega arith in
    record { verdict = rw none at w.invariant.rest; sizes = rw all at w.invariant.filled }
