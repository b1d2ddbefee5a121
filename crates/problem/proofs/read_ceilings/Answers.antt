-- What the loop of `read_ceilings` leaves to show.
use Rattle.std.proofs.Common.{◌≡◌, refl, ap, ◌∙◌, ℕ, drop, arith}
use Rattle.model.specs.Limits.{max_objectives}
use Rattle.model.specs.Reading.{words_in}
use Rattle.model.specs.Calls.{padded}
use Rattle.model.proofs.Words.{length_words_in}
use Rattle.problem.proofs.Filled.{padded_step}
use Rattle.problem.proofs.HeadFields.{words_more}
use Rattle.problem.proofs.read_ceilings.Goals as goal

pub loop-i-init : goal.loop-i-init
unfolding padded words_in
loop-i-init c = refl

pub loop-i-preserved : goal.loop-i-preserved
loop-i-preserved c =
    let s = c.args.s.now in
    let w = c.loop-i in
    let more = rw (← c.four_at.ensures) at (words_more 6 s w.i) in
    padded_step max_objectives w.i (λ k. words_in k (drop 6 s)) w.ceilings c.four_at.result
    (length_words_in w.i (drop 6 s)) (omega arith) more w.invariant

pub returns : goal.returns
returns c =
    let n : c.loop-i.i ≡ c.args.count = omega arith in
    c.loop-i.invariant ∙ ap (λ (m : ℕ). padded max_objectives (words_in m (drop 6 c.args.s.now))) n
