-- What `judge` leaves to show: frames and areas, then work memory.
use Rattle.std.proofs.Common.{◌≡◌, sym, ap, ◌∙◌, Bool, List, ℕ, length, arith}
use Rattle.batch_frames.specs.Batches.{max_batch, batch_of}
use Rattle.batch_frames.specs.Outcomes.{areas_ok}
use Rattle.batch_frames.proofs.FrameSteps.{frames_few}
use Rattle.batch_frames.proofs.Judging.{framed_wrong, area_missing, memory_short, judged_taken}
use Rattle.batch_frames.proofs.judge.Goals as goal

-- what was said of the areas, for the batch's own count
own : (s : List ℕ) (costs choices results count : ℕ) {fits : Bool} {b : Bool} → count ≡ length (batch_of s)
    → fits ≡ areas_ok count costs choices results → fits ≡ b
    → areas_ok (length (batch_of s)) costs choices results ≡ b
own s costs choices results count is told fits =
    ap (λ k. areas_ok k costs choices results) (sym is) ∙ sym told ∙ fits

pub returns-in_default : goal.returns-in_default
returns-in_default c =
    let a = c.args in
    record { number = framed_wrong a.batch.now a.costs a.choices a.results a.memory c.in_default.ensures; count = tt }

pub areas_fit-requires : goal.areas_fit-requires
areas_fit-requires c = omega (arith, c.in-Some.ensures.1, frames_few max_batch c.args.batch.now)

pub returns-then-not-areas_fit : goal.returns-then-not-areas_fit
returns-then-not-areas_fit c =
    let a = c.args in
    let some = c.in-Some.ensures in
    let areas = own a.batch.now a.costs a.choices a.results _ some.1 c.areas_fit.ensures c.if-not-areas_fit.true in
    record {
      number = area_missing a.batch.now a.costs a.choices a.results a.memory some.0 areas;
      count = tt;
    }

pub returns-then-is_short : goal.returns-then-is_short
returns-then-is_short c =
    let a = c.args in
    let some = c.in-Some.ensures in
    let areas = own a.batch.now a.costs a.choices a.results _ some.1 c.areas_fit.ensures c.if-not-areas_fit.false in
    record {
      number = memory_short a.batch.now a.costs a.choices a.results a.memory some.0 areas (omega arith);
      count = tt;
    }

pub returns : goal.returns
returns c =
    let a = c.args in
    let some = c.in-Some.ensures in
    let areas = own a.batch.now a.costs a.choices a.results _ some.1 c.areas_fit.ensures c.if-not-areas_fit.false in
    record {
      number = judged_taken a.batch.now a.costs a.choices a.results a.memory some.0 areas (omega arith);
      count = (some.1, omega (arith, some.1, frames_few max_batch a.batch.now));
    }
