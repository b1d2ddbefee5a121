-- What the loop of `put_functions` leaves to show: the record here is whole, and its function is due.
use Rattle.std.proofs.Common.{◌≡◌, ◌+◌, ◌-◌, ℕ, suc, arith}
use Rattle.text_lines.proofs.Writing.{due, go_on, done}
use Rattle.text_writing.proofs.Functions.{function_next, function_none, record_next}
use Rattle.text_writing.proofs.put_functions.Goals as goal

pub put_function-next-requires : goal.put_function-next-requires
put_function-next-requires c =
    let a = c.args in
    let left : ℕ = a.r - c.loop.counter in
    let more : left ≡ suc (left - 1) = omega arith in (
      (record_next a.sizes.now a.s.now c.loop.here left (left - 1) more c.loop.invariant.whole).0,
      c.requires.1,
      c.requires.2,
      due (function_next a.bound a.sizes.now a.s.now c.loop.here left (left - 1) more) c.loop.invariant.form,
    )

pub loop-preserved : goal.loop-preserved
loop-preserved c =
    let a = c.args in
    let left : ℕ = a.r - c.loop.counter in
    let fewer : a.r - (c.loop.counter + 1) ≡ left - 1 = omega arith in
    let more : left ≡ suc (left - 1) = omega arith in record {
      whole =
          rw (fewer, c.place_after-here.ensures)
          (record_next a.sizes.now a.s.now c.loop.here left (left - 1) more c.loop.invariant.whole).1;
      form =
          rw (fewer, c.place_after-here.ensures)
          (go_on (function_next a.bound a.sizes.now a.s.now c.loop.here left (left - 1) more) c.loop.invariant.form
          c.put_function-next.ensures);
    }

pub returns : goal.returns
returns c =
    let none : c.args.r - c.loop.counter ≡ 0 = omega arith in
    done (rw (none, function_none) at c.loop.invariant.form)
