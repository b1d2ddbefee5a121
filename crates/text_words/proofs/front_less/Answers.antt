-- What the loop of `front_less` leaves to show, by the digits that differ or are the same.
use Rattle.std.proofs.Common.{◌≡◌, ◌∙◌, ◌+◌, arith}
use Rattle.text_words.proofs.Places.{digits_later, less_later, less_here}
use Rattle.text_words.proofs.front_less.Goals as goal

pub returns-then-x-y : goal.returns-then-x-y
returns-then-x-y c =
    let p = c.args in
    let w = c.loop-i.invariant in
    less_here p.s.now (p.a + c.loop-i.i) (p.a + p.n) (p.b + c.loop-i.i) (p.b + p.n) (omega arith) (omega arith)
    c.requires.0 c.requires.1 (omega arith) w.first w.second c.if-x-y.true
    ∙ w.less

pub loop-i-preserved : goal.loop-i-preserved
loop-i-preserved c =
    let p = c.args in
    let i = c.loop-i.i in
    let w = c.loop-i.invariant in
    let next-a : p.a + i + 1 ≡ p.a + (i + 1) = omega arith in
    let next-b : p.b + i + 1 ≡ p.b + (i + 1) = omega arith in
    record {
      first = rw next-a at (digits_later p.s.now (p.a + i) (p.a + p.n) (omega arith) c.requires.0 w.first);
      second = rw next-b at (digits_later p.s.now (p.b + i) (p.b + p.n) (omega arith) c.requires.1 w.second);
      less =
          (rw (next-a, next-b) at (less_later p.s.now (p.a + i) (p.a + p.n) (p.b + i) (p.b + p.n) (omega arith)
          (omega arith) c.requires.0 c.requires.1 (omega arith) c.if-x-y.false))
          ∙ w.less;
    }
