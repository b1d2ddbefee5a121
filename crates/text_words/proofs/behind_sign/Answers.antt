-- What `behind_sign` leaves to show, by the byte at the place.
use Rattle.std.proofs.Common.{arith}
use borrow.Author.Tests.{eq-eqb, ne_eqb}
use Rattle.text_words.proofs.Signs.{sign_none, sign_here}
use Rattle.text_words.proofs.behind_sign.Goals as goal

pub returns-then-at-s : goal.returns-then-at-s
returns-then-at-s c = omega (arith, sign_none c.args.s.now c.args.at (omega arith))

pub returns-then-b-eq45 : goal.returns-then-b-eq45
returns-then-b-eq45 c =
    rw (sign_here c.args.s.now c.args.at (omega arith)) (simp (eq-eqb _ 45 c.if-b-eq45.true))

pub returns-then-b-eq43 : goal.returns-then-b-eq43
returns-then-b-eq43 c =
    rw (sign_here c.args.s.now c.args.at (omega arith))
    (simp (ne_eqb _ 45 c.if-b-eq45.false, eq-eqb _ 43 c.if-b-eq43.true))

pub returns : goal.returns
returns c =
    rw (sign_here c.args.s.now c.args.at (omega arith))
    (simp (ne_eqb _ 45 c.if-b-eq45.false, ne_eqb _ 43 c.if-b-eq43.false) (omega arith))
