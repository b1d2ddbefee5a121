-- What `put_digits` leaves to show: one more digit stands before those written, and none is left.
use Rattle.std.proofs.Common.{◌≡◌, refl, sym, ◌∙◌, ◌∷◌, ℕ, suc, ◌+◌, ◌-◌, ◌%◌, ◌<◌, length, drop, arith}
use Rattle.std.proofs.Math.ListN.{set, take-append-drop}
use Rattle.std.proofs.Math.Seq.{take-set-le}
use Rattle.text_words.specs.Texts.{decimal}
use Rattle.text_lines.proofs.Digits.{last_next, last_none, decimal_last, digit_put, front_kept}
use Rattle.text_lines.proofs.put_digits.Goals as goal

pub loop-k-init : goal.loop-k-init
loop-k-init c =
    let a = c.args in
    let count : a.end - a.at ≡ length (decimal a.x) = omega (arith, c.requires.0) in
    record { after = omega arith; front = refl; digits = rw count (decimal_last a.x (drop a.end a.out.now)) }

pub loop-k-preserved : goal.loop-k-preserved
loop-k-preserved c =
    let w = c.loop-k in
    let a = c.args in
    let k : ℕ = w.k - 1 in
    let d : ℕ = 48 + w.left % 10 in
    let more : w.k - a.at ≡ suc (k - a.at) = omega arith in
    let inside : k < length w.out = omega (arith, w.auto.out, c.requires.1) in
    let put : drop k (set w.out k d) ≡ d ∷ drop w.k w.out = digit_put k w.k d w.out (omega arith) inside in
    let said = rw (more, last_next) at w.invariant.digits in
    record {
      after = omega arith;
      front = take-set-le k w.out k d (omega arith) ∙ front_kept k w.k w.out a.out.now (omega arith) w.invariant.front;
      digits = rw put said;
    }

pub returns : goal.returns
returns c =
    let w = c.loop-k in
    let a = c.args in
    let last : w.k ≡ a.at = omega arith in
    let none : w.k - a.at ≡ 0 = omega arith in
    let front = rw last at w.invariant.front in
    let digits = rw (none, last_none, last) at w.invariant.digits in
    sym (take-append-drop a.at w.out) ∙ rw (front, digits) refl
