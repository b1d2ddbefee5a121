-- What the loop of `choice_sum` leaves to show: each turn adds one number more.
use Rattle.std.proofs.Common.{◌<◌, ◌≤◌, length, refl, arith}
use mir.Syntax.{w8}
use Rattle.model.specs.Calls.{padded}
use Rattle.model.specs.Limits.{max_variables, max_domain}
use Rattle.cut_sums.proofs.Adding.{sums_each, adding_next, adding_end}
use Rattle.rows.proofs.Arrays.{array_length}
use Rattle.cut_sums.proofs.choice_sum.Goals as goal

pub loop-i-init : goal.loop-i-init
unfolding padded
loop-i-init c = refl

pub overflow_add-sum : goal.overflow_add-sum
overflow_add-sum c =
    let a = c.args in
    let lx : a.n ≤ length a.x = omega (arith, array_length w8 max_variables a.x _ c.well_formed.0) in
    let ly : a.n ≤ length a.y = omega (arith, array_length w8 max_variables a.y _ c.well_formed.1.0) in
    omega (
      arith,
      sums_each a.x a.y a.n lx ly
          c.loop-i.i (omega arith) (λ v. v < max_domain) c.requires.1,
    )

pub loop-i-preserved : goal.loop-i-preserved
loop-i-preserved c =
    let a = c.args in
    let lx : a.n ≤ length a.x = omega (arith, array_length w8 max_variables a.x _ c.well_formed.0) in
    let ly : a.n ≤ length a.y = omega (arith, array_length w8 max_variables a.y _ c.well_formed.1.0) in
    adding_next a.x a.y a.n lx ly c.loop-i.i
    (omega arith) max_variables c.loop-i.sum c.requires.0 c.loop-i.invariant

pub returns : goal.returns
returns c =
    let a = c.args in
    let lx : a.n ≤ length a.x = omega (arith, array_length w8 max_variables a.x _ c.well_formed.0) in
    let ly : a.n ≤ length a.y = omega (arith, array_length w8 max_variables a.y _ c.well_formed.1.0) in
    adding_end a.x a.y a.n lx ly max_variables
    c.loop-i.i c.loop-i.sum (omega arith) c.loop-i.invariant
