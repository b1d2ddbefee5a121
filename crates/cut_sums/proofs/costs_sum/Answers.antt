-- What the loop of `costs_sum` leaves to show: each turn adds one number more.
use Rattle.std.proofs.Common.{ℕ, ◌<◌, ◌≤◌, length, refl, arith}
use mir.Syntax.{w64}
use Rattle.model.specs.Calls.{padded}
use Rattle.model.specs.Limits.{max_objectives}
use Rattle.model.specs.Core.{core_sum_end}
use Rattle.model.proofs.Elements.{front_each}
use Rattle.cut_sums.proofs.Adding.{adding_next, adding_end}
use Rattle.rows.proofs.Arrays.{array_length}
use Rattle.cut_sums.proofs.costs_sum.Goals as goal

pub loop-i-init : goal.loop-i-init
unfolding padded
loop-i-init c = refl

pub overflow_add-sum : goal.overflow_add-sum
overflow_add-sum c =
    let a = c.args in
    let lx : a.p ≤ length a.x = omega (arith, array_length w64 max_objectives a.x _ c.well_formed.0) in
    let ly : a.p ≤ length a.y = omega (arith, array_length w64 max_objectives a.y _ c.well_formed.1.0) in
    let small : ℕ → Type 0 = λ c. c < core_sum_end in
    let x = front_each small 0 a.p a.x lx c.requires.1 c.loop-i.i (omega arith) in
    let y = front_each small 0 a.p a.y ly c.requires.2 c.loop-i.i (omega arith) in
    omega (arith, x, y)

pub loop-i-preserved : goal.loop-i-preserved
loop-i-preserved c =
    let a = c.args in
    let lx : a.p ≤ length a.x = omega (arith, array_length w64 max_objectives a.x _ c.well_formed.0) in
    let ly : a.p ≤ length a.y = omega (arith, array_length w64 max_objectives a.y _ c.well_formed.1.0) in
    adding_next a.x a.y a.p lx ly c.loop-i.i
    (omega arith) max_objectives c.loop-i.sum c.requires.0 c.loop-i.invariant

pub returns : goal.returns
returns c =
    let a = c.args in
    let lx : a.p ≤ length a.x = omega (arith, array_length w64 max_objectives a.x _ c.well_formed.0) in
    let ly : a.p ≤ length a.y = omega (arith, array_length w64 max_objectives a.y _ c.well_formed.1.0) in
    adding_end a.x a.y a.p lx ly max_objectives
    c.loop-i.i c.loop-i.sum (omega arith) c.loop-i.invariant
