-- What `least_row` leaves to show.
use Rattle.std.proofs.Common.{◌≡◌, ℕ, ◌+◌, arith, add-zero}
use Rattle.model.specs.Bounds.{least_to}
use Rattle.problem.proofs.Scopes.{whole_ends}
use Rattle.costs.specs.Entries.{number_at}
use Rattle.costs.proofs.LeastSteps.{least_grown}
use Rattle.costs.proofs.least_row.Goals as goal

pub loop-i-init : goal.loop-i-init
unfolding least_to
loop-i-init c = rw (c.number_at-least.ensures, add-zero)

pub overflow_add-first : goal.overflow_add-first
overflow_add-first c = omega (arith, whole_ends c.args.sizes.now c.args.s.now c.args.at c.requires.0)

pub loop-i-preserved : goal.loop-i-preserved
loop-i-preserved c =
    let a = c.args in
    let f : ℕ → ℕ = λ j. number_at a.sizes.now a.s.now a.at (a.first + j) in
    least_grown c.loop-i.i f c.loop-i.invariant c.number_at.ensures c.min-least.ensures

pub returns : goal.returns
returns c =
    let k : c.loop-i.i ≡ c.args.count = omega arith in
    rw k at c.loop-i.invariant
