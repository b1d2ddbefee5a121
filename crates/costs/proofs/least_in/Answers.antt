-- What `least_in` leaves to show.
use Rattle.std.proofs.Common.{◌≡◌, ap, ◌∙◌, ℕ, ◌+◌, ◌-◌, ◌*◌, ◌≤◌, ◌<◌, arith, zero-mul, add-zero}
use Rattle.model.specs.Bounds.{least_to}
use Rattle.problem.proofs.Scopes.{whole_ends}
use Rattle.costs.specs.Entries.{number_at}
use Rattle.costs.proofs.LeastSteps.{least_grown}
use Rattle.costs.proofs.LeastRuns.{row_next, row_inside}
use Rattle.costs.proofs.least_in.Goals as goal

-- where the next row starts, and that it lies in the table
moved : (first stride here i : ℕ) → here ≡ first + (i - 1) * stride → 1 ≤ i → here + stride ≡ first + i * stride
moved first stride here i e h = omega (arith, e, row_next first stride i h)

inside : (first stride count rows here i entries : ℕ) → here ≡ first + (i - 1) * stride → 1 ≤ i → i < rows
    → first + (rows - 1) * stride + count ≤ entries → here + stride + count ≤ entries
inside first stride count rows here i entries e h l fit =
    omega (arith, moved first stride here i e h, row_inside first stride count rows i l, fit)

pub least_row-least-requires : goal.least_row-least-requires
least_row-least-requires c = (c.requires.0, c.requires.1.some, omega (arith, c.requires.1.inside))

pub loop-init : goal.loop-init
unfolding least_to
loop-init c =
    let r = c.args.runs in
    (omega (arith, zero-mul r.stride), rw (zero-mul r.stride, add-zero r.first) c.least_row-least.ensures)

pub overflow_add-here : goal.overflow_add-here
overflow_add-here c =
    let r = c.args.runs in
    omega (
      arith,
      inside r.first r.stride r.count r.rows c.loop.here c.loop.counter _ c.loop.invariant.0 c.loop.auto.counter
          c.loop-test.true c.requires.1.inside,
      whole_ends c.args.sizes.now c.args.s.now c.args.at c.requires.0,
    )

pub least_row-requires : goal.least_row-requires
least_row-requires c =
    let r = c.args.runs in (
      c.requires.0,
      c.requires.1.some,
      inside r.first r.stride r.count r.rows c.loop.here c.loop.counter _ c.loop.invariant.0 c.loop.auto.counter
          c.loop-test.true c.requires.1.inside,
    )

pub loop-preserved : goal.loop-preserved
loop-preserved c =
    let a = c.args in
    let r = a.runs in
    let i = c.loop.counter in
    let rowed : ℕ → ℕ = λ h. least_to (r.count - 1) (λ b. number_at a.sizes.now a.s.now a.at (h + b)) in
    let next = moved r.first r.stride c.loop.here i c.loop.invariant.0 c.loop.auto.counter in
    let same : i + 1 - 1 ≡ i = omega arith in
    let row : c.least_row.result ≡ rowed (r.first + i * r.stride) = c.least_row.ensures ∙ ap rowed next in
    let grown =
    least_grown i (λ j. rowed (r.first + j * r.stride)) c.loop.invariant.1 row c.min-least.ensures in
    (rw same next, grown)

pub returns : goal.returns
returns c =
    let all : c.loop.counter ≡ c.args.runs.rows = omega (arith, c.requires.1.row) in
    rw all at c.loop.invariant.1
