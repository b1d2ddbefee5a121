-- What the loop of `has_side` leaves to show.
use Rattle.std.proofs.Common.{◌<◌, ◌∙◌, sym, length, arith, eq-eqb, ne_eqb}
use Rattle.model.specs.Cuts.{has_side}
use Rattle.problem.proofs.Scopes.{scope_next, scope_end, scope_each}
use Rattle.views.proofs.has_side.Goals as goal

pub side_at-requires : goal.side_at-requires
side_at-requires c =
    let a = c.args in
    let head = c.requires.0 in (
      head,
      omega arith,
      scope_each a.s.now a.at head (λ v. v < length a.sides.now) c.requires.1 c.loop-i.i (omega arith),
    )

pub returns-then-side_at-side : goal.returns-then-side_at-side
unfolding has_side
returns-then-side_at-side c =
    rw (
      scope_next c.args.s.now c.args.at c.requires.0 c.loop-i.i (omega arith),
      eq-eqb _ _ (sym c.side_at.ensures ∙ c.if-side_at-side.true),
    ) at c.loop-i.invariant

pub loop-i-preserved : goal.loop-i-preserved
unfolding has_side
loop-i-preserved c =
    rw (
      scope_next c.args.s.now c.args.at c.requires.0 c.loop-i.i (omega arith),
      ne_eqb _ _ (λ e. c.if-side_at-side.false (c.side_at.ensures ∙ e)),
    ) at c.loop-i.invariant

pub returns : goal.returns
unfolding has_side
returns c = rw (scope_end c.args.s.now c.args.at c.loop-i.i (omega arith)) at c.loop-i.invariant
