-- What the loop of `scope_ok` leaves to show.
use Rattle.std.proofs.Common.{◌≡◌, sym, ◌∙◌, ◌+◌, ◌-◌, arith}
use Rattle.model.specs.Problems.{scope_rule}
use Rattle.problem.proofs.ScopeRule.{scope_high, scope_twice, scope_goes}
use Rattle.problem.proofs.scope_ok.Goals as goal
use Rattle.problem.proofs.scope_ok.Goals.{then-n-v-via-then-n-v, then-n-v-via-else-n-v+then-is_named}

pub returns-then-n-v : goal.returns-then-n-v
returns-then-n-v c =
    let i = c.loop-i.i in
    let further : c.args.at + (i + 1) ≡ c.args.at + i + 1 = omega arith in
    let fewer : c.args.arity - (i + 1) ≡ c.args.arity - i - 1 = omega arith in
    elim c.then-n-v.branch [
      | then-n-v-via-then-n-v w ↦
          sym (sym c.loop-i.invariant
          ∙ scope_high c.args.s.now c.args.at c.args.arity i c.requires c.loop-i-test.true c.args.n w.if-n-v.true)
      | then-n-v-via-else-n-v+then-is_named w ↦
          sym (sym c.loop-i.invariant
          ∙ scope_twice c.args.s.now c.args.at c.args.arity i c.requires c.loop-i-test.true c.args.n w.if-n-v.false
          (rw (further, fewer) (sym w.is_named.ensures ∙ w.if-is_named.true)))
    ]

pub loop-i-preserved : goal.loop-i-preserved
loop-i-preserved c =
    let i = c.loop-i.i in
    let further : c.args.at + (i + 1) ≡ c.args.at + i + 1 = omega arith in
    let fewer : c.args.arity - (i + 1) ≡ c.args.arity - i - 1 = omega arith in
    sym (scope_goes c.args.s.now c.args.at c.args.arity i c.requires c.loop-i-test.true c.args.n c.if-n-v.false
    (rw (further, fewer) (sym c.is_named.ensures ∙ c.if-is_named.false)))
    ∙ c.loop-i.invariant

pub returns : goal.returns
unfolding scope_rule
returns c =
    let none : c.args.arity - c.loop-i.i ≡ 0 = omega arith in
    rw none at c.loop-i.invariant
