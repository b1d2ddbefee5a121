-- What the loop of `add_group` leaves to show.
use Rattle.std.proofs.Common.{sym, ◌∙◌, arith}
use Rattle.problem.specs.Records.{Whole}
use Rattle.problem.proofs.Scopes.{whole_inside}
use Rattle.groups.proofs.Keeping.{group_keeps}
use Rattle.groups.proofs.Adding.{adding_start, adding_length, adding_has, adding_skip, adding_below}
use Rattle.groups.proofs.Adding.{adding_next}
use Rattle.groups.proofs.PlacedRecords.{group_apart}
use Rattle.groups.proofs.add_group.Goals as goal
use Rattle.groups.proofs.add_group.Goals.{then-has_variable, else-has_variable}

pub loop-i-init : goal.loop-i-init
loop-i-init c =
    let a = c.args in
    let q = c.requires in
    adding_start (group_keeps a.s.now a.v) (group_apart a.sizes.now a.s.now a.work.now a.r q.0 a.v a.from q.2)

pub has_variable-requires : goal.has_variable-requires
has_variable-requires c =
    let a = c.args in
    whole_inside a.sizes.now a.s.now _
    (adding_has c.loop-i.invariant (omega arith) (Whole a.sizes.now a.s.now) c.requires.0.whole)

pub bounds-work-end : goal.bounds-work-end
bounds-work-end c =
    let u = c.loop-i.invariant in
    let has = sym c.has_variable.ensures ∙ c.if-has_variable.true in
    omega (arith, adding_below u (omega arith) has, c.requires.2, u.parts.inside, adding_length u)

pub loop-i-preserved : goal.loop-i-preserved
loop-i-preserved c =
    let u = c.loop-i.invariant in
    let says = sym c.has_variable.ensures in
    elim c.if-has_variable.branch [
      | then-has_variable w ↦
          rw (w.work-is, w.end-is) (adding_next u (omega arith) (says ∙ w.if-has_variable.true))
      | else-has_variable w ↦
          rw (w.work-is, w.end-is) (adding_skip u (omega arith) (says ∙ w.if-has_variable.false))
    ]
