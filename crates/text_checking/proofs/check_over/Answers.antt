-- What `check_over` leaves to show: it is decided before the tuples, or the sizes of the scope are those of the tuples.
use Rattle.std.proofs.Common.{◌≡◌, ◌∙◌, List, ℕ, min, length, take, arith}
use Rattle.std.proofs.lemmas.List.{length-take}
use Rattle.text_checking.proofs.Overs.{over_sizes, over_decided, over_plain, over_says}
use Rattle.text_checking.proofs.check_over.Goals as goal

pub check_front-counted-requires : goal.check_front-counted-requires
check_front-counted-requires c = (c.requires.0, c.requires.1.few, c.requires.2, λ z. (c.requires.3 z).0)

pub returns-then-decides : goal.returns-then-decides
returns-then-decides c =
    let a = c.args in
    over_decided a.s.now a.start a.arity a.declared c.check_front-counted.new.scope c.check_front-counted.result
    c.check_front-counted.ensures (c.decides.ensures.0 c.if-decides.true)

pub check_table-requires : goal.check_table-requires
check_table-requires c =
    let a = c.args in
    let front = c.check_front-counted in
    let near = c.min-near.result in
    let scope : List ℕ = c.to_entries.new.scope in
    let light = c.decides.ensures.1 c.if-decides.false in
    let room : near ≡ min a.arity (length front.new.scope) = omega (arith, c.min-near.ensures, front.auto.scope) in
    let long : length scope ≡ length front.new.scope = omega (arith, c.to_entries.auto.scope) in
    let taken : length (take near scope) ≡ near = length-take near scope ∙ omega arith in
    let sizes = over_sizes a.s.now a.start.next a.arity near a.declared front.new.scope scope room long
    (front.ensures.filled light) c.to_entries.ensures c.far_of-far.result c.far_of-far.ensures in (
      front.ensures.within,
      c.far_of-far.ensures.within,
      c.requires.1,
      light,
      over_plain a.s.now a.start a.arity a.declared front.new.scope front.result front.ensures c.requires.3
          (take near scope) c.far_of-far.result (taken ∙ room) (omega (arith, front.auto.scope, c.requires.2))
          (c.far_of-far.ensures.count ∙ rw taken) sizes,
    )

pub returns : goal.returns
returns c =
    let a = c.args in
    let front = c.check_front-counted in
    let near = c.min-near.result in
    let scope : List ℕ = c.to_entries.new.scope in
    let light = c.decides.ensures.1 c.if-decides.false in
    let room : near ≡ min a.arity (length front.new.scope) = omega (arith, c.min-near.ensures, front.auto.scope) in
    let long : length scope ≡ length front.new.scope = omega (arith, c.to_entries.auto.scope) in
    let sizes = over_sizes a.s.now a.start.next a.arity near a.declared front.new.scope scope room long
    (front.ensures.filled light) c.to_entries.ensures c.far_of-far.result c.far_of-far.ensures in
    over_says a.s.now a.start a.arity a.declared front.new.scope front.result front.ensures
    (omega (arith, c.well_formed.0.0)) light _ sizes c.check_table.result c.check_table.ensures
