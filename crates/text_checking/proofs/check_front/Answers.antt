-- What `check_front` leaves to show.
use Rattle.std.proofs.Common.{arith}
use Rattle.text_checking.proofs.Fronts.{front_says}
use Rattle.text_checking.proofs.check_front.Goals as goal

pub returns : goal.returns
returns c =
    let a = c.args in
    front_says a.s.now a.start a.arity a.variables c.check_scope-over.new.scope (omega (arith, c.requires.2))
    c.requires.3 c.check_scope-over.result c.check_scope-over.ensures c.twice_code.result c.twice_code.ensures.0
    c.twice_code.ensures.1 c.check_counts-counts.result c.check_counts-counts.ensures c.and_then.result
    (rw (c.and_then-once.ensures, c.and_then-scoped.ensures) at c.and_then.ensures)
