-- The loop of `holds_at`: `Holding`: the messages before number `g` and what is left over are at most what the bucket
-- holds and what the rest counts from.
use Rattle.plan_test.specs.Parts.{Holding}
use Rattle.plan_test.proofs.holds_at.Given as goal

abbrev pub invariant-loop-g : goal.invariant-loop-g
invariant-loop-g l = Holding l.d l.sizes l.s l.plan l.k l.g l.held
