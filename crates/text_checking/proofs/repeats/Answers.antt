-- What `repeats` leaves to show, by the number of variables and those that are the same.
use Rattle.std.proofs.Common.{sym, ◌∙◌, arith}
use borrow.Author.Tests.{eq-eqb, ne_eqb}
use Rattle.text_checking.proofs.Scopes.{repeats_none, repeats_first, repeats_two, repeats_three}
use Rattle.text_checking.proofs.repeats.Goals as goal

pub returns-then-arity-lt2 : goal.returns-then-arity-lt2
returns-then-arity-lt2 c = sym (repeats_none c.args.arity c.args.scope.now c.if-arity-lt2.true)

pub returns-then-b-a : goal.returns-then-b-a
returns-then-b-a c =
    sym (repeats_first c.args.arity c.args.scope.now (omega arith) c.requires.1 c.if-b-a.true)

pub returns-then-arity-lt3 : goal.returns-then-arity-lt3
returns-then-arity-lt3 c =
    sym (repeats_two c.args.arity c.args.scope.now (omega arith) c.requires.1 c.if-b-a.false)

pub returns-then-c-a : goal.returns-then-c-a
returns-then-c-a c =
    sym (repeats_three c.args.arity c.args.scope.now (omega arith) c.requires.1 c.if-b-a.false
    ∙ rw (eq-eqb _ _ c.if-c-a.true))

pub returns : goal.returns
returns c =
    sym (repeats_three c.args.arity c.args.scope.now (omega arith) c.requires.1 c.if-b-a.false
    ∙ rw (ne_eqb _ _ c.if-c-a.false))
