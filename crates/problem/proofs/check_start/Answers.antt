-- At each return the tests that led there say which row of `start_number` holds.
use lib.ListN.{length-drop}
use lib.Seq.{get_or-drop}
use borrow.Author.Tests.{lt-ltb, le-ltb, eq-eqb, ne_eqb}
use Rattle.model.specs.Basics.{first_of}
use Rattle.model.specs.Reading.{start_number}
use Rattle.model.proofs.Lists.{get_d_first}
use Rattle.problem.proofs.check_start.Goals as goal
use Rattle.problem.proofs.check_start.Goals.{then-s-at-via-then-s-at, then-s-at-via-else-s-at+then-s-at-2}

pub returns-then-left-lt2 : goal.returns-then-left-lt2
unfolding first_of start_number
returns-then-left-lt2 c = simp (length-drop, lt-ltb _ _ c.if-left-lt2.true)

pub returns-then-s-at : goal.returns-then-s-at
unfolding first_of start_number
returns-then-s-at c =
    elim c.then-s-at.branch [
      | then-s-at-via-then-s-at w ↦
          simp (length-drop, get_d_first, get_or-drop, le-ltb _ _ c.if-left-lt2.false, ne_eqb _ _ w.if-s-at.true)
      | then-s-at-via-else-s-at+then-s-at-2 w ↦
          simp (
            length-drop,
            get_d_first,
            get_or-drop,
            le-ltb _ _ c.if-left-lt2.false,
            eq-eqb _ _ w.if-s-at.false,
            ne_eqb _ _ w.if-s-at-2.true,
          )
    ]

pub returns-then-left-fields : goal.returns-then-left-fields
unfolding first_of start_number
returns-then-left-fields c =
    simp (
      length-drop,
      get_d_first,
      get_or-drop,
      le-ltb _ _ c.if-left-lt2.false,
      eq-eqb _ _ c.if-s-at.false,
      eq-eqb _ _ c.if-s-at-2.false,
      lt-ltb _ _ c.if-left-fields.true,
    )

pub returns : goal.returns
unfolding first_of start_number
returns c =
    simp (
      length-drop,
      get_d_first,
      get_or-drop,
      le-ltb _ _ c.if-left-lt2.false,
      eq-eqb _ _ c.if-s-at.false,
      eq-eqb _ _ c.if-s-at-2.false,
      le-ltb _ _ c.if-left-fields.false,
    )
