-- What `check_body` leaves to show, by the laws of a body.
use Rattle.std.proofs.Common.{◌∙◌, arith}
use borrow.Author.Tests.{not-true, not-false}
use Rattle.text_checking.proofs.Bodies.{body_decided, body_unmet, index_says, plain_limits, body_says}
use Rattle.text_checking.proofs.check_body.Goals as goal

pub bare-most-requires : goal.bare-most-requires
bare-most-requires c = c.requires.0.digits c.requires.1

pub returns-then-decides : goal.returns-then-decides
returns-then-decides c =
    body_decided c.requires.0 c.requires.1 (omega (arith, c.well_formed.0.0)) c.check_sizes-sizes.new.index _
    (c.bare-most.ensures.1 ∙ c.requires.0.largest c.requires.1) c.check_sizes-sizes.result
    c.check_sizes-sizes.ensures c.and_then-finding.result c.and_then-finding.ensures
    (c.decides.ensures.0 c.if-decides.true)

pub returns-then-not-sizes : goal.returns-then-not-sizes
returns-then-not-sizes c =
    body_unmet c.requires.0 c.requires.1 (omega (arith, c.well_formed.0.0)) c.check_sizes-sizes.new.index _
    (c.bare-most.ensures.1 ∙ c.requires.0.largest c.requires.1) c.check_sizes-sizes.result
    c.check_sizes-sizes.ensures c.and_then-finding.result c.and_then-finding.ensures
    (c.decides.ensures.1 c.if-decides.false) (not-true _ c.if-not-sizes.true)

pub check_functions-requires : goal.check_functions-requires
check_functions-requires c =
    let says = c.requires.0 in
    let light = c.decides.ensures.1 c.if-decides.false in
    let same = c.bare-most.ensures.1 ∙ says.largest c.requires.1 in
    let sizes = c.check_sizes-sizes in (
      sizes.ensures.step.within,
      index_says says c.requires.1 (omega (arith, c.well_formed.0.0)) sizes.new.index _ same sizes.result sizes.ensures
          c.and_then-finding.result c.and_then-finding.ensures light,
      light,
      plain_limits says c.requires.1 (omega (arith, c.well_formed.0.0)) sizes.new.index _ same sizes.result
          sizes.ensures c.and_then-finding.result c.and_then-finding.ensures light c.front_bytes.result
          c.front_bytes.ensures,
    )

pub returns : goal.returns
returns c =
    body_says c.requires.0 c.requires.1 (omega (arith, c.well_formed.0.0)) c.check_sizes-sizes.new.index _
    (c.bare-most.ensures.1 ∙ c.requires.0.largest c.requires.1) c.check_sizes-sizes.result
    c.check_sizes-sizes.ensures c.and_then-finding.result c.and_then-finding.ensures
    (c.decides.ensures.1 c.if-decides.false) c.front_bytes.result c.front_bytes.ensures
    (not-false _ c.if-not-sizes.false)
    c.check_functions.result c.check_functions.ensures
