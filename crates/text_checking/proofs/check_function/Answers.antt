-- What `check_function` leaves to show: nothing is found only where the arity is small.
use Rattle.std.proofs.Common.{◌∙◌, arith, rules}
use Rattle.text_checking.proofs.Fields.{arity_code}
use Rattle.text_checking.proofs.Functions.{arity_few, function_says}
use Rattle.text_checking.proofs.check_function.Goals as goal

pub check_wide-requires : goal.check_wide-requires
check_wide-requires c =
    let says = c.read_number-x.ensures in (
      says.within,
      c.requires.1,
      λ z.
          let (before, fits) = arity_few says c.args.found c.and_then.result c.limited.result
          (c.limited.ensures ∙ arity_code says) c.and_then.ensures z in
          (fits, c.requires.3 before),
    )

pub returns-then-arity-gt3 : goal.returns-then-arity-gt3
returns-then-arity-gt3 c =
    let says = c.read_number-x.ensures in
    function_says says c.args.found c.and_then.result c.limited.result (c.limited.ensures ∙ arity_code says)
    c.and_then.ensures c.args.declared c.check_wide.result (omega (arith, c.well_formed.0.0)) c.check_wide.ensures

pub check_over-requires : goal.check_over-requires
check_over-requires c =
    let says = c.read_number-x.ensures in (
      says.within,
      c.requires.1,
      search rules,
      λ z.
          let (before, fits) = arity_few says c.args.found c.and_then.result c.limited.result
          (c.limited.ensures ∙ arity_code says) c.and_then.ensures z in
          (fits, c.requires.3 before),
    )

pub returns : goal.returns
returns c =
    let says = c.read_number-x.ensures in
    function_says says c.args.found c.and_then.result c.limited.result (c.limited.ensures ∙ arity_code says)
    c.and_then.ensures c.args.declared c.check_over.result (omega (arith, c.well_formed.0.0)) c.check_over.ensures
