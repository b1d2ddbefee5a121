-- What `check_head` leaves to show: four numbers in a row.
use Rattle.std.proofs.Common.{◌∙◌}
use Rattle.text_checking.proofs.Fields.{variables_code, largest_code, functions_code, bound_code}
use Rattle.text_checking.proofs.Heads.{head_says}
use Rattle.text_checking.proofs.check_head.Goals as goal

pub returns : goal.returns
returns c =
    let first = c.read_number-variables in
    let second = c.read_number-largest in
    let third = c.read_number-functions in
    let fourth = c.read_number-bound in
    head_says c.args.s.now c.args.at first.result second.result third.result fourth.result first.ensures
    second.ensures third.ensures fourth.ensures c.limited.result c.limited-2.result c.limited-3.result
    c.limited-4.result (c.limited.ensures ∙ variables_code first.ensures)
    (c.limited-2.ensures ∙ largest_code second.ensures) (c.limited-3.ensures ∙ functions_code third.ensures)
    (c.limited-4.ensures ∙ bound_code fourth.ensures) c.and_then.result
    (rw (c.and_then-sizes.ensures, c.and_then-costs.ensures) at c.and_then.ensures)
