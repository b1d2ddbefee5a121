-- What `check_cost` leaves to show.
use Rattle.std.proofs.Common.{◌∙◌}
use Rattle.text_checking.proofs.Fields.{cost_code}
use Rattle.text_checking.proofs.check_cost.Goals as goal

pub returns : goal.returns
returns c =
    let says = c.read_number-x.ensures in
    record { finding = c.limited.ensures ∙ cost_code says; within = says.within; words = λ _. says.rest }
