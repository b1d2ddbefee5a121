-- `sum` meets its contract: both arrays have four numbers.
use Rattle.std.proofs.Common.{◌≡◌, length}
use Rattle.model.specs.Limits.{max_objectives}
use Rattle.vectors.proofs.Fours.{added_listed}
use Rattle.vectors.proofs.sum.Goals as goal

pub returns : goal.returns
returns c =
    let a = c.args.a in
    let b = c.args.b in
    let la : length a ≡ max_objectives = c.well_formed.0.1.0.1 in
    let lb : length b ≡ max_objectives = c.well_formed.1.0.1.0.1 in
    added_listed a b la lb
