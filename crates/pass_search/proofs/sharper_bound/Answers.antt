-- What `sharper_bound` leaves to show: a bound is small enough that no gain makes it wrap.
use Rattle.std.proofs.Common.{◌+◌, ◌*◌, ◌≤◌, arith}
use Rattle.model.specs.Core.{core_sum_end}
use Rattle.model.proofs.Elements.{all_map}
use Rattle.vectors.specs.Fronts.{Half}
use Rattle.vectors.proofs.Fours.{four_half}
use Rattle.layout.specs.Layout.{gains_at}
use Rattle.pass_search.proofs.sharper_bound.Goals as goal

pub sum-requires : goal.sum-requires
sum-requires c = (
  all_map (λ b. b ≤ core_sum_end) Half (λ b l. omega arith) c.args.x.bound c.requires.2,
  rw c.numbers_at-gains.ensures
      (four_half c.args.work.now (gains_at + 4 * c.args.x.len) (omega (arith, c.requires.0, c.requires.1))
      (λ i. omega (arith, c.type_inv.work i))),
)
