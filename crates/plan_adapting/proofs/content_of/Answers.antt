-- What `content_of` leaves to show: every index was tested, and a prefix of all variables is a choice.
use Rattle.std.proofs.Common.{◌≡◌, ◌≤◌, length, take, sym, ◌∙◌, arith, length-take-le, rules}
use Rattle.branch_buckets.proofs.ContentRows.{planned_fewer}
use Rattle.plan_numbers.proofs.Choices.{whole_prefix}
use Rattle.plan_adapting.proofs.content_of.Goals as goal

pub content-requires : goal.content-requires
content-requires c =
    let a = c.args in
    let many : length a.x ≡ 24 = search rules in
    let few : length a.sizes.now ≤ 24 = c.requires.variables in (
      planned_fewer c.requires _ (omega arith),
      record { records = omega arith; children = omega arith; children_end = omega arith },
      omega arith,
      whole_prefix a.sizes.now (take (length a.sizes.now) a.x)
          (sym c.prefix_ok.ensures ∙ c.if-prefix_ok.true)
          (length-take-le (length a.sizes.now) a.x (omega arith)),
    )
