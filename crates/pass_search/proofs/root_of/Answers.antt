-- What `root_of` leaves to show: the empty choice, with the sums over all records that are searched.
use Rattle.std.proofs.Common.{ℕ, ◌+◌, ◌-◌, ◌≡◌, refl, arith}
use Rattle.model.specs.Bounds.{prefix_ok}
use Rattle.layout.specs.Layout.{records_at}
use Rattle.pass_search.proofs.root_of.Goals as goal

-- they are r records
all : (r : ℕ) → records_at + r - records_at ≡ r
all r = omega arith

pub bounds_over-bound-requires : goal.bounds_over-bound-requires
unfolding prefix_ok
bounds_over-bound-requires c =
    let q = c.requires in (
      q.small,
      omega arith,
      omega (arith, q.few, q.long),
      omega (arith, q.few),
      rw (all c.args.r) q.whole,
      refl,
    )

pub returns : goal.returns
unfolding prefix_ok
returns c =
    (refl, record { short = omega arith; good = refl; exact = rw (all c.args.r) at c.bounds_over-bound.ensures })
