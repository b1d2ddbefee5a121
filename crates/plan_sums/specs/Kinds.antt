-- The kinds of plans by their numbers, in the order in which a search turns to them.
use Rattle.std.specs.Prelude.{ℕ, eqb}
use Rattle.model.specs.Basics.{pick}
use Rattle.plan_sums.specs.declared.Kind.{Kind}
use Rattle.plan_sums.specs.declared.Kind.TheVariants.{Spreads, Slacks, Fill, Alone}

-- a number past the last kind says the first
abbrev pub kind_numbered : ℕ → Kind
kind_numbered n = pick (eqb n 1) Slacks (pick (eqb n 2) Fill (pick (eqb n 3) Alone Spreads))
