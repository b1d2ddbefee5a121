-- The orders by their numbers, which are those of the kinds of plans that have them.
use Rattle.std.specs.Prelude.{ℕ, eqb}
use Rattle.model.specs.Basics.{pick}
use Rattle.plan_order.specs.declared.Order.{Order}
use Rattle.plan_order.specs.declared.Order.TheVariants.{Links, LinksFirst, Fill, Own}

-- a number past the last order says the first
abbrev pub order_numbered : ℕ → Order
order_numbered n = pick (eqb n 1) LinksFirst (pick (eqb n 2) Fill (pick (eqb n 3) Own Links))
