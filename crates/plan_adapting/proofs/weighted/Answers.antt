-- What `weighted` leaves to show: the product is small.
use Rattle.std.proofs.Common.{arith}
use Rattle.model.proofs.Numbers.{product_small}
use Rattle.plan_adapting.proofs.weighted.Goals as goal

pub returns : goal.returns
returns c =
    product_small 4096 4294967296 c.min.result c.min-2.result (omega arith) (omega arith)
