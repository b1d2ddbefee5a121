-- What `change_of` leaves to show: the product is small.
use Rattle.std.proofs.Common.{arith}
use Rattle.model.proofs.Numbers.{product_small}
use Rattle.plan_adapting.proofs.change_of.Goals as goal

pub overflow_mul-result : goal.overflow_mul-result
overflow_mul-result c =
    omega (arith, product_small 128 1125899906842624 c.min.result c.min-2.result (omega arith) (omega arith))
