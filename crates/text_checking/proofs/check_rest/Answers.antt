-- What `check_rest` leaves to show: the head decides.
use Rattle.text_checking.proofs.Bodies.{head_decides}
use Rattle.text_checking.proofs.check_rest.Goals as goal

pub returns-then-decides : goal.returns-then-decides
returns-then-decides c = head_decides c.check_head-head.ensures (c.decides.ensures.0 c.if-decides.true)
