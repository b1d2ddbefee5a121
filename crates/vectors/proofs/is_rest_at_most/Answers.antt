-- What the loop of `is_rest_at_most` leaves to show.
use Rattle.std.proofs.Common.{sym, arith}
use Rattle.vectors.proofs.Walking.{walked_start, walked_above, walked_within, walked_end}
use Rattle.vectors.proofs.is_rest_at_most.Goals as goal

pub loop-j-init : goal.loop-j-init
loop-j-init c = walked_start _ _ _ _ c.requires.0

pub returns-then-is_more : goal.returns-then-is_more
returns-then-is_more c =
    sym (walked_above c.loop-j.invariant c.requires.1 c.requires.2 (omega arith) (omega arith))

pub loop-j-preserved : goal.loop-j-preserved
loop-j-preserved c = walked_within c.loop-j.invariant c.requires.1 c.requires.2 (omega arith) (omega arith)

pub returns : goal.returns
returns c = sym (walked_end c.loop-j.invariant c.requires.1 c.requires.2 (omega arith))
