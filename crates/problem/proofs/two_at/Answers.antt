-- Byte `at` and 256 times the byte behind it.
use Rattle.std.proofs.Common.{arith}
use lib.Seq.{get_or-drop}
use Rattle.model.specs.Reading.{word2}
use Rattle.model.proofs.Lists.{get_d_first}
use Rattle.problem.proofs.two_at.Goals as goal

pub returns : goal.returns
unfolding word2
returns c = (simp (get_d_first, get_or-drop) (omega arith), omega arith)
