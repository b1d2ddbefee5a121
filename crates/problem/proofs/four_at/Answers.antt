-- A four-byte number is two two-byte numbers.
use Rattle.std.proofs.Common.{arith}
use lib.Seq.{get_or-drop}
use Rattle.model.specs.Reading.{word2, word4}
use Rattle.model.proofs.Lists.{get_d_first}
use Rattle.problem.proofs.four_at.Goals as goal

pub returns : goal.returns
unfolding word2 word4
returns c = simp (get_d_first, get_or-drop) (omega arith)
