-- The loop of `frames_of`: so many frames stand before the place.
use Rattle.std.proofs.Common.{◌-◌, length}
use Rattle.batch_frames.proofs.FramesRead.{Read}
use Rattle.batch_frames.proofs.frames_of.Given as goal

abbrev pub invariant-loop-at : goal.invariant-loop-at
invariant-loop-at l = Read l.batch l.at l.count

abbrev pub decreases-loop-at : goal.decreases-loop-at
decreases-loop-at l = length l.batch - l.at
