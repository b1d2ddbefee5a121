-- The loop of `largest_of`: the largest size met, with those ahead.
use Rattle.std.proofs.Common.{◌≡◌, drop}
use Prim.Native.Nat.{max}
use Rattle.text_networks.specs.Networks.{largest_of}
use Rattle.text_writing.proofs.largest_of.Given as goal

abbrev pub invariant-loop-size : goal.invariant-loop-size
invariant-loop-size l = max l.largest (largest_of (drop l.size-index l.sizes)) ≡ largest_of l.sizes
