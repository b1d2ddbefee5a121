-- What the loop of `largest_of` leaves to show.
use Rattle.std.proofs.Common.{◌≡◌, ◌<◌, ◌≤◌, ℕ, List, suc, length, get_or, drop, ap, add-one, arith, drop-cons}
use Prim.Native.Nat.{max}
use lib.ListN.{drop_of_length-le}
use Rattle.text_networks.specs.Networks.{largest_of}
use Rattle.text_writing.proofs.largest_of.Goals as goal

next : (ds : List ℕ) (i : ℕ) → i < length ds
    → largest_of (drop i ds) ≡ max (get_or ds i 0) (largest_of (drop (suc i) ds))
unfolding largest_of
next ds i h = ap largest_of (drop-cons ds i 0 h)

none : (ds : List ℕ) (i : ℕ) → length ds ≤ i → largest_of (drop i ds) ≡ 0
unfolding largest_of
none ds i h = ap largest_of (drop_of_length-le ds {i = i} h)

pub loop-size-preserved : goal.loop-size-preserved
loop-size-preserved c =
    let ds : List ℕ = c.args.sizes.now in
    let i : ℕ = c.loop-size.size-index in
    rw add-one (omega (arith, next ds i (omega arith), c.max-largest.ensures, c.loop-size.invariant))

pub returns : goal.returns
returns c =
    omega (arith, none c.args.sizes.now c.loop-size.size-index (omega arith), c.loop-size.invariant)
