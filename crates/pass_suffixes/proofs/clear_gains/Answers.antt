-- What `clear_gains` leaves to show: the gains' places hold zeros, and the rest of work memory is as it was.
use Rattle.std.proofs.Common.{List, ℕ, ◌+◌, ◌≡◌, ◌≤◌, ◌++◌, replicate, take, drop, length, refl, arith}
use Rattle.std.proofs.Common.{append_assoc, length-drop, drop-drop, length-take-le}
use Rattle.layout.specs.Layout.{gains_at, source_at}
use borrow.Rule.Slice.PartMut.{put_mid}
use Rattle.pass_suffixes.proofs.clear_gains.Goals as goal

filled : (a k e : ℕ) (work zeros : List ℕ) → e ≡ a + k → e ≤ length work
    → zeros ≡ replicate (length (take k (drop a work))) 0
    → put_mid a k work zeros ≡ take a work ++ replicate k 0 ++ drop e work
filled a k e work zeros ends long is =
    let count : length (take k (drop a work)) ≡ k =
    length-take-le k (drop a work) (omega (arith, length-drop a work)) in
    rw (is, count, ends, drop-drop k a work, append_assoc)

pub returns : goal.returns
returns c =
    filled gains_at 100 source_at c.args.work.now c.fill.new.self refl c.requires (c.fill.ensures.after (λ y e. e))
