-- What `put_bytes` leaves to show: the bytes stand between what stood there.
use Rattle.std.proofs.Common.{◌≡◌, ◌+◌, ◌++◌, ℕ, List, length, take, drop, refl, arith}
use lib.Seq.{drop-drop}
use Rattle.text_lines.proofs.Writing.{unwritten, written_between}
use Rattle.text_reading.proofs.put_bytes.Goals as goal

part_written : (at n : ℕ) (bytes part out : List ℕ) → part ≡ bytes → length bytes ≡ n
    → take at out ++ (part ++ drop n (drop at out)) ≡ take at out ++ (bytes ++ drop (at + length bytes) out)
part_written at n bytes part out e long = rw (e, ← long, drop-drop (length bytes) at out) refl

pub returns-then-out-next : goal.returns-then-out-next
returns-then-out-next c = unwritten c.args.out.now refl c.if-out-next.true

pub returns : goal.returns
returns c =
    written_between c.args.at _ c.args.bytes.now c.args.out.now _ refl (omega (arith, c.if-out-next.false))
    (part_written c.args.at _ c.args.bytes.now _ c.args.out.now c.copy_from_slice.ensures.after (omega arith))
