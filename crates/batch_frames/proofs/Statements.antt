-- The promises about batches, from the theorems.
use Rattle.batch_frames.specs.Statements.{BatchLaws}
use Rattle.batch_frames.proofs.Framing.{framed, framed_bytes, nothing_else}
use Rattle.batch_frames.proofs.Accepted.{numbers, accepted_is, taken_is, refused, empty}
use Rattle.batch_frames.proofs.Areas.{each, beyond}
use Rattle.batch_frames.proofs.Memory.{memory}
use Rattle.batch_frames.proofs.Room.{room}

pub batch_laws : BatchLaws
batch_laws =
    record {
      framed = framed;
      framed_bytes = framed_bytes;
      nothing_else = nothing_else;
      numbers = numbers;
      accepted_is = accepted_is;
      taken_is = taken_is;
      refused = refused;
      empty = empty;
      each = each;
      beyond = beyond;
      memory = memory;
      room = room;
    }
