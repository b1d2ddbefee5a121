-- What `skip_zeros` leaves to show, by the zeros that come first.
use Rattle.std.proofs.Common.{arith}
use Rattle.text_words.proofs.Prefixes.{zeros_skipped}
use Rattle.text_words.proofs.skip_zeros.Goals as goal

pub returns : goal.returns
returns c =
    zeros_skipped c.args.s.now c.args.from c.zeros.result (omega arith) c.args.end c.requires.0 c.requires.1
    c.requires.2 c.zeros.ensures.0
