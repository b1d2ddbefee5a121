-- What `skip_space` leaves to show, by the bytes that come first.
use Rattle.text_words.proofs.Prefixes.{skipped}
use Rattle.text_words.proofs.skip_space.Goals as goal

pub returns : goal.returns
returns c = skipped c.args.s.now c.args.at c.spaces.result c.requires c.spaces.ensures.0
