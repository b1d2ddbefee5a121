-- What `word_end` leaves to show, by the bytes that come first.
use Rattle.text_words.proofs.Prefixes.{word_ends}
use Rattle.text_words.proofs.word_end.Goals as goal

pub returns : goal.returns
returns c = word_ends c.args.s.now c.args.at c.solids.result c.requires c.solids.ensures.0
