-- What `next_word` leaves to show, by the laws of the first word.
use Rattle.text_words.proofs.FirstWord.{word_some, word_none}
use Rattle.text_words.proofs.next_word.Goals as goal

pub returns : goal.returns
returns c =
    let skipped = c.skip_space-start.ensures in
    let ends = c.word_end-end.ensures in
    record {
      after = skipped.after;
      ordered = ends.after;
      within = ends.within;
      none = word_none _ _ _ _ skipped ends;
      some = word_some _ _ _ _ skipped ends;
    }
