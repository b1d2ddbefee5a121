-- The loop of `put_spaced`: the numbers left will complete the form.
use Rattle.std.proofs.Common.{drop}
use Rattle.text_words.specs.Texts.{spaced}
use Rattle.text_lines.proofs.Writing.{Underway}
use Rattle.text_lines.proofs.put_spaced.Given as goal

abbrev pub invariant-loop-n : goal.invariant-loop-n
invariant-loop-n l =
    Underway l.at (spaced l.numbers) l.initial.out (spaced (drop l.n-index l.numbers)) l.out l.next
