-- The loop of `check_sizes`: the sizes so far are read into the index; whether one is the largest that is stated.
use Rattle.std.proofs.Common.{◌≡◌}
use Rattle.text_words.specs.Texts.{value_from}
use Rattle.text_words.specs.Reads.{words_at, numeral}
use Rattle.text_networks.specs.Findings.{term_at, value_at}
use Rattle.text_networks.specs.Networks.{size_finding}
use Rattle.text_checking.specs.Sizes.{size_held}
use Rattle.text_checking.specs.Steps.{Holds}
use Rattle.text_checking.proofs.Runs.{RunRead}
use Rattle.text_checking.proofs.SizeRuns.{MetRead}
use Rattle.text_checking.proofs.check_sizes.Given as goal

abbrev pub invariant-loop-i : goal.invariant-loop-i
invariant-loop-i l =
    record {
      read :
          RunRead l.s (λ us. size_finding (value_from 0 (numeral l.s l.most)) (term_at 0 us)) 1 l.n l.at l.i l.finding
          l.next;
      largest : MetRead l.s l.at l.n (value_from 0 (numeral l.s l.most)) l.i l.next l.met;
      held : Holds (λ v e. size_held l.s e ≡ value_at v (words_at l.s l.at)) l.i l.index;
    }
