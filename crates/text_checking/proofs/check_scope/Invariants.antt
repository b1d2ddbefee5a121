-- The loop of `check_scope`: the variables so far are read into the list, and nothing is found.
use Rattle.std.proofs.Common.{◌≡◌}
use Rattle.text_words.specs.Reads.{words_at}
use Rattle.text_networks.specs.Findings.{term_at, value_at}
use Rattle.text_networks.specs.Networks.{declared_finding}
use Rattle.text_checking.specs.declared.Found.TheVariants.{Nothing}
use Rattle.text_checking.specs.Steps.{Holds}
use Rattle.text_checking.proofs.Runs.{RunRead}
use Rattle.text_checking.proofs.check_scope.Given as goal

abbrev pub invariant-loop-i : goal.invariant-loop-i
invariant-loop-i l =
    record {
      read : RunRead l.s (λ us. declared_finding l.variables (term_at 0 us)) 1 l.arity l.at l.i Nothing l.next;
      filled : Holds (λ k v. v ≡ value_at k (words_at l.s l.at)) l.i l.scope;
    }
