-- What `check_counts` leaves to show: a default cost, and then a number of tuples.
use Rattle.std.proofs.Common.{sym, ap, ◌∙◌, [], ◌<◌, min, get_or}
use Rattle.std.proofs.Math.Seq.{drop-drop}
use Rattle.model.proofs.Lists.{get_d_first}
use Rattle.text_words.specs.Texts.{term_of, value_of}
use Rattle.text_words.specs.Reads.{words_at, cap_end}
use Rattle.text_networks.specs.Findings.{Words, term_at}
use Rattle.text_networks.specs.Networks.{cost_finding, count_finding}
use Rattle.text_checking.specs.Codes.{rank, found_of, both}
use Rattle.text_checking.proofs.Codes.{both_first, found_both}
use Rattle.text_checking.proofs.Checks.{behind}
use Rattle.text_checking.proofs.Fields.{count_code_lem}
use Rattle.text_checking.proofs.check_counts.Goals as goal

pub returns : goal.returns
returns c =
    let cost = c.check_cost-cost in
    let a = c.args in
    let ws = words_at a.s.now a.at in
    let says = c.read_number-x.ensures in
    let second = get_d_first [] 1 ws in
    let light : rank c.and_then.result < 2 → rank cost.result.finding < 2 =
    λ l. both_first _ _ (rw c.and_then.ensures at l) in
    record {
      finding =
          c.and_then.ensures
          ∙ ap (both cost.result.finding) (c.count_code.ensures ∙ count_code_lem says a.arity)
          ∙ behind cost.ensures (λ us. found_of (count_finding a.arity (term_at 0 us)))
          ∙ ap (λ w. both (found_of (cost_finding (term_at 0 ws))) (found_of (count_finding a.arity (term_of w))))
          second
          ∙ sym (found_both (cost_finding (term_at 0 ws)) (count_finding a.arity (term_at 1 ws)));
      within = says.within;
      words = λ l. says.rest ∙ rw (cost.ensures.words (light l)) (drop-drop 1 1 ws);
      count = λ l.
          says.value
          ∙ ap (λ (us : Words). min (value_of (term_of (get_or us 0 []))) cap_end) (cost.ensures.words (light l))
          ∙ ap (λ w. min (value_of (term_of w)) cap_end) second;
    }
