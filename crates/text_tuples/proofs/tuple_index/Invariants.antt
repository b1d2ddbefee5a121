-- The loop of `tuple_index`: the values that are left complete the index.
use Rattle.std.proofs.Common.{take, drop}
use Rattle.text_words.specs.Reads.{words_at}
use Rattle.text_networks.specs.Findings.{values_in}
use Rattle.text_networks.specs.Networks.{index_from}
use Rattle.text_tuples.proofs.Reading.{Left}
use Rattle.text_tuples.proofs.tuple_index.Given as goal

abbrev pub invariant-loop-i : goal.invariant-loop-i
invariant-loop-i l =
    Left l.s (drop l.i (take l.arity l.sizes)) l.index l.end
    (index_from 0 (take l.arity l.sizes) (values_in l.arity (words_at l.s l.at))) (drop l.arity (words_at l.s l.at))
