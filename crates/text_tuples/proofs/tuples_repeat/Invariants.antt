-- The loop of `tuples_repeat`: the tuples that are left give the answer.
use Rattle.std.proofs.Common.{take, ◌-◌}
use Rattle.text_words.specs.Reads.{words_at}
use Rattle.text_networks.specs.Networks.{tuples_of, repeated_tuple}
use Rattle.text_tuples.proofs.Tuples.{Unmet}
use Rattle.text_tuples.proofs.tuples_repeat.Given as goal

abbrev pub invariant-loop-k : goal.invariant-loop-k
invariant-loop-k l =
    Unmet l.s l.arity (take l.arity l.sizes) l.met (l.count - l._k) l.next
    (repeated_tuple (tuples_of l.count l.arity (words_at l.s l.at)))
