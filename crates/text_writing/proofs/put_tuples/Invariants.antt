-- The loop of `put_tuples`: the lines of the entries ahead will complete the form.
use Rattle.std.proofs.Common.{drop}
use Rattle.model.specs.Reading.{table_scope}
use Rattle.text_lines.proofs.Writing.{Underway}
use Rattle.text_networks.specs.Networks.{sizes_over}
use Rattle.text_networks.specs.NetworkTexts.{tuple_lines}
use Rattle.text_writing.specs.Forms.{written_at, table_lines}
use Rattle.text_writing.proofs.put_tuples.Given as goal

abbrev pub invariant-loop-k : goal.invariant-loop-k
invariant-loop-k l =
    Underway l.to (table_lines l.bound l.sizes l.s l.at) l.initial.out
    (tuple_lines (sizes_over l.sizes (table_scope (drop l.at l.s))) l.k
    (drop l.k (written_at l.bound l.sizes l.s l.at).costs))
    l.out l.next
