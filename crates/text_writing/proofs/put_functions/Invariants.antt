-- The loop of `put_functions`: the records left are whole, and their functions will complete the form.
use Rattle.std.proofs.Common.{◌-◌}
use Rattle.problem.specs.Records.{AllWhole}
use Rattle.text_lines.proofs.Writing.{Underway}
use Rattle.text_networks.specs.NetworkTexts.{functions_text}
use Rattle.text_writing.specs.Forms.{written_from}
use Rattle.text_writing.proofs.put_functions.Given as goal

abbrev pub invariant-loop : goal.invariant-loop
invariant-loop l = record {
  whole : AllWhole (l.r - l.counter) l.sizes l.s l.here;
  form :
      Underway l.to (functions_text l.sizes (written_from l.bound l.r l.sizes l.s l.at)) l.initial.out
      (functions_text l.sizes (written_from l.bound (l.r - l.counter) l.sizes l.s l.here)) l.out l.next;
}
