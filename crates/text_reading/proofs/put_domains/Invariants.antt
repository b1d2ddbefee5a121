-- The loop of `put_domains`: the domain sizes left will complete the records.
use Rattle.std.proofs.Common.{drop}
use Rattle.model.specs.Encoding.{domain_bytes}
use Rattle.text_lines.proofs.Writing.{Underway}
use Rattle.text_reading.specs.Heads.{domain_list}
use Rattle.text_reading.proofs.put_domains.Given as goal

abbrev pub invariant-loop-size : goal.invariant-loop-size
invariant-loop-size l =
    let sizes = domain_list l.fn.d in
    Underway l.at (domain_bytes sizes) l.initial.out (domain_bytes (drop l.size-index sizes)) l.out l.next
