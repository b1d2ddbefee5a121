-- The loop of `put_functions`: the tables left will complete the form.
use Rattle.std.proofs.Common.{◌-◌}
use Rattle.model.specs.Encoding.{tables_bytes}
use Rattle.text_words.specs.Reads.{words_at}
use Rattle.text_networks.specs.Networks.{function_tables}
use Rattle.text_reading.specs.Heads.{domain_list}
use Rattle.text_reading.proofs.Listings.{Listing}
use Rattle.text_reading.proofs.put_functions.Given as goal

abbrev pub invariant-loop : goal.invariant-loop
invariant-loop l =
    Listing l.s (domain_list l.d) l.to (tables_bytes (function_tables l.count (domain_list l.d) (words_at l.s l.at)))
    l.initial.out (l.count - l.counter) l.next.at l.next.to l.out
