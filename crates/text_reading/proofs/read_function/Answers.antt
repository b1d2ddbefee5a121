-- What `read_function` leaves to show: the numbers are below the cap, since nothing is refused.
use Rattle.std.proofs.Common.{arith}
use Rattle.text_reading.specs.Heads.{domain_list}
use Rattle.text_reading.proofs.Functions.{Placed, arity_few, scope_range, default_fits, function_says}
use Rattle.text_reading.proofs.read_function.Goals as goal

pub read_scope-scope-requires : goal.read_scope-scope-requires
read_scope-scope-requires c =
    let a = c.args in
    let read = c.read_number-arity.ensures in
    let placed : Placed a.s.now a.at (domain_list a.d) =
    record { within = c.requires.within; short = omega arith; right = c.requires.right } in
    record {
      domains = c.requires.domains;
      within = read.within;
      few = arity_few placed read;
      range = scope_range placed read;
    }

pub overflow_cast-result : goal.overflow_cast-result
overflow_cast-result c =
    let a = c.args in
    let placed : Placed a.s.now a.at (domain_list a.d) =
    record { within = c.requires.within; short = omega arith; right = c.requires.right } in
    record {
      fits = default_fits placed c.read_number-arity.ensures c.read_scope-scope.ensures c.read_number-default.ensures;
    }

pub returns : goal.returns
returns c =
    let a = c.args in
    let placed : Placed a.s.now a.at (domain_list a.d) =
    record { within = c.requires.within; short = omega arith; right = c.requires.right } in
    function_says placed c.read_number-arity.ensures c.read_scope-scope.ensures c.read_number-default.ensures
    c.read_number-count.ensures
