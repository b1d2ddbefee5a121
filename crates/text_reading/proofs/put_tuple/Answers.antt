-- What `put_tuple` leaves to show: the cost fits four bytes, and they take the place of the entry.
use Rattle.std.proofs.Common.{◌≡◌, length, rules}
use Rattle.text_reading.proofs.Tuples.{cost_fits, tuple_put}
use Rattle.text_reading.proofs.put_tuple.Goals as goal

pub overflow_cast-cost : goal.overflow_cast-cost
overflow_cast-cost c =
    let three : length c.args.scope.sizes ≡ 3 = search rules in
    record {
      fits = cost_fits three c.requires c.tuple_index-entry.result c.tuple_index-entry.ensures
          c.read_number-cost.result c.read_number-cost.ensures;
    }

pub returns : goal.returns
returns c =
    let three : length c.args.scope.sizes ≡ 3 = search rules in
    tuple_put three c.requires c.tuple_index-entry.result c.tuple_index-entry.ensures c.read_number-cost.result
    c.read_number-cost.ensures c.put_four.ensures
