-- The loop of `values_at`: the values of the first k variables, for what is left of the entry's number, stand before
-- the others.
use Rattle.std.proofs.Common.{◌≡◌, length, drop}
use Rattle.model.specs.Limits.{max_arity}
use Rattle.model.specs.Reading.{table_scope}
use Rattle.text_networks.specs.Networks.{sizes_over}
use Rattle.text_writing.proofs.Values.{Finding}
use Rattle.text_writing.proofs.values_at.Given as goal

abbrev pub invariant-loop-k : goal.invariant-loop-k
invariant-loop-k l = record {
  long : length l.values ≡ max_arity;
  found : Finding (sizes_over l.sizes (table_scope (drop l.at l.s))) l.i l.values l.left l.k;
}
