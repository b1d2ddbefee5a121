-- The loop of `read_domains`: what is left to read has the verdict of the whole, and the array is the sizes read so
-- far, then zeros.
use Rattle.std.proofs.Common.{◌≡◌, ◌+◌, ◌-◌, ◌*◌, ◌≤◌, length}
use Rattle.model.specs.Limits.{max_variables}
use Rattle.model.specs.Reading.{domains_verdict, domains_at}
use Rattle.model.specs.Calls.{padded}
use Rattle.problem.proofs.read_domains.Given as goal

abbrev pub invariant-loop-i : goal.invariant-loop-i
invariant-loop-i l =
    record {
      place : l.here ≡ l.at + 3 * l.i;
      inside : l.here ≤ length l.s;
      rest : domains_verdict (l.n - l.i) l.s l.here ≡ domains_verdict l.n l.s l.at;
      filled : l.sizes ≡ padded max_variables (domains_at l.i l.s l.at);
    }
