-- The loop of `scan_tables`: what is left to read from here has the verdict of the whole.
use Rattle.std.proofs.Common.{◌≡◌, ◌-◌, ◌≤◌, length}
use Rattle.model.specs.Reading.{tables_verdict}
use Rattle.problem.proofs.scan_tables.Given as goal

abbrev pub invariant-loop : goal.invariant-loop
invariant-loop l =
    record {
      inside : l.here ≤ length l.s;
      rest : tables_verdict (l.r - l.counter) l.p l.sizes l.s l.here ≡ tables_verdict l.r l.p l.sizes l.s l.at;
    }
