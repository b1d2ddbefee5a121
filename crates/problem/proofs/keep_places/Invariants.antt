-- The loop of `keep_places`: the records left are whole, and writing their places after those written gives the whole.
use Rattle.std.proofs.Common.{◌≡◌, ◌++◌, ◌-◌, take, drop}
use Rattle.model.specs.Reading.{places_at}
use Rattle.model.specs.Calls.{over}
use Rattle.problem.specs.Records.{AllWhole}
use Rattle.problem.proofs.keep_places.Given as goal

abbrev pub invariant-loop-i : goal.invariant-loop-i
invariant-loop-i l =
    record {
      left : AllWhole (l.r - l.i) l.sizes l.s l.here;
      written : take l.i l.places ++ over (places_at (l.r - l.i) l.sizes l.s l.here) (drop l.i l.places)
          ≡ over (places_at l.r l.sizes l.s l.at) l.initial.places;
    }
