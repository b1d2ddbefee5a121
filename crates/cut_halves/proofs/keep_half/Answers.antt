-- What `keep_half` leaves to show: the rows that were found are copied behind all that the search may change.
use Rattle.std.proofs.Common.{sym, length-take-le, arith}
use Rattle.layout.specs.Layout.{search_end}
use Rattle.problem.proofs.Accepted.{read_accepted}
use Rattle.cut_halves.proofs.Keeping.{copied_says}
use Rattle.cut_halves.proofs.keep_half.Goals as goal

pub slice_bounds-find_half-end-2 : goal.slice_bounds-find_half-end-2
slice_bounds-find_half-end-2 c = sym (length-take-le search_end c.args.work.now (omega (arith, c.requires.4)))

pub find_half-found-requires : goal.find_half-found-requires
find_half-found-requires c =
    let front = length-take-le search_end c.args.work.now (omega (arith, c.requires.4)) in
    (record { read = c.requires.0; memory = omega (arith, front) }, c.requires.1)

pub returns : goal.returns
returns c =
    let p = c.requires in
    let a = read_accepted c.args.s.now c.args.q p.0 in
    copied_says c.args.work.now c.find_half-found.ensures p.4 c.args.row p.2 p.3 a.few_objectives.1 a.few_variables.1 _
    (rw c.unwrap_or.ensures at c.copy_numbers.ensures)
