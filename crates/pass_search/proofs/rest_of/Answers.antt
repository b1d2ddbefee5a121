-- What `rest_of` leaves to show: the bound is what the tables of the next variable add and what the others add.
use Rattle.std.proofs.Common.{arith}
use Rattle.pass_search.proofs.Partials.{standing, touched_less, rest_left}
use Rattle.pass_search.proofs.rest_of.Goals as goal

pub overflow_sub-result : goal.overflow_sub-result
overflow_sub-result c =
    let a = standing c.requires.0 c.requires.1 _ c.well_formed.0 in
    touched_less a c.group_bounds-touched.result c.group_bounds-touched.ensures 0 (omega arith)

pub overflow_sub-result-2 : goal.overflow_sub-result-2
overflow_sub-result-2 c =
    let a = standing c.requires.0 c.requires.1 _ c.well_formed.0 in
    touched_less a c.group_bounds-touched.result c.group_bounds-touched.ensures 1 (omega arith)

pub overflow_sub-result-3 : goal.overflow_sub-result-3
overflow_sub-result-3 c =
    let a = standing c.requires.0 c.requires.1 _ c.well_formed.0 in
    touched_less a c.group_bounds-touched.result c.group_bounds-touched.ensures 2 (omega arith)

pub overflow_sub-result-4 : goal.overflow_sub-result-4
overflow_sub-result-4 c =
    let a = standing c.requires.0 c.requires.1 _ c.well_formed.0 in
    touched_less a c.group_bounds-touched.result c.group_bounds-touched.ensures 3 (omega arith)

pub returns : goal.returns
returns c =
    let a = standing c.requires.0 c.requires.1 _ c.well_formed.0 in
    rest_left a c.group_bounds-touched.result c.group_bounds-touched.ensures
