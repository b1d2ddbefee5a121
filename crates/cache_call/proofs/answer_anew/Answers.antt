-- What `answer_anew` leaves to show: what the solve found is stored, and copied where the caller has room.
use Rattle.std.proofs.Common.{refl, sym, ◌∙◌, length-take-le, arith}
use Rattle.std.proofs.lemmas.Result.{err_from_is_err_and}
use Rattle.cache_call.proofs.Rooms.{costs_room, choices_room}
use Rattle.cache_call.proofs.Anew.{costs_inside, choices_inside, costs_lent, choices_lent}
use Rattle.cache_call.proofs.Anew.{save_asked, anew_many, anew_full, anew_fits}
use Rattle.cache_call.proofs.answer_anew.Goals as goal

-- ## more than 64 points

pub returns-in_err-count : goal.returns-in_err-count
returns-in_err-count c =
    let says = rw c.in_err-count.was at c.solve_with-solved.ensures in
    let p = err_from_is_err_and c.from_residual.result c.from_residual.ensures.1 in
    rw (p.1, p.2) (anew_many c.requires _ says c.args.costs.now c.args.choices.now)

-- ## what storing relies on

pub slice_bounds-found_costs-end : goal.slice_bounds-found_costs-end
slice_bounds-found_costs-end c = costs_inside c.requires (rw c.in_ok-count.was at c.solve_with-solved.ensures)

pub slice_bounds-save-end : goal.slice_bounds-save-end
slice_bounds-save-end c = costs_lent c.requires (rw c.in_ok-count.was at c.solve_with-solved.ensures)

pub slice_bounds-found_choices-end : goal.slice_bounds-found_choices-end
slice_bounds-found_choices-end c = choices_inside c.requires (rw c.in_ok-count.was at c.solve_with-solved.ensures)

pub slice_bounds-save-end-2 : goal.slice_bounds-save-end-2
slice_bounds-save-end-2 c = choices_lent c.requires (rw c.in_ok-count.was at c.solve_with-solved.ensures)

pub save-requires : goal.save-requires
save-requires c = save_asked c.requires (rw c.in_ok-count.was at c.solve_with-solved.ensures)

pub returns-then-flat_room-points : goal.returns-then-flat_room-points
returns-then-flat_room-points c =
    anew_full c.requires (rw c.in_ok-count.was at c.solve_with-solved.ensures) c.args.costs.now c.args.choices.now
    c.flat_room.result c.flat_room.ensures c.save.ensures (omega arith) c.at.result c.at.ensures.reason
    c.at.ensures.place

-- ## what copying relies on

pub slice_bounds-copy_from_slice-end : goal.slice_bounds-copy_from_slice-end
slice_bounds-copy_from_slice-end c =
    let a = c.args in
    costs_room a.head a.costs.now a.choices.now c.in_ok-count.count c.flat_room.result c.flat_room.ensures (omega arith)

pub slice_bounds-copy_from_slice-end-2 : goal.slice_bounds-copy_from_slice-end-2
slice_bounds-copy_from_slice-end-2 c =
    let a = c.args in
    sym
    (length-take-le _ a.costs.now
    (costs_room a.head a.costs.now a.choices.now c.in_ok-count.count c.flat_room.result c.flat_room.ensures
    (omega arith)))

pub copy_from_slice-requires : goal.copy_from_slice-requires
copy_from_slice-requires c =
    let a = c.args in
    length-take-le _ a.costs.now
    (costs_room a.head a.costs.now a.choices.now c.in_ok-count.count c.flat_room.result c.flat_room.ensures
    (omega arith))
    ∙ costs_lent c.requires (rw c.in_ok-count.was at c.solve_with-solved.ensures)

pub slice_bounds-copy_from_slice-end-4 : goal.slice_bounds-copy_from_slice-end-4
slice_bounds-copy_from_slice-end-4 c =
    let a = c.args in
    choices_room a.head a.costs.now a.choices.now c.in_ok-count.count c.flat_room.result c.flat_room.ensures
    (omega arith)

pub slice_bounds-copy_from_slice-end-5 : goal.slice_bounds-copy_from_slice-end-5
slice_bounds-copy_from_slice-end-5 c =
    let a = c.args in
    sym
    (length-take-le _ a.choices.now
    (choices_room a.head a.costs.now a.choices.now c.in_ok-count.count c.flat_room.result c.flat_room.ensures
    (omega arith)))

pub copy_from_slice-requires-2 : goal.copy_from_slice-requires-2
copy_from_slice-requires-2 c =
    let a = c.args in
    length-take-le _ a.choices.now
    (choices_room a.head a.costs.now a.choices.now c.in_ok-count.count c.flat_room.result c.flat_room.ensures
    (omega arith))
    ∙ choices_lent c.requires (rw c.in_ok-count.was at c.solve_with-solved.ensures)

pub returns : goal.returns
returns c =
    anew_fits c.requires (rw c.in_ok-count.was at c.solve_with-solved.ensures) c.args.costs.now c.args.choices.now
    c.flat_room.result c.flat_room.ensures c.save.ensures (omega arith)
    (rw c.copy_from_slice.ensures.after refl) (rw c.copy_from_slice-2.ensures.after refl)
