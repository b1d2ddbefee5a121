-- What `list_points` leaves to show: what was listed is copied out as records, and work memory is cleared.
use Rattle.std.proofs.lemmas.Result.{err_from_is_err_and}
use Rattle.frontier.proofs.ListAnswers.{list_refused, list_end_lem}
use Rattle.frontier.proofs.list_points.Goals as goal

pub returns-in_err-found : goal.returns-in_err-found
returns-in_err-found c =
    let p = err_from_is_err_and c.from_residual.result c.from_residual.ensures.1 in
    rw (p.1, p.2)
    (list_refused c.args.problem.now c.args.work.now c.list_rows.new.work c.args.points.now _ c.in_err-found.ensures)

pub returns : goal.returns
returns c =
    list_end_lem c.args.problem.now c.args.work.now c.list_rows.new.work c.clear.new.work c.args.points.now
    c.copy_points.new.points c.in_ok-found.found c.in_ok-found.ensures c.copy_points.ensures c.clear.ensures
