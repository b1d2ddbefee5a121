-- What `list_rows` leaves to show: what is refused before the search changes nothing, and what was found is handed to
-- one law of ListRows.
use Rattle.std.proofs.Common.{List, ℕ, length, arith}
use Rattle.std.proofs.lemmas.Result.{err_from_is_err_and}
use Rattle.model.specs.Basics.{All}
use Rattle.model.specs.Encoding.{Byte}
use Rattle.model.proofs.Elements.{all_each}
use Rattle.problem.proofs.Accepted.{read_accepted}
use Rattle.answers.proofs.Early.{early_enough, early_none}
use Rattle.answers.proofs.ListRows.{unchanged_rows, rows_end}
use Rattle.solve_call.proofs.list_rows.Goals as goal

pub returns-in_err-q : goal.returns-in_err-q
returns-in_err-q c =
    let s : List ℕ = c.args.problem.now in
    let bytes : All Byte s = all_each Byte 0 s (λ i. omega (arith, c.type_inv.problem i)) in
    let p = err_from_is_err_and c.from_residual.result c.from_residual.ensures.1 in
    rw (p.1, p.2) (unchanged_rows s c.args.room c.args.work.now bytes _ c.in_err-q.ensures.verdict)

pub returns : goal.returns
returns c =
    let s : List ℕ = c.args.problem.now in
    let w : List ℕ = c.args.work.now in
    let bytes : All Byte s = all_each Byte 0 s (λ i. omega (arith, c.type_inv.problem i)) in
    let q = c.in_ok-q.q in
    let told = c.in_ok-q.ensures in
    rw c.found_rows.ensures.0
    (rows_end s c.args.room w bytes q (read_accepted s q told.problem) (early_enough s (length w) told.verdict)
    (early_none s (length w) told.verdict) _ c.room_for.ensures _ c.find_list-searched.result.found
    c.find_list-searched.ensures _ c.found_rows.ensures.1)
