-- What `solve_with` leaves to show: what is refused before the search changes nothing, and what was found is handed to
-- one law of SolveEnds.
use Rattle.std.proofs.Common.{List, ℕ, length, arith}
use Rattle.model.specs.Basics.{All}
use Rattle.model.specs.Encoding.{Byte}
use Rattle.model.proofs.Elements.{all_each}
use Rattle.problem.proofs.Accepted.{read_accepted}
use Rattle.answers.proofs.Early.{early_enough, early_none}
use Rattle.answers.proofs.SolveAnswers.{unchanged_solve}
use Rattle.answers.proofs.SolveEnds.{solve_asked, solve_end}
use Rattle.solve_call.proofs.solve_with.Goals as goal

pub returns-in-Err : goal.returns-in-Err
returns-in-Err c =
    let a = c.args in
    unchanged_solve a.problem.now a.costs.now a.choices.now a.work.now c.in-Err.refusal c.in-Err.ensures.verdict

pub flat_room-room-requires : goal.flat_room-room-requires
flat_room-room-requires c =
    let a = read_accepted c.args.problem.now c.in-Ok.q c.in-Ok.ensures.problem in
    (a.few_objectives.0, a.few_variables.0)

pub copy_out-requires : goal.copy_out-requires
copy_out-requires c =
    let s : List ℕ = c.args.problem.now in
    let w : List ℕ = c.args.work.now in
    let bytes : All Byte s = all_each Byte 0 s (λ i. omega (arith, c.type_inv.problem i)) in
    let told = c.in-Ok.ensures in
    rw c.unwrap_or.ensures
    (solve_asked (read_accepted s c.in-Ok.q told.problem) c.args.costs.now c.args.choices.now w
    (early_enough s (length w) told.verdict) c.flat_room-room.ensures c.find_list-searched.ensures bytes)

pub returns : goal.returns
returns c =
    let s : List ℕ = c.args.problem.now in
    let w : List ℕ = c.args.work.now in
    let told = c.in-Ok.ensures in
    rw c.answer_of-answer.ensures
    (solve_end (read_accepted s c.in-Ok.q told.problem) c.args.costs.now c.args.choices.now w
    (early_enough s (length w) told.verdict) c.flat_room-room.ensures c.find_list-searched.ensures
    (early_none s (length w) told.verdict) (rw c.unwrap_or.ensures at c.copy_out.ensures))
