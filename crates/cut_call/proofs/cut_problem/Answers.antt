-- What `cut_problem` leaves to show: what is refused before the search changes nothing, and the lists that were found
-- are handed to one law of CutEnds.
use Rattle.std.proofs.Common.{◌≡◌, ℕ, List, length, sym, ap, arith}
use Rattle.std.proofs.lemmas.Result.{err_from_is_err_and}
use Rattle.model.specs.Basics.{All}
use Rattle.model.specs.Refusals.{Verdict, accepted}
use Rattle.model.specs.Encoding.{Byte}
use Rattle.model.proofs.Elements.{all_each}
use Rattle.problem.proofs.Accepted.{read_accepted}
use Rattle.answers.specs.Cuts.{cut_refusal}
use Rattle.answers.proofs.CutRefusals.{cut_open}
use Rattle.answers.proofs.CutAnswers.{unchanged_cut}
use Rattle.answers.proofs.CutEnds.{cut_few, cut_copies, cut_end}
use Rattle.cut_call.proofs.cut_problem.Goals as goal

-- nothing is refused
none : (s ss : List ℕ) (k : ℕ) → accepted ≡ cut_refusal s ss k → (cut_refusal s ss k).number ≡ 0
none s ss k fine = sym (ap (λ (v : Verdict). v.number) fine)

pub returns-in_err-q : goal.returns-in_err-q
returns-in_err-q c =
    let a = c.args in
    let p = err_from_is_err_and c.from_residual.result c.from_residual.ensures.1 in
    rw (p.1, p.2)
    (unchanged_cut a.problem.now a.sides.now a.costs.now a.choices.now a.work.now _ c.in_err-q.ensures.verdict)

pub flat_room-room-requires : goal.flat_room-room-requires
flat_room-room-requires c =
    let a = read_accepted c.args.problem.now c.in_ok-q.q c.in_ok-q.ensures.problem in
    (a.few_objectives.0, a.few_variables.0)

pub cut_lists-lists-requires : goal.cut_lists-lists-requires
cut_lists-lists-requires c =
    let s : List ℕ = c.args.problem.now in
    let ss : List ℕ = c.args.sides.now in
    let k : ℕ = length c.args.work.now in
    let free = cut_open s ss k (none s ss k c.in_ok-q.ensures.verdict) in
    (c.in_ok-q.ensures.problem, free.2, free.3, omega (arith, c.flat_room-room.ensures), free.1)

pub copy_out-requires : goal.copy_out-requires
copy_out-requires c =
    let s : List ℕ = c.args.problem.now in
    let ss : List ℕ = c.args.sides.now in
    let w : List ℕ = c.args.work.now in
    let bytes : All Byte s = all_each Byte 0 s (λ i. omega (arith, c.type_inv.problem i)) in
    let a = read_accepted s c.in_ok-q.q c.in_ok-q.ensures.problem in
    rw c.points_in.ensures
    (cut_copies a ss c.args.costs.now c.args.choices.now w (none s ss (length w) c.in_ok-q.ensures.verdict)
    c.flat_room-room.ensures bytes c.cut_lists-lists.result c.cut_lists-lists.ensures)

pub halves_of-requires : goal.halves_of-requires
halves_of-requires c =
    let s : List ℕ = c.args.problem.now in
    let ss : List ℕ = c.args.sides.now in
    let w : List ℕ = c.args.work.now in
    let a = read_accepted s c.in_ok-q.q c.in_ok-q.ensures.problem in
    cut_few a ss c.args.costs.now c.args.choices.now w (none s ss (length w) c.in_ok-q.ensures.verdict)
    c.flat_room-room.ensures c.cut_lists-lists.result c.cut_lists-lists.ensures

pub returns : goal.returns
returns c =
    let s : List ℕ = c.args.problem.now in
    let ss : List ℕ = c.args.sides.now in
    let w : List ℕ = c.args.work.now in
    let a = read_accepted s c.in_ok-q.q c.in_ok-q.ensures.problem in
    rw c.halves_of.ensures
    (cut_end a ss c.args.costs.now c.args.choices.now w (none s ss (length w) c.in_ok-q.ensures.verdict)
    c.flat_room-room.ensures c.cut_lists-lists.result c.cut_lists-lists.ensures
    (rw c.points_in.ensures at c.copy_out.ensures))
