-- The cut call once its lists are found: what copying out asks, and its answer. By demand 3 the list is the frontier
-- list.
use mathlib.Core.Path.{◌≡◌, refl, sym, ap, ◌∙◌}
use mathlib.Core.Bool.{Bool, true, false, not, ◌||◌, false≢true}
use mathlib.Core.List.{List}
use Prim.Native.Nat.{ℕ, ◌≤◌}
use native.Mathlib.Omega.{arith}
use lib.Dec.{ltb}
use lib.ListN.{length, replicate}
use borrow.Author.Tests.{ltb-false, eq-eqb}
use Rattle.model.specs.Basics.{All, pick}
use Rattle.model.specs.Limits.{max_points}
use Rattle.model.specs.Refusals.{full, verdict, accepted, first}
use Rattle.model.specs.Problems.{Problem}
use Rattle.model.specs.Encoding.{Byte}
use Rattle.model.specs.Reading.{problem_of}
use Rattle.model.specs.Frontiers.{frontier}
use Rattle.model.specs.Cuts.{cut_list, half_size}
use Rattle.model.specs.Calls.{over, room_of, flat_costs, flat_choices, room_verdict}
use Rattle.model.specs.Calls.{cut_room_verdict, cut_verdict, cut_outcome}
use Rattle.model.proofs.Cut.{cut_frontier}
use Rattle.rows.specs.Rows.{list_in}
use Rattle.problem.specs.declared.Problem as DQ
use Rattle.problem.proofs.Accepted.{AcceptedReading}
use Rattle.answers.specs.declared.Lists as DL
use Rattle.answers.specs.Says.{room_in, CopyAsked, CopiedOut}
use Rattle.answers.specs.Cuts.{cut_refusal, points_in, FewEach, found_halves, CutFound, CutSays}
use Rattle.answers.proofs.FoundRows.{rows_read, room_is, copy_asked}
use Rattle.answers.proofs.CutRefusals.{cut_open, cut_verdict_lem}
use Rattle.answers.proofs.CutAnswers.{long_cut, found_cut}
use Rattle.std.specs.Prelude.{Option, Some, None, is_some}

-- a list on the way is too long, or none is
room_told : (q : Problem) (ss : List ℕ) (room : ℕ) → cut_room_verdict q ss room
    ≡ pick
    (ltb max_points (half_size 0 q ss) || (ltb max_points (half_size 1 q ss) || ltb room (length (cut_list q ss))))
    (verdict full 0) accepted
unfolding cut_room_verdict room_verdict
room_told q ss room =
    go (ltb max_points (half_size 0 q ss)) (ltb max_points (half_size 1 q ss)) (ltb room (length (cut_list q ss)))
  where
    go : (a b c : Bool)
        → first (pick a (verdict full 0) accepted)
        (first (pick b (verdict full 0) accepted) (pick c (verdict full 0) accepted))
        ≡ pick (a || (b || c)) (verdict full 0) accepted
    go true b c = refl
    go false true c = refl
    go false false c = refl

-- none of three lists of i, j and k points is longer than its room
none_longer : (room i j k : ℕ) → false ≡ (ltb max_points i || (ltb max_points j || ltb room k))
    → (i ≤ max_points) × (j ≤ max_points) × (k ≤ room)
none_longer room i j k h =
    let fits = each (ltb max_points i) (ltb max_points j) (ltb room k) h in
    (ltb-false _ _ fits.0, ltb-false _ _ fits.1, ltb-false _ _ fits.2)
  where
    each : (a b c : Bool) → false ≡ (a || (b || c)) → (a ≡ false) × (b ≡ false) × (c ≡ false)
    each true b c h = absurd (false≢true h)
    each false true c h = absurd (false≢true h)
    each false false c h = (refl, refl, sym h)

module _ {s : List ℕ} {g : DQ.Problem} (a : AcceptedReading s g) (ss c x w : List ℕ)
    (none : (cut_refusal s ss (length w)).number ≡ 0) where
  abbrev n : ℕ
  n = g.head.variables

  abbrev p : ℕ
  p = g.head.objectives

  abbrev q : Problem
  q = problem_of s

  same_list : cut_list q ss ≡ frontier q
  same_list = let free = cut_open s ss (length w) none in cut_frontier q ss free.2 free.3

  module _ {w1 : List ℕ} {room : ℕ} (room_as : room ≡ room_in g.head (length c) (length x)) where
    module _ {l : DL.Lists} (says : CutFound q ss room w w1 (Some l)) where
      few : (l.first ≤ max_points) × (l.second ≤ max_points) × (l.count ≤ room)
      few =
          let fits = none_longer room (half_size 0 q ss) (half_size 1 q ss) (length (frontier q)) says.full in
          (rw says.lists.first fits.0, rw says.lists.second fits.1, rw says.lists.count fits.2)

      list : list_in p n w1 0 l.count ≡ frontier q
      list = rows_read s g a w1 l.count ∙ says.lists.list

    pub cut_few : (f : Option DL.Lists) → CutFound q ss room w w1 f → FewEach f
    cut_few None says = tt
    cut_few (Some l) says = let fits = few says in (omega (arith, fits.2, room_as), fits.0, fits.1)

    pub cut_copies : All Byte s → (f : Option DL.Lists) → CutFound q ss room w w1 f → CopyAsked p n (points_in f) c x w1
    unfolding list_in
    cut_copies bytes None says =
        copy_asked s g a bytes w1 0 true refl c x (omega arith)
        (omega (arith, says.long, (cut_open s ss (length w) none).1))
    cut_copies bytes (Some l) says =
        copy_asked s g a bytes w1 l.count false (list says) c x (omega (arith, (few says).2, room_as))
        (omega (arith, says.long, (cut_open s ss (length w) none).1))

    told : (f : Option DL.Lists) → CutFound q ss room w w1 f
        → cut_verdict s ss w (room_of q c x) ≡ pick (not (is_some f)) (verdict full 0) accepted
    told f says =
        let opened : cut_verdict s ss w room ≡ cut_room_verdict q ss room =
        cut_verdict_lem s ss w room ∙ rw (eq-eqb (cut_refusal s ss (length w)).number 0 none) in
        let longest : cut_room_verdict q ss room ≡ pick (not (is_some f)) (verdict full 0) accepted =
        rw (room_told q ss room, same_list, says.full) in
        ap (cut_verdict s ss w) (sym (room_as ∙ room_is s g a c x)) ∙ opened ∙ longest

    pub cut_end : (f : Option DL.Lists) → CutFound q ss room w w1 f → {c1 x1 w2 : List ℕ}
        → CopiedOut p n (points_in f) c x w1 c1 x1 w2 → CutSays (cut_outcome s ss c x w) c1 x1 w2 (found_halves f)
    unfolding list_in flat_costs flat_choices
    cut_end None says out =
        let cut = long_cut s ss c x w (told None says) in
        record {
          verdict = cut.verdict;
          count = cut.count;
          first_half = cut.first_half;
          second_half = cut.second_half;
          costs = out.costs_copied ∙ cut.costs;
          choices = out.choices_copied ∙ cut.choices;
          work = out.cleared ∙ ap (λ k. replicate k 0) says.long ∙ cut.work;
        }
    cut_end (Some l) says out =
        let counted : l.count ≡ length (cut_list q ss) = rw same_list says.lists.count in
        let cut = found_cut s ss c x w l (told (Some l) says) counted says.lists.first says.lists.second in
        let listed : list_in p n w1 0 l.count ≡ cut_list q ss = rw same_list (list says) in
        record {
          verdict = cut.verdict;
          count = cut.count;
          first_half = cut.first_half;
          second_half = cut.second_half;
          costs = out.costs_copied ∙ ap (λ qs. over (flat_costs qs) c) listed ∙ cut.costs;
          choices = out.choices_copied ∙ ap (λ qs. over (flat_choices qs) x) listed ∙ cut.choices;
          work = out.cleared ∙ ap (λ k. replicate k 0) says.long ∙ cut.work;
        }
