-- When the calls answer: exactly where no part of their verdict refuses.
use mathlib.Core.Path.{◌≡◌, refl}
use mathlib.Core.Bool.{true}
use mathlib.Core.List.{List, [], ◌∷◌}
use Prim.Native.Nat.{ℕ, ◌≤◌}
use lib.Dec.{ltb}
use lib.ListN.{length, get_or, drop}
use borrow.Author.Tests.{ltb-false, le-ltb}
use Rattle.model.specs.Limits.{max_points, work_need}
use Rattle.model.specs.Refusals.{work_short, bad_sides, linked, full, accepted, first}
use Rattle.model.specs.Problems.{Table, Problem}
use Rattle.model.specs.Reading.{verdict_of, problem_of, places_of}
use Rattle.model.specs.Frontiers.{Point, frontier}
use Rattle.model.specs.Cuts.{sides_ok, crosses, linked_verdict, uncrossed, half, cut_list}
use Rattle.model.specs.Demands.{Cuttable}
use Rattle.model.specs.Calls.{work_verdict, room_verdict, solve_verdict, sides_verdict, cut_room_verdict, cut_verdict}
use Rattle.model.proofs.Verdicts.{first_accepts, accepts_both, test_accepts, picked_accepts}
use Rattle.model.proofs.Reading.{accepted_place}
use Rattle.model.proofs.Cut.{cut_frontier}
use Rattle.model.proofs.Halves.{uncrossed_first, uncrossed_rest}

-- ## the parts

pub work_accepts : (work : List ℕ) → (work_verdict work).number ≡ 0 → work_need ≤ length work
unfolding work_verdict
work_accepts work h = ltb-false _ _ (test_accepts (ltb (length work) work_need) work_short 0 accepted refl h).0

pub accepts_work : (work : List ℕ) → work_need ≤ length work → work_verdict work ≡ accepted
unfolding work_verdict
accepts_work work h = rw (le-ltb (length work) work_need h) refl

pub room_accepts : (room : ℕ) (ps : List Point) → (room_verdict room ps).number ≡ 0 → length ps ≤ room
unfolding room_verdict
room_accepts room ps h = ltb-false _ _ (test_accepts (ltb room (length ps)) full 0 accepted refl h).0

pub accepts_room : (room : ℕ) (ps : List Point) → length ps ≤ room → room_verdict room ps ≡ accepted
unfolding room_verdict
accepts_room room ps h = rw (le-ltb room (length ps) h) refl

pub sides_accept : (q : Problem) (sides : List ℕ) → (sides_verdict q sides).number ≡ 0 → sides_ok q sides ≡ true
unfolding sides_verdict
sides_accept q sides h = picked_accepts (sides_ok q sides) bad_sides refl h

pub accepts_sides : (q : Problem) (sides : List ℕ) → sides_ok q sides ≡ true → sides_verdict q sides ≡ accepted
unfolding sides_verdict
accepts_sides q sides h = rw h refl

-- number 14 is given exactly where some record crosses
pub linked_accepts : (sides : List ℕ) (ts : List Table) (places : List ℕ) → (linked_verdict sides ts places).number ≡ 0
    → uncrossed sides ts ≡ true
unfolding linked_verdict uncrossed
linked_accepts sides [] places h = refl
linked_accepts sides (t ∷ ts) places h =
    let rest = linked_verdict sides ts (drop 1 places) in
    let both = test_accepts (crosses sides t) linked (get_or places 0 0) rest refl h in
    rw both.0 (linked_accepts sides ts (drop 1 places) both.1)

pub accepts_linked : (sides : List ℕ) (ts : List Table) (places : List ℕ) → uncrossed sides ts ≡ true
    → linked_verdict sides ts places ≡ accepted
unfolding linked_verdict
accepts_linked sides [] places h = refl
accepts_linked sides (t ∷ ts) places h =
    rw (uncrossed_first sides t ts h) (accepts_linked sides ts (drop 1 places) (uncrossed_rest sides t ts h))

-- ## the plain call

pub solve_accepts : (s work : List ℕ) (room : ℕ) → (solve_verdict s work room).number ≡ 0
    → ((verdict_of s).number ≡ 0) × (work_need ≤ length work) × (length (frontier (problem_of s)) ≤ room)
unfolding solve_verdict
solve_accepts s work room h =
    let ps = frontier (problem_of s) in
    let read = first_accepts (verdict_of s) (first (work_verdict work) (room_verdict room ps)) h in
    let both = first_accepts (work_verdict work) (room_verdict room ps) read.1 in
    (read.0, work_accepts work both.0, room_accepts room ps both.1)

pub accepts_solve : (s work : List ℕ) (room : ℕ) → verdict_of s ≡ accepted → work_need ≤ length work
    → length (frontier (problem_of s)) ≤ room → solve_verdict s work room ≡ accepted
unfolding solve_verdict
accepts_solve s work room h w f =
    accepts_both h (accepts_both (accepts_work work w) (accepts_room room (frontier (problem_of s)) f))

-- ## the cut call

pub cut_accepts : (s sides work : List ℕ) (room : ℕ) → (cut_verdict s sides work room).number ≡ 0
    → Cuttable s sides work room
unfolding cut_verdict cut_room_verdict
cut_accepts s sides work room h =
    let q = problem_of s in
    let h₁ = first_accepts (verdict_of s) _ h in
    let h₂ = first_accepts (work_verdict work) _ h₁.1 in
    let h₃ = first_accepts (sides_verdict q sides) _ h₂.1 in
    let h₄ = first_accepts (linked_verdict sides q.tables (places_of s)) _ h₃.1 in
    let h₅ = first_accepts (room_verdict max_points (frontier (half 0 q sides))) _ h₄.1 in
    let h₆ = first_accepts (room_verdict max_points (frontier (half 1 q sides))) _ h₅.1 in
    let ok : sides_ok q sides ≡ true = sides_accept q sides h₃.0 in
    let free : uncrossed sides q.tables ≡ true = linked_accepts sides q.tables (places_of s) h₄.0 in
    record {
      read = h₁.0;
      work_enough = work_accepts work h₂.0;
      sides_ok_lem = ok;
      free = free;
      first_fits = room_accepts max_points (frontier (half 0 q sides)) h₅.0;
      second_fits = room_accepts max_points (frontier (half 1 q sides)) h₆.0;
      fits = rw (← cut_frontier q sides ok free) (room_accepts room (cut_list q sides) h₆.1);
    }

pub accepts_cut : (s sides work : List ℕ) (room : ℕ) → Cuttable s sides work room
    → cut_verdict s sides work room ≡ accepted
unfolding cut_verdict cut_room_verdict
accepts_cut s sides work room c =
    let q = problem_of s in
    accepts_both (accepted_place s c.read)
    (accepts_both (accepts_work work c.work_enough)
    (accepts_both (accepts_sides q sides c.sides_ok_lem)
    (accepts_both (accepts_linked sides q.tables (places_of s) c.free)
    (accepts_both (accepts_room max_points (frontier (half 0 q sides)) c.first_fits)
    (accepts_both (accepts_room max_points (frontier (half 1 q sides)) c.second_fits)
    (accepts_room room (cut_list q sides) (rw (cut_frontier q sides c.sides_ok_lem c.free) c.fits)))))))
