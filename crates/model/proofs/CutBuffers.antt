-- What the cut call and the bound call tell and leave, whatever they are lent.
use mathlib.Core.Path.{◌≡◌, refl, sym, ◌∙◌}
use mathlib.Core.List.Memᴰ.{head as here}
use mathlib.Core.List.Memᴰ.{tail as there}
use mathlib.Core.List.{List, [], ◌∷◌}
use Prim.Native.Nat.{ℕ, ◌≤◌}
use lib.ListN.{length}
use Rattle.model.specs.Basics.{pick}
use Rattle.model.specs.Limits.{max_points}
use Rattle.model.specs.Refusals.{work_short, bad_sides, linked, full, bad_prefix, Verdict, verdict, accepted, first}
use Rattle.model.specs.Problems.{Problem}
use Rattle.model.specs.Reading.{problem_of, places_of, head_tables, domains_of, tables_start}
use Rattle.model.specs.Frontiers.{Point, frontier}
use Rattle.model.specs.Bounds.{prefix_ok}
use Rattle.model.specs.Cuts.{sides_ok, linked_verdict, half, cut_list, half_size}
use Rattle.model.specs.Calls.{room_of, work_verdict, room_verdict, sides_verdict}
use Rattle.model.specs.Calls.{cut_room_verdict, cut_verdict, cut_outcome, padded, bound_verdict, bound_outcome}
use Rattle.model.specs.Demands.{Told, CutLeaves, CutSame, BoundLeaves}
use Rattle.model.proofs.TableRecords.{length_tables_at, length_places_at}
use Rattle.model.proofs.Calls.{cut_accepts}
use Rattle.model.proofs.Cut.{cut_frontier}
use Rattle.model.proofs.Told.{Linked, Own, own_first, own_work, own_room, own_refuses, own_linked}
use Rattle.model.proofs.Told.{told, told_at_record}
use Rattle.model.proofs.Buffers.{refuses, none_counted, cleared}
use Rattle.model.proofs.Buffers.{costs_same, choices_same, costs_left, choices_left}

module _ (s sides : List ℕ) where
  abbrev q : Problem
  q = problem_of s

  abbrev ps : List Point
  ps = cut_list q sides

  abbrev own : List ℕ
  own = work_short ∷ bad_sides ∷ linked ∷ full ∷ []

  abbrev link : Verdict
  link = linked_verdict sides q.tables (places_of s)

  abbrev at : List ℕ
  at = places_of s

  room_own : (room : ℕ) → Own own at (cut_room_verdict q sides room)
  unfolding cut_room_verdict
  room_own room =
      let room_told = own_room own at (there (there (there (here refl)))) in
      let half-0 = room_verdict max_points (frontier (half 0 q sides)) in
      let half-1 = room_verdict max_points (frontier (half 1 q sides)) in
      own_first own at half-0 (first half-1 (room_verdict room ps)) (room_told max_points (frontier (half 0 q sides)))
      (own_first own at half-1 (room_verdict room ps) (room_told max_points (frontier (half 1 q sides)))
      (room_told room ps))

  linked_own : Own own at link
  unfolding problem_of places_of
  linked_own =
      let ds = domains_of s in
      let start = tables_start s in
      own_linked own (there (there (here refl))) sides q.tables at
      (length_tables_at (head_tables s) ds s start ∙ sym (length_places_at (head_tables s) ds s start))

  -- what the call refuses by itself
  abbrev later : List ℕ → ℕ → Verdict
  later work room =
      first (work_verdict work) (first (sides_verdict q sides) (first link (cut_room_verdict q sides room)))

  cut_own : (work : List ℕ) (room : ℕ) → Own own at (later work room)
  unfolding sides_verdict
  cut_own work room =
      let rooms = cut_room_verdict q sides room in
      own_first own at (work_verdict work) (first (sides_verdict q sides) (first link rooms))
      (own_work own at (here refl) work)
      (own_first own at (sides_verdict q sides) (first link rooms)
      (own_refuses own at bad_sides (there (here refl)) refl (sides_ok q sides))
      (own_first own at link rooms linked_own (room_own room)))

  cut_told : (work : List ℕ) (room : ℕ) → Told s own (cut_verdict s sides work room)
  unfolding cut_verdict
  cut_told work room = told s own at (later work room) (cut_own work room)

  cut_linked : (work : List ℕ) (room : ℕ) → Linked at (cut_verdict s sides work room)
  unfolding cut_verdict
  cut_linked work room = told_at_record s own at (later work room) (cut_own work room)

  cut_right : (work : List ℕ) (room : ℕ) → (cut_verdict s sides work room).number ≡ 0 → ps ≡ frontier q
  cut_right work room h =
      let can = cut_accepts s sides work room h in
      cut_frontier q sides can.sides_ok_lem can.free

  pub cut_leaves : (costs choices work : List ℕ)
      → CutLeaves s costs choices work (cut_outcome s sides costs choices work)
  unfolding cut_outcome
  cut_leaves costs choices work =
      let room = room_of q costs choices in
      let v = cut_verdict s sides work room in
      let right : v.number ≡ 0 → ps ≡ frontier q = cut_right work room in
      let few : v.number ≡ 0 → length ps ≤ room = λ h. rw (right h) (cut_accepts s sides work room h).fits in
      record {
        told = cut_told work room;
        linked_record = cut_linked work room;
        none = λ h.
            let size-0 = none_counted v (half_size 0 q sides) h in
            let size-1 = none_counted v (half_size 1 q sides) h in
            (none_counted v (length ps) h, size-0, size-1);
        costs_kept = costs_left q ps v right costs choices few;
        choices_kept = choices_left q ps v right costs choices few;
        work_cleared = cleared v work;
      }

  pub cut_same : (c c' x x' w w' : List ℕ) → length c ≡ length c' → length x ≡ length x' → length w ≡ length w'
      → CutSame q (cut_outcome s sides c x w) (cut_outcome s sides c' x' w')
  unfolding cut_outcome cut_verdict room_of work_verdict
  cut_same c c' x x' w w' e f g =
      let room = room_of q c' x' in
      let v = cut_verdict s sides w' room in
      let right : v.number ≡ 0 → ps ≡ frontier q = cut_right w' room in
      rw (e, f, g) (record {
        verdict = refl;
        count = refl;
        halves = (refl, refl);
        costs = costs_same q ps v right c c';
        choices = choices_same q ps v right x x';
      })

-- ## the bound call

pub bound_leaves : (s prefix : List ℕ) → BoundLeaves s prefix (bound_outcome s prefix)
unfolding bound_outcome bound_verdict padded
bound_leaves s prefix =
    let own = bad_prefix ∷ [] in
    let ok = prefix_ok (problem_of s).domains prefix in
    record {
      told =
          told s own [] (pick ok accepted (verdict bad_prefix 0)) (own_refuses own [] bad_prefix (here refl) refl ok);
      answered = λ h. rw h refl;
      refused = λ h. rw (refuses (bound_verdict s prefix) h) refl;
    }
