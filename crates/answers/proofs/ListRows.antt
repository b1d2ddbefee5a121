-- The list in work memory, from its verdict: a refusal that changes nothing, and what was found.
use mathlib.Core.Path.{◌≡◌, refl, ap, ◌∙◌}
use mathlib.Core.Bool.{false}
use mathlib.Core.List.{List}
use Prim.Native.Nat.{ℕ, ◌≤◌, min}
use native.Mathlib.Omega.{arith}
use Rattle.std.specs.Prelude.{Option, Some, None, Err}
use lib.Dec.{eqb, ltb}
use lib.ListN.{length, replicate, length-replicate}
use borrow.Author.Tests.{ne_eqb}
use Rattle.model.specs.Basics.{All, pick}
use Rattle.model.specs.Limits.{max_points, work_need}
use Rattle.model.specs.Refusals.{full, verdict, accepted}
use Rattle.model.specs.Encoding.{Byte}
use Rattle.model.specs.Reading.{problem_of}
use Rattle.model.specs.Frontiers.{Point, frontier}
use Rattle.model.specs.Calls.{work_after}
use Rattle.rows.specs.Rows.{list_in}
use Rattle.model.specs.Reasons.{number_of}
use Rattle.model.specs.declared.Refusal.{Refusal}
use Rattle.model.proofs.Reasons.{number_refuses}
use Rattle.problem.specs.declared.Problem as DQ
use Rattle.problem.proofs.Accepted.{AcceptedReading}
use Rattle.pass_list.specs.Says.{FoundFor, is_full, count_of}
use Rattle.answers.specs.Early.{early_of}
use Rattle.answers.specs.Says.{found_rows, list_verdict, ListedSays}
use Rattle.answers.proofs.Early.{early_limits, early_verdict_lem, room_verdict_lem}
use Rattle.answers.proofs.FoundRows.{found_few, rows_read, rows_hold}

module _ (s : List ℕ) (room : ℕ) (w : List ℕ) (bytes : All Byte s) where
  pub unchanged_rows : (r : Refusal) → verdict (number_of r.reason) r.place ≡ early_of s (length w)
      → ListedSays s room w w (Err r)
  unfolding work_after
  unchanged_rows r says =
      let v = early_of s (length w) in
      let refuses : eqb v.number 0 ≡ false = rw (← says) (number_refuses r.reason) in
      let low = (early_limits s (length w)).0 in
      let other : eqb v.number full ≡ false = ne_eqb v.number full (λ z. omega (arith, z, low)) in
      let is : list_verdict s room w ≡ v = early_verdict_lem s w (min room max_points) refuses in
      record {
        verdict = rw is says;
        held = tt;
        left = rw (is, refuses, other) refl;
        long = refl;
        bytes = bytes;
      }

  module _ (q : DQ.Problem) (a : AcceptedReading s q) (enough : work_need ≤ length w)
      (none : (early_of s (length w)).number ≡ 0) (room' : ℕ) (room_as : room' ≡ min room max_points)
      (w1 : List ℕ) where
    abbrev n : ℕ
    n = q.head.variables

    abbrev p : ℕ
    p = q.head.objectives

    abbrev ps : List Point
    ps = frontier (problem_of s)

    module _ (f : Option ℕ) (says : FoundFor (problem_of s) room' w w1 f) where
      few : count_of f ≤ room'
      few = found_few (is_full f) room' (count_of f) (length ps) says.full says.count

      told : list_verdict s room w ≡ pick (is_full f) (verdict full 0) accepted
      told =
          room_verdict_lem s w (min room max_points) none (is_full f)
          (says.full ∙ ap (λ k. ltb k (length ps)) room_as)

    -- in memory that is kept, or cleared where the list is too long
    pub rows_end : (f : Option ℕ) → FoundFor (problem_of s) room' w w1 f → (w2 : List ℕ)
        → w2 ≡ pick (is_full f) (replicate (length w1) 0) w1
        → ListedSays s room w w2 (found_rows q.head f)
    unfolding work_after
    rows_end None says w2 z =
        let is : list_verdict s room w ≡ verdict full 0 = told None says in
        let zero : w2 ≡ replicate (length w) 0 = z ∙ ap (λ k. replicate k 0) says.long in
        record {
          verdict = rw is refl;
          held = tt;
          left = rw is zero;
          long = ap length zero ∙ length-replicate (length w) 0;
          bytes = bytes;
        }
    rows_end (Some k) says w2 z =
        let is : list_verdict s room w ≡ accepted = told (Some k) says in
        let list : list_in p n w1 0 k ≡ ps = rows_read s q a w1 k ∙ says.list refl in
        let fits = few (Some k) says in
        record {
          verdict = rw is refl;
          held =
              record {
                list = rw z list;
                fits = omega (arith, room_as, fits);
                hold =
                    rw z
                    (rows_hold s q a bytes w1 k false list (omega (arith, room_as, fits))
                    (omega (arith, says.long, enough)));
              };
          left = rw (is, z) (ap (λ k. replicate k 0) says.long);
          long = rw z says.long;
          bytes = bytes;
        }
