-- Rows that a search left in work memory, and none where their list is too long: how many, which points, and that they
-- may be copied to the flat buffers.
use mathlib.Core.Path.{◌≡◌, refl, sym, ap₂}
use mathlib.Core.Bool.{Bool, true, false, not}
use mathlib.Core.List.{List, []}
use Prim.Native.Nat.{ℕ, ◌≤◌}
use native.Mathlib.Omega.{arith}
use lib.Dec.{ltb}
use lib.ListN.{length}
use borrow.Author.Tests.{ltb-false}
use Rattle.model.specs.Basics.{All, pick, when}
use Rattle.model.specs.Limits.{max_points}
use Rattle.model.specs.Encoding.{Byte}
use Rattle.model.specs.Reading.{problem_of}
use Rattle.model.specs.Frontiers.{Point, frontier}
use Rattle.model.specs.Calls.{room_of}
use Rattle.model.proofs.Elements.{all_in}
use Rattle.model.proofs.Flat.{divided_fits}
use Rattle.model.proofs.Frontier.{listed_words}
use Rattle.model.proofs.Reading.{accepted_rules}
use Rattle.layout.specs.Layout.{list_end}
use Rattle.rows.specs.Rows.{list_in}
use Rattle.rows_out.specs.Records.{WordCosts, RowsHold}
use Rattle.problem.specs.declared.Problem as DQ
use Rattle.problem.proofs.Accepted.{AcceptedReading}
use Rattle.problem.proofs.Readings.{objectives_are, variables_are}
use Rattle.answers.specs.Says.{room_in, CopyAsked}

-- a list of l points that is not too long has no more than the room
pub found_few : (t : Bool) (room k l : ℕ) → t ≡ ltb room l → k ≡ when (not t) l → k ≤ room
found_few true room k l h e = omega arith
found_few false room k l h e = omega (arith, ltb-false room l (sym h))

-- the rows are the list, or none where it is too long
pub rows_found : (p n k : ℕ) (w : List ℕ) (t : Bool) (ps : List Point) → k ≡ when (not t) (length ps)
    → (t ≡ false → list_in p n w 0 k ≡ ps) → list_in p n w 0 k ≡ pick t [] ps
unfolding list_in
rows_found p n k w true ps e h = rw e refl
rows_found p n k w false ps e h = h refl

module _ (s : List ℕ) (q : DQ.Problem) (a : AcceptedReading s q) where
  abbrev n : ℕ
  n = q.head.variables

  abbrev p : ℕ
  p = q.head.objectives

  abbrev ps : List Point
  ps = frontier (problem_of s)

  -- costs and values are counted as the header says
  pub rows_read : (w : List ℕ) (k : ℕ)
      → list_in p n w 0 k ≡ list_in (problem_of s).objectives (length (problem_of s).domains) w 0 k
  rows_read w k = ap₂ (λ (i j : ℕ). list_in i j w 0 k) (objectives_are s q a) (variables_are s q a)

  pub room_is : (c x : List ℕ) → room_in q.head (length c) (length x) ≡ room_of (problem_of s) c x
  unfolding room_of
  room_is c x = rw (objectives_are s q a, variables_are s q a) refl

  -- costs under the ceilings of a problem that was read are words
  list_words : All Byte s → (t : Bool) → All WordCosts (pick t [] ps)
  list_words bytes true = tt
  list_words bytes false = all_in WordCosts ps (listed_words (problem_of s) (accepted_rules s bytes a.none))

  module _
      (bytes : All Byte s) (w : List ℕ) (k : ℕ) (t : Bool) (list : list_in p n w 0 k ≡ pick t [] ps) where
    pub rows_hold : k ≤ max_points → list_end ≤ length w → RowsHold p n k w
    rows_hold few memory =
        record {
          objectives = a.few_objectives.1;
          variables = a.few_variables.1;
          few = few;
          memory = λ _. memory;
          words = rw list (list_words bytes t);
        }

    pub copy_asked : (c x : List ℕ) → k ≤ room_in q.head (length c) (length x) → list_end ≤ length w
        → CopyAsked p n k c x w
    copy_asked c x few memory =
        record {
          hold = rows_hold (omega (arith, few)) memory;
          memory = memory;
          costs_fit = divided_fits k (length c) p (omega (arith, few));
          choices_fit = divided_fits k (length x) n (omega (arith, few));
        }
