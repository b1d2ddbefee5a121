-- A list of the best points of a pool while it is made in work memory, one row for each point found.
use mathlib.Core.Path.{◌≡◌, refl, sym, ap, ◌∙◌}
use mathlib.Core.List.{List, [], ◌∷◌, ◌++◌}
use Prim.Native.Nat.{ℕ, ◌+◌, ◌≤◌}
use native.Mathlib.Omega.{arith}
use lib.ListN.{length, take, drop, length-append}
use Rattle.std.specs.Prelude.{Some, None}
use borrow.Author.Tests.{lt-ltb, le-ltb}
use Rattle.model.specs.Limits.{max_objectives, max_variables, max_points}
use Rattle.model.specs.Frontiers.{Point, point}
use Rattle.model.specs.Calls.{padded}
use Rattle.model.proofs.Bits.{true_false}
use Rattle.model.proofs.Best.{Pool}
use Rattle.model.proofs.Passes.{Prefix, prefix_none}
use Rattle.layout.specs.Layout.{list_end}
use Rattle.rows.specs.Rows.{point_in, list_in, RowWritten}
use Rattle.pass_list.specs.Says.{FoundSays}
use Rattle.rows.proofs.RowParts.{rows_length}
use Rattle.rows.proofs.RowWrites.{written_point}
use Rattle.rows.proofs.RowLists.{list_added}

-- its first k points are there; the memory is as long as before, and what stands behind the list is as before
pub record Made (P : Pool) (p n : ℕ) (was work : List ℕ) (k : ℕ) : Type 0 where
  pub same : length work ≡ length was
  pub behind : drop list_end work ≡ drop list_end was
  pub found : Prefix P (list_in p n work 0 k)

pub made_start : (P : Pool) (p n : ℕ) (was : List ℕ) → Made P p n was was 0
unfolding list_in
made_start P p n was = record { same = refl; behind = refl; found = prefix_none P }

module _ {P : Pool} {p n : ℕ} {was work : List ℕ} {k : ℕ} (u : Made P p n was work k) where
  abbrev ps : List Point
  ps = list_in p n work 0 k

  -- it has all points
  pub made_done : (fs : List Point) → ps ≡ fs → (room : ℕ) → k ≤ room
      → FoundSays p n fs room was work (Some k)
  made_done fs all room h =
      let long : length fs ≡ k = ap length (sym all) ∙ rows_length p n work 0 k in
      record {
        full = sym (le-ltb room (length fs) (omega arith));
        count = sym long;
        list = λ e. all;
        long = u.same;
      }

  -- it has one point more
  pub made_full : (fs : List Point) (x : Point) → length (ps ++ (x ∷ [])) ≤ length fs → (room : ℕ) → room ≤ k
      → FoundSays p n fs room was work None
  made_full fs x more room h =
      record {
        full = sym (lt-ltb room (length fs) (omega (arith, length-append ps (x ∷ []), rows_length p n work 0 k)));
        count = refl;
        list = λ e. absurd (true_false refl e);
        long = u.same;
      }

  -- costs and values are stored behind the others
  module _ (few : p ≤ max_objectives) (values : n ≤ max_variables) (count : k ≤ max_points)
      (costs choice stored : List ℕ) (wide : length (take p costs) ≡ p)
      (w : RowWritten work k (point (padded max_objectives (take p costs)) choice) stored) where
    point_made : point_in p n stored k ≡ point (take p costs) (take n choice)
    point_made = written_point work costs choice stored p n k few values wide w

    pub made_next : Prefix P (ps ++ (point (take p costs) (take n choice) ∷ [])) → Made P p n was stored (k + 1)
    made_next longer =
        record {
          same = w.frame.long ∙ u.same;
          behind = w.frame.behind ∙ u.behind;
          found = rw (list_added w p n few values count, point_made) longer;
        }
