-- The passes over the sums: after k of them, work memory holds the first k of the best sums, and the halves' lists as
-- before.
use mathlib.Core.Path.{◌≡◌, refl, sym, ap, ◌∙◌}
use mathlib.Core.List.Memᴰ.{append_right as in_right}
use mathlib.Core.List.Memᴰ.{head as here}
use mathlib.Core.List.{List, [], ◌∷◌, ◌++◌, Memᴰ as In}
use Prim.Native.Nat.{ℕ, ◌+◌, ◌≤◌, ◌<◌}
use native.Mathlib.Omega.{arith}
use lib.ListN.{length, take}
use Rattle.std.specs.Prelude.{Option, Some, None, Bool, not, is_some}
use Rattle.std.specs.Bool.{then_some}
use Rattle.model.specs.Limits.{max_objectives, max_points}
use Rattle.model.specs.Frontiers.{Point, point, best}
use Rattle.model.specs.Search.{nothing}
use Rattle.model.specs.Merging.{least_left}
use Rattle.model.specs.Calls.{padded}
use Rattle.model.proofs.Best.{Pool}
use Rattle.model.proofs.Passes.{Prefix}
use Rattle.model.proofs.Sorting.{AllSized}
use Rattle.model.proofs.Merging.{merge_some, merge_none, merge_count}
use Rattle.rows.specs.Rows.{list_in, RowWritten}
use Rattle.pass_search.specs.States.{held_of}
use Rattle.pass_search.specs.declared.Met as DM
use Rattle.pass_list.specs.Says.{FoundSays}
use Rattle.pass_list.proofs.Made.{Made, made_done, made_full, made_next}
use Rattle.layout.specs.Layout.{first_row, second_row}
use Rattle.cut_sums.specs.Sums.{first_in, second_in, sums_in, point_of, Halved}
use Rattle.cut_sums.proofs.Sums.{sums_good, rows_kept, sums_kept}

-- the sums, as the points that are listed
abbrev pub Summed : ℕ → ℕ → List ℕ → List ℕ → ℕ → ℕ → Pool
Summed p n ceilings work a b r = In r (sums_in p n ceilings work a b)

module _ {p n a b : ℕ} {was : List ℕ} (halved : Halved p n 0 a b was) (ceilings work : List ℕ) (k : ℕ)
    (u : Made (Summed p n ceilings was a b) p n was work k) where
  abbrev ps : List Point
  ps = list_in p n work 0 k

  abbrev sums : List Point
  sums = sums_in p n ceilings was a b

  sized : AllSized p n sums
  sized r m = (sums_good p n a b was ceilings r m).0

  first_kept : first_in p n work a ≡ first_in p n was a
  first_kept = rows_kept p n was work u.behind first_row a (omega arith)

  second_kept : second_in p n work b ≡ second_in p n was b
  second_kept = rows_kept p n was work u.behind second_row b (omega arith)

  pub merging_halved : k ≤ max_points → Halved p n k a b work
  merging_halved h =
      record {
        long = omega (arith, u.same, halved.long);
        objectives = halved.objectives;
        variables = halved.variables;
        count = h;
        first_count = halved.first_count;
        second_count = halved.second_count;
        first_small = rw first_kept halved.first_small;
        second_small = rw second_kept halved.second_small;
        values = rw (first_kept, second_kept) halved.values;
      }

  -- what a pass gives
  module _ (next : Option DM.Met)
      (gives : held_of p n next ≡ least_left ps (sums_in p n ceilings work a b) nothing) where
    given : least_left ps sums nothing ≡ held_of p n next
    given = sym (gives ∙ ap (λ l. least_left ps l nothing) (sums_kept p n was work u.behind ceilings a b))

    -- no sum is left
    pub merging_done : next ≡ None → (room : ℕ) → k ≤ room
        → FoundSays p n (best sums) room was work (Some k)
    merging_done none = made_done u (best sums) (merge_none p n sums sized ps u.found (rw none at given))

    -- a sum is found
    module _ (met : DM.Met) (some : next ≡ Some met) where
      abbrev x : Point
      x = point_of p n met

      longer : Prefix (Summed p n ceilings was a b) (ps ++ (x ∷ []))
      longer = merge_some p n sums sized ps u.found x (rw some at given)

      pub merging_full : (room : ℕ) → room ≤ k
          → FoundSays p n (best sums) room was work None
      merging_full = made_full u (best sums) x (merge_count p n sums sized (ps ++ (x ∷ [])) longer)

      wide : length x.costs ≡ p
      wide = (sums_good p n a b was ceilings x (longer.listed.sound x (in_right ps (here refl)))).0.0

      pub merging_next : k < max_points → (stored : List ℕ)
          → RowWritten work k (point (padded max_objectives (take p met.costs)) met.choice) stored
          → Made (Summed p n ceilings was a b) p n was stored (k + 1)
      merging_next h stored w =
          let few = halved.objectives in
          made_next u few halved.variables (omega arith) met.costs met.choice stored wide w longer

    last_of : (o : Option DM.Met) → next ≡ o → FoundSays p n (best sums) k was work (then_some (not (is_some o)) k)
    last_of None none = merging_done none k (omega arith)
    last_of (Some met) some = merging_full met some k (omega arith)

    -- the room is full: no sum is left, or one
    pub merging_last : (more : Bool) → more ≡ is_some next
        → FoundSays p n (best sums) k was work (then_some (not more) k)
    merging_last more said = rw said (last_of next refl)
