-- A pass over one sum, by the tests that the code makes: ceilings, listed points, whether a point is held, list order.
use mathlib.Core.Path.{◌≡◌}
use mathlib.Core.Bool.{true, false}
use mathlib.Core.List.{List, []}
use Prim.Native.Nat.{ℕ}
use Rattle.std.specs.Prelude.{Option, Some, None}
use lib.ListN.{take}
use Rattle.model.specs.Basics.{keep_if}
use Rattle.model.specs.Core.{under}
use Rattle.model.specs.Frontiers.{Point}
use Rattle.model.specs.Search.{Held, matched}
use Rattle.model.specs.Merging.{ahead, nearer, least_left}
use Rattle.pass_search.specs.States.{held_of}
use Rattle.pass_search.specs.declared.Met as DM
use Rattle.cut_sums.specs.Sums.{point_of}

module _ (p n : ℕ) (ps : List Point) (ceilings : List ℕ) (sum : DM.Met)
    (held : Option DM.Met) where
  -- what is held once the sum is met
  abbrev taken : Held
  taken = least_left ps (keep_if (under (take p sum.costs) (take p ceilings)) (point_of p n sum) []) (held_of p n held)

  pub taken_over : under (take p sum.costs) (take p ceilings) ≡ false → held_of p n held ≡ taken
  unfolding least_left
  taken_over o = rw o

  module _ (below : under (take p sum.costs) (take p ceilings) ≡ true) where
    pub taken_listed : matched (take p sum.costs) ps ≡ true → held_of p n held ≡ taken
    unfolding least_left
    taken_listed m = rw (below, m)

    module _ (left : matched (take p sum.costs) ps ≡ false) where
      module _ (least : DM.Met) (some : held ≡ Some least) where
        pub taken_later : ahead (point_of p n sum) (point_of p n least) ≡ false → held_of p n (Some least) ≡ taken
        unfolding least_left nearer
        taken_later after = rw (below, left, some, after)

        pub taken_ahead : ahead (point_of p n sum) (point_of p n least) ≡ true → held_of p n (Some sum) ≡ taken
        unfolding least_left nearer
        taken_ahead before = rw (below, left, some, before)

      pub taken_first : held ≡ None → held_of p n (Some sum) ≡ taken
      unfolding least_left nearer
      taken_first none = rw (below, left, none)
