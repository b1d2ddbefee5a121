-- A record whose scope lies on a side is the same over the domain sizes that the side leaves.
use mathlib.Core.Path.{◌≡◌, refl, sym}
use mathlib.Core.Bool.{true}
use mathlib.Core.List.{List, [], ◌∷◌}
use Prim.Native.Nat.{ℕ}
use lib.Dec.{eqb}
use lib.ListN.{length, get_or, drop}
use borrow.Author.Tests.{eqb-true}
use Rattle.model.specs.Problems.{size_of}
use Rattle.model.specs.Reading.{table_scope, table_length, table_of}
use Rattle.model.specs.Cuts.{in_half}
use Rattle.model.specs.Views.{narrowed, all_on, within}
use Rattle.model.proofs.Bits.{and_left, and_right}
use Rattle.model.proofs.Narrowed.{narrowed_at}
use Rattle.problem.specs.Records.{Whole}
use Rattle.views.proofs.Narrowing.{narrowed_length}

module _ (k : ℕ) (ss ds : List ℕ) (same : length ss ≡ length ds) where
  sizes_on : (vs : List ℕ) → all_on k ss vs ≡ true → size_of (narrowed k ss ds) vs ≡ size_of ds vs
  unfolding size_of all_on
  sizes_on [] h = refl
  sizes_on (v ∷ vs) h =
      let on : get_or ss v 0 ≡ k = eqb-true (get_or ss v 0) k (and_left (eqb (get_or ss v 0) k) _ h) in
      rw (narrowed_at k ss ds (sym same) v on, sizes_on vs (and_right (eqb (get_or ss v 0) k) _ h))

  module _ (l : List ℕ) (inside : within k ss (table_scope l) ≡ true) where
    size_same : size_of (narrowed k ss ds) (table_scope l) ≡ size_of ds (table_scope l)
    size_same = sizes_on (table_scope l) (and_right (in_half k ss (table_scope l)) _ inside)

    length_same : table_length (narrowed k ss ds) l ≡ table_length ds l
    unfolding table_length
    length_same = rw size_same

    pub table_same : table_of (narrowed k ss ds) l ≡ table_of ds l
    unfolding table_of
    table_same = rw size_same

  pub whole_same : (s : List ℕ) (at : ℕ) → within k ss (table_scope (drop at s)) ≡ true → Whole ds s at
      → Whole (narrowed k ss ds) s at
  whole_same s at inside w =
      record {
        owner = w.owner;
        few = w.few;
        range = rw (narrowed_length k ss ds same) w.range;
        long = rw (length_same (drop at s) inside) w.long;
      }
