-- The entries of a table, one after another: how many are not 0, and the lines of what is written of them.
use mathlib.Core.Path.{◌≡◌, refl, ap₂}
use mathlib.Core.Bool.{Bool, true, false}
use mathlib.Core.List.{List, [], ◌∷◌, map}
use Prim.Native.Nat.{ℕ, suc, ◌+◌, ◌≤◌, ◌<◌}
use native.Mathlib.Omega.{arith}
use lib.Dec.{eqb}
use lib.ListN.{length, get_or, drop, length-map}
use lib.Seq.{drop-cons}
use borrow.Author.Tests.{eqb-true, ne_eqb}
use Rattle.model.specs.Basics.{All}
use Rattle.model.specs.Problems.{DomainSize, size_of}
use Rattle.model.specs.Reading.{table_scope, table_of}
use Rattle.model.specs.Costs.{forbidden}
use Rattle.model.proofs.Words.{length_words_in}
use Rattle.problem.specs.Records.{Whole}
use Rattle.problem.proofs.Scopes.{scope_few}
use Rattle.problem.proofs.Sizes.{size_small, size_positive}
use Rattle.costs.specs.Entries.{entries_at}
use Rattle.text_lines.proofs.Writing.{Split}
use Rattle.text_networks.specs.NetworkTexts.{written_cost, is_nonzero, nonzero, tuple_line, tuple_lines}
use Rattle.text_networks.proofs.WrittenCosts.{entry_written}

module _ (ds s : List ℕ) (at : ℕ) where
  -- a table has its entries
  pub entries_many : length (table_of ds (drop at s)).costs ≡ entries_at ds s at
  unfolding table_of
  entries_many = length_words_in (size_of ds (table_scope (drop at s))) _

  module _ (w : Whole ds s at) (sizes : All DomainSize ds) where
    pub entries_few : entries_at ds s at ≤ 512
    entries_few = size_small ds sizes (table_scope (drop at s)) w.range (scope_few ds s at w)

    pub entries_some : 1 ≤ entries_at ds s at
    entries_some = size_positive ds sizes (table_scope (drop at s)) w.range

-- what is written of an entry that is not 0 is not 0
nonzero_cost : (bound c : ℕ) → 1 ≤ bound → is_nonzero (written_cost bound c) ≡ is_nonzero c
nonzero_cost bound c some = go (eqb c forbidden) refl
  where
    go : (b : Bool) → eqb c forbidden ≡ b → is_nonzero (written_cost bound c) ≡ is_nonzero c
    go true e = rw (e, ne_eqb bound 0 (λ z. omega arith), eqb-true c forbidden e) refl
    go false e = rw e refl

pub nonzero_written : (bound : ℕ) (cs : List ℕ) → 1 ≤ bound → nonzero (map (written_cost bound) cs) ≡ nonzero cs
unfolding nonzero
nonzero_written bound [] some = refl
nonzero_written bound (c ∷ cs) some = ap₂ ◌+◌ (nonzero_cost bound c some) (nonzero_written bound cs some)

pub nonzero_next : (cs : List ℕ) (i : ℕ) → i < length cs
    → nonzero (drop i cs) ≡ is_nonzero (get_or cs i 0) + nonzero (drop (suc i) cs)
unfolding nonzero
nonzero_next cs i h = rw (drop-cons cs i 0 h) refl

pub nonzero_none : nonzero [] ≡ 0
unfolding nonzero
nonzero_none = refl

-- the line that is due, and none behind the last
pub lines_next : (bound : ℕ) (ds cs : List ℕ) (i : ℕ) → i < length cs
    → let ws = map (written_cost bound) cs in
    Split (tuple_lines ds i (drop i ws)) (tuple_line ds i (written_cost bound (get_or cs i 0)))
    (tuple_lines ds (suc i) (drop (suc i) ws))
unfolding tuple_lines
lines_next bound ds cs i h =
    let ws = map (written_cost bound) cs in
    let there : i < length ws = rw length-map h in
    record { parts = rw (drop-cons ws i 0 there, entry_written) refl }

pub lines_none : (ds : List ℕ) (i : ℕ) → tuple_lines ds i [] ≡ []
unfolding tuple_lines
lines_none ds i = refl
