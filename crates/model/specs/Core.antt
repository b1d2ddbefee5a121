-- The problem that the search works on: natural numbers, and ceilings that a cost stays below. Entries and ceilings of
-- a problem become the core's here and nowhere else: a forbidden entry is one above every ceiling, so that one test of
-- the costs is enough.
-- Nobody has to believe it: proofs/Core.antt shows that the core's list is the frontier list.
use Rattle.std.specs.Prelude.{Bool, true, ◌&&◌, List, [], ◌∷◌, ℕ, suc, ◌+◌, ◌≤◌, min, ltb}
use Rattle.model.specs.Basics.{pick}
use Rattle.model.specs.Limits.{word_end}
use Rattle.model.specs.Problems.{Table, Problem}
use Rattle.model.specs.Costs.{forbidden, costs_of}
use Rattle.model.specs.Frontiers.{Point, frontier_by, ReachedBy}

-- what an entry stays below, and what a sum of entries does
abbrev pub entry_end : ℕ
entry_end = 1099511627776

abbrev pub core_sum_end : ℕ
core_sum_end = 281474976710656

-- a ceiling is any number of eight bytes; the second form of the search asks that the numbers below it have four,
-- as the corners of its zones have
abbrev pub WordCeiling : ℕ → Type 0
WordCeiling c = c ≤ word_end

-- what a table's number weighs in the core, and the number that weighs so much: a forbidden one weighs more than all
-- others of a problem together, and than every ceiling
abbrev pub forbidden_rise : ℕ
forbidden_rise = 1095216660480

unfoldable pub entry : ℕ → ℕ
entry x = pick (ltb x forbidden) x (x + forbidden_rise)

unfoldable pub plain : ℕ → ℕ
plain y = min y forbidden

unfoldable pub weighed : List ℕ → List ℕ
weighed [] = []
weighed (x ∷ xs) = entry x ∷ weighed xs

abbrev pub core_table : Table → Table
core_table t = record { objective = t.objective; scope = t.scope; costs = weighed t.costs }

unfoldable pub core_tables : List Table → List Table
core_tables [] = []
core_tables (t ∷ ts) = core_table t ∷ core_tables ts

-- the ceiling that a cost stays below where it keeps the public one
unfoldable pub core_ceiling : ℕ → ℕ
core_ceiling c = suc c

unfoldable pub core_ceilings : List ℕ → List ℕ
core_ceilings [] = []
core_ceilings (c ∷ cs) = core_ceiling c ∷ core_ceilings cs

-- the core's form of a problem
abbrev pub core_of : Problem → Problem
core_of q =
    record {
      objectives = q.objectives;
      ceilings = core_ceilings q.ceilings;
      domains = q.domains;
      tables = core_tables q.tables;
    }

-- a problem with other ceilings: those of a cut's halves may differ from those of their sums
abbrev pub with_ceilings : List ℕ → Problem → Problem
with_ceilings cs q =
    record { objectives = q.objectives; ceilings = cs; domains = q.domains; tables = q.tables }

-- strictly below every ceiling; where there is no ceiling, all is below it
unfoldable pub under : List ℕ → List ℕ → Bool
under [] cs = true
under (x ∷ xs) [] = true
under (x ∷ xs) (c ∷ cs) = ltb x c && under xs cs

-- the core's test of a choice, its list, and what is reached
unfoldable pub core_consistent : Problem → List ℕ → Bool
core_consistent q xs = under (costs_of q xs) q.ceilings

abbrev pub core_frontier : Problem → List Point
core_frontier q = frontier_by (core_consistent q) q

abbrev pub CoreReached : Problem → Point → Type 0
CoreReached q p = ReachedBy (core_consistent q) q p
