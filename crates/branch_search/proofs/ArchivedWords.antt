-- The costs of archived points are words: they are under the ceilings, which are. So no sum of theirs is large.
use Rattle.std.proofs.Common.{◌≡◌, ℕ, ◌*◌, ◌<◌, ◌≤◌, List, length, take, drop, sym, ◌∙◌, mul-le-mul_right, arith}
use Rattle.std.proofs.Common.{length-take-le}
use mathlib.Core.List.{Memᴰ as In}
use Rattle.model.specs.Basics.{All}
use Rattle.model.specs.Limits.{word_end}
use Rattle.model.specs.Core.{core_sum_end, WordCeiling, CoreReached}
use Rattle.model.specs.Problems.{Problem, Word}
use Rattle.model.specs.Frontiers.{Point}
use Rattle.model.specs.Archive.{weighted}
use Rattle.model.proofs.Elements.{all_map, all_take, all_drop}
use Rattle.model.proofs.Frontier.{reached_width}
use Rattle.model.proofs.Core.{core_under, under_ceilings}
use Rattle.model.proofs.Weighted.{weighted_limit}
use Rattle.rows.specs.Rows.{costs_in, point_in, list_in, EachCost}
use Rattle.rows.proofs.RowPlaces.{row_listed}
use Rattle.groups.specs.declared.Task as DT
use Rattle.branch_archive.specs.Changes.{max_weight}
use Rattle.branch_directions.specs.Directions.{lead_weights, Sensible}
use Rattle.branch_directions.specs.declared.Directions as DD
use Rattle.branch_search.specs.States.{no_limit, problem_of}

module _ (d : DD.Directions) (task : DT.Task) (ds s was : List ℕ) (wide : d.objectives ≤ length task.ceilings)
    (limited : All WordCeiling task.ceilings) (n c : ℕ) (work : List ℕ)
    (reached : (a : Point) → In a (list_in d.objectives n work 0 c) → CoreReached (problem_of d task ds s was) a) where
  abbrev p : ℕ
  p = d.objectives

  abbrev q : Problem
  q = problem_of d task ds s was

  pub archived_words : EachCost Word p work c
  archived_words i l =
      let t = point_in p n work i in
      let found = reached t (row_listed p n work c i l) in
      let ceilings = task.ceilings in
      let long : length (costs_in p work i) ≡ length (take p ceilings) =
      reached_width q t found ∙ sym (length-take-le p ceilings wide) in
      under_ceilings (costs_in p work i) (take p ceilings) long (core_under q t found)
      (all_take WordCeiling p ceilings limited)

  -- so that their sums do not wrap
  pub archived_small : EachCost (λ a. a < core_sum_end) p work c
  archived_small i l =
      all_map Word (λ a. a < core_sum_end) (λ a h. omega arith) (costs_in p work i) (archived_words i l)

-- no leading sum of words is as large as the limit that is none
pub words_below :
    (d : DD.Directions) → Sensible d → (v : List ℕ) → length v ≡ d.objectives → All Word v →
    weighted (lead_weights d) v < no_limit
words_below d sensible v wide words =
    let small = all_drop (λ w. w ≤ max_weight) (4 * 0) d.weights sensible.small in
    let weights : All (λ w. w ≤ max_weight) (lead_weights d) =
    all_take (λ w. w ≤ max_weight) d.objectives (drop (4 * 0) d.weights) small in
    let limit = weighted_limit max_weight word_end (lead_weights d) v weights words in
    omega (arith, limit, mul-le-mul_right (max_weight * word_end) sensible.few)
