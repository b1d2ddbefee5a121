-- What `start_limit` leaves to show: no leading sum is as large as the limit that is none.
use Rattle.std.proofs.Common.{◌<◌, ◌≤◌, arith}
use Rattle.model.specs.Problems.{Word}
use Rattle.model.specs.Core.{core_sum_end}
use Rattle.model.proofs.Elements.{all_map, all_take}
use Rattle.rows.specs.Rows.{costs_in}
use Rattle.rows.proofs.RowNumbers.{costs_long}
use Rattle.branch_archive.specs.Changes.{max_weight}
use Rattle.branch_search.proofs.ArchivedWords.{words_below}
use Rattle.branch_search.proofs.start_limit.Goals as goal

pub returns-then-points-room : goal.returns-then-points-room
returns-then-points-room c i l =
    let d = c.args.d in
    omega (
      arith,
      words_below d c.requires.0 (costs_in d.objectives c.args.work.now i)
          (costs_long c.args.work.now i d.objectives) (c.requires.3 i l),
    )

pub largest_sum-requires : goal.largest_sum-requires
largest_sum-requires c =
    let p = c.args.d.objectives in (
      c.requires.1,
      omega (arith, c.if-points-room.false),
      c.requires.2,
      c.requires.0.few,
      all_take (λ w. w ≤ max_weight) p _ c.lead_weights-weights.ensures.1,
      λ i l. all_map Word (λ a. a < core_sum_end) (λ a h. omega arith) (costs_in p c.args.work.now i)
          (c.requires.3 i l),
    )
