-- What the loop of `take_turns` leaves to show.
use Rattle.branch_search.proofs.Archives.{empty_between, between_source}
use Rattle.listing.proofs.Turns.{kept_same, explorable_kept, turned_since, turned_undecided}
use Rattle.listing.proofs.take_turns.Goals as goal

pub loop-number-init : goal.loop-number-init
loop-number-init c =
    let a = c.args in
    record { kept = kept_same a.task.records a.work.now; archive = empty_between _ _ _ }

pub search_turn-explored-requires : goal.search_turn-explored-requires
search_turn-explored-requires c =
    let a = c.args in
    let w = c.loop-number in (
      explorable_kept c.requires w.invariant.kept,
      between_source a.task a.sizes.now a.s.now a.work.now w.work w.invariant.kept.source w.work w.points
          w.invariant.archive,
    )

pub returns-then-explored : goal.returns-then-explored
returns-then-explored c =
    let e = c.search_turn-explored in
    turned_since c.requires c.loop-number.invariant.kept _ e.result e.ensures

pub loop-number-preserved : goal.loop-number-preserved
loop-number-preserved c =
    let e = c.search_turn-explored in
    let t = turned_since c.requires c.loop-number.invariant.kept _ e.result e.ensures in
    record { kept = t.kept; archive = t.between c.if-explored.false }

pub returns : goal.returns
returns c =
    let a = c.args in
    let w = c.loop-number in
    rw c.not_made-explored.ensures
    (turned_undecided a.task a.sizes.now a.s.now w.invariant.kept w.invariant.archive _)
