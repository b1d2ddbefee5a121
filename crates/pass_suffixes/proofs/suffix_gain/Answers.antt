-- What `suffix_gain` leaves to show: the records that are searched make the problem of the suffix.
use Rattle.pass_suffixes.proofs.SuffixSearch.{suffix_here, suffix_placed, same_gains, same_long, suffix_setting}
use Rattle.pass_suffixes.proofs.SuffixSearch.{gain_holds}
use Rattle.pass_suffixes.proofs.suffix_gain.Goals as goal

pub group_records-requires : goal.group_records-requires
group_records-requires c =
    suffix_placed
    (suffix_here c.requires c.suffix_sides-sides.ensures c.narrow-narrow.ensures c.keep_records-count.ensures)

pub next_point-best-requires : goal.next_point-best-requires
next_point-best-requires c =
    let u = suffix_here c.requires c.suffix_sides-sides.ensures c.narrow-narrow.ensures c.keep_records-count.ensures in
    let g = c.group_records in
    let x = c.root_of-root.ensures in
    (suffix_setting u g.new.work g.ensures c.suffix_ceilings-limits.result, x.1, x.0)

pub returns : goal.returns
returns c =
    let u = suffix_here c.requires c.suffix_sides-sides.ensures c.narrow-narrow.ensures c.keep_records-count.ensures in
    let g = c.group_records in
    let limits = c.suffix_ceilings-limits in
    let x = c.root_of-root in
    let b = c.next_point-best in (
      gain_holds u g.new.work g.ensures limits.result limits.ensures x.result x.ensures b.result b.ensures
          c.gain_of.result c.gain_of.ensures,
      same_gains u g.new.work g.ensures,
      same_long u g.new.work g.ensures,
    )
