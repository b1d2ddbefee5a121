-- What the loop of `count_nonzero` leaves to show.
use Rattle.std.proofs.Common.{◌≡◌, ◌∙◌, [], length, drop, sym, add-one, arith}
use lib.ListN.{drop_of_length-le}
use Rattle.model.specs.Reading.{table_of}
use Rattle.text_networks.proofs.NumberSizes.{nonzero_few}
use Rattle.text_writing.proofs.Entries.{entries_many, entries_few, nonzero_next, nonzero_none}
use Rattle.text_writing.proofs.count_nonzero.Goals as goal

pub overflow_add-count : goal.overflow_add-count
overflow_add-count c =
    let ds = c.args.sizes.now in
    let s = c.args.s.now in
    let at = c.args.at in
    let cs = (table_of ds (drop at s)).costs in
    let long : length cs ≡ c.entries_of-entries.result = entries_many ds s at ∙ sym c.entries_of-entries.ensures in
    let few = entries_few ds s at c.requires.0 c.requires.1 in
    let told = rw c.number_at.ensures at c.tuple_of-count.ensures in
    omega (
      arith,
      nonzero_next cs c.loop-i.i (omega (arith, long)),
      told,
      nonzero_few cs,
      few,
      long,
      c.entries_of-entries.ensures,
      c.loop-i.invariant,
    )

pub loop-i-preserved : goal.loop-i-preserved
loop-i-preserved c =
    let ds = c.args.sizes.now in
    let s = c.args.s.now in
    let at = c.args.at in
    let cs = (table_of ds (drop at s)).costs in
    let long : length cs ≡ c.entries_of-entries.result = entries_many ds s at ∙ sym c.entries_of-entries.ensures in
    let told = rw c.number_at.ensures at c.tuple_of-count.ensures in
    rw add-one (omega (arith, nonzero_next cs c.loop-i.i (omega (arith, long)), told, c.loop-i.invariant))

pub returns : goal.returns
returns c =
    let ds = c.args.sizes.now in
    let s = c.args.s.now in
    let at = c.args.at in
    let cs = (table_of ds (drop at s)).costs in
    let long : length cs ≡ c.entries_of-entries.result = entries_many ds s at ∙ sym c.entries_of-entries.ensures in
    let all : drop c.loop-i.i cs ≡ [] = drop_of_length-le cs {i = c.loop-i.i} (omega (arith, long)) in
    omega (arith, rw (all, nonzero_none) at c.loop-i.invariant)
