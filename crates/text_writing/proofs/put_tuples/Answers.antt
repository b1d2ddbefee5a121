-- What the loop of `put_tuples` leaves to show: the line that is due is put, and behind the last entry there is none.
use Rattle.std.proofs.Common.{◌≡◌, ◌<◌, ◌∙◌, ℕ, List, [], suc, length, get_or, drop, sym, add-one, arith}
use lib.ListN.{length-map, drop_of_length-le}
use Rattle.model.specs.Reading.{table_scope, table_of}
use Rattle.text_lines.proofs.Writing.{Split, due, go_on, done}
use Rattle.text_networks.specs.Networks.{sizes_over}
use Rattle.text_networks.specs.NetworkTexts.{written_cost, tuple_line, tuple_lines}
use Rattle.text_writing.specs.Forms.{written_at}
use Rattle.text_writing.proofs.Entries.{entries_many, lines_next, lines_none}
use Rattle.text_writing.proofs.put_tuples.Goals as goal

-- the line that is due at entry k
ahead : (bound : ℕ) (ds s : List ℕ) (at n k : ℕ) → n ≡ length (table_of ds (drop at s)).costs → k < n
    → let sizes = sizes_over ds (table_scope (drop at s)) in
    let ws = (written_at bound ds s at).costs in
    Split (tuple_lines sizes k (drop k ws))
    (tuple_line sizes k (written_cost bound (get_or (table_of ds (drop at s)).costs k 0)))
    (tuple_lines sizes (suc k) (drop (suc k) ws))
ahead bound ds s at n k e h =
    lines_next bound (sizes_over ds (table_scope (drop at s))) (table_of ds (drop at s)).costs k (omega (arith, e, h))

pub put_entry-next-requires : goal.put_entry-next-requires
put_entry-next-requires c =
    let a = c.args in
    let many = c.entries_of-entries.ensures ∙ sym (entries_many a.sizes.now a.s.now a.at) in (
      c.requires.0,
      c.requires.1,
      omega (arith, c.entries_of-entries.ensures),
      due (ahead a.bound a.sizes.now a.s.now a.at _ c.loop-k.k many (omega arith)) c.loop-k.invariant,
    )

pub loop-k-preserved : goal.loop-k-preserved
loop-k-preserved c =
    let a = c.args in
    let many = c.entries_of-entries.ensures ∙ sym (entries_many a.sizes.now a.s.now a.at) in
    rw add-one
    (go_on (ahead a.bound a.sizes.now a.s.now a.at _ c.loop-k.k many (omega arith)) c.loop-k.invariant
    c.put_entry-next.ensures)

pub returns : goal.returns
returns c =
    let a = c.args in
    let ws = (written_at a.bound a.sizes.now a.s.now a.at).costs in
    let cs = (table_of a.sizes.now (drop a.at a.s.now)).costs in
    let many = c.entries_of-entries.ensures ∙ sym (entries_many a.sizes.now a.s.now a.at) in
    let long = length-map cs (written_cost a.bound) in
    let all : drop c.loop-k.k ws ≡ [] = drop_of_length-le ws {i = c.loop-k.k} (omega (arith, many, long)) in
    done (rw (all, lines_none) at c.loop-k.invariant)
