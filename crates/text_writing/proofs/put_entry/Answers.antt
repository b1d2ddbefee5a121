-- What `put_entry` leaves to show: no line for 0, else the line of the values and what is written of the entry.
use Rattle.std.proofs.Common.{◌+◌, ◌≤◌, ◌∙◌, ℕ, List, length, sym, ap, subst}
use Rattle.model.specs.Limits.{word_end}
use Rattle.problem.proofs.Scopes.{whole_inside}
use Rattle.text_lines.proofs.Writing.{written_as}
use Rattle.text_networks.specs.NetworkTexts.{written_cost}
use Rattle.text_writing.proofs.EntryLines.{entry_line_lem}
use Rattle.text_writing.proofs.put_entry.Goals as goal

pub arity_at-arity-requires : goal.arity_at-arity-requires
arity_at-arity-requires c = whole_inside c.args.sizes.now c.args.s.now c.args.at c.requires.0

pub put_line-requires : goal.put_line-requires
put_line-requires c =
    let a = c.args in
    let told = c.written_cost-cost.ensures ∙ ap (written_cost a.bound) c.number_at.ensures in
    let same =
    entry_line_lem a.bound a.sizes.now a.s.now a.at a.i _ told _ _
    (whole_inside a.sizes.now a.s.now a.at c.requires.0) c.arity_at-arity.ensures c.values_at-values.ensures
    c.if-cost-eq0.false in
    subst (λ (l : List ℕ). a.to + length l ≤ word_end) (sym same) c.requires.3

pub returns : goal.returns
returns c =
    let a = c.args in
    let told = c.written_cost-cost.ensures ∙ ap (written_cost a.bound) c.number_at.ensures in
    written_as
    (entry_line_lem a.bound a.sizes.now a.s.now a.at a.i _ told _ _
    (whole_inside a.sizes.now a.s.now a.at c.requires.0) c.arity_at-arity.ensures c.values_at-values.ensures
    c.if-cost-eq0.false)
    c.put_line.ensures
