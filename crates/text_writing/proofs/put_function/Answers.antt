-- What `put_function` leaves to show: the entry of a table without variables is the default, else the first line and
-- those of the entries are due.
use Rattle.std.proofs.Common.{◌≡◌, ◌+◌, ◌≤◌, ◌∙◌, ℕ, List, length, drop, sym, ap, subst}
use Rattle.model.specs.Limits.{word_end}
use Rattle.model.specs.Reading.{table_arity, table_scope, table_of}
use Rattle.problem.specs.Records.{Whole}
use Rattle.problem.proofs.Scopes.{whole_inside, scope_few, scope_many}
use Rattle.costs.specs.Entries.{number_at}
use Rattle.text_lines.proofs.Writing.{Split, begin, due, go_on, last, written_as}
use Rattle.text_networks.specs.NetworkTexts.{written_cost, nonzero, function_text}
use Rattle.text_writing.specs.Forms.{head_line, written_at, table_lines}
use Rattle.text_writing.proofs.Entries.{entries_some}
use Rattle.text_writing.proofs.Functions.{constant_line, head_first}
use Rattle.text_writing.proofs.put_function.Goals as goal

module _ (bound : ℕ) (ds s : List ℕ) (at arity : ℕ) (whole : Whole ds s at) (counted : arity ≡ table_arity (drop at s))
  where
    -- the arity is the number of variables
    variables : arity ≡ length (table_scope (drop at s))
    variables = counted ∙ sym (scope_many s at (whole_inside ds s at whole))

    -- without variables: the one line
    constant : (read cost : ℕ) → read ≡ number_at ds s at 0 → cost ≡ written_cost bound read → arity ≡ 0
        → head_line s at cost 0 ≡ function_text ds (written_at bound ds s at)
    constant read cost told written none =
        constant_line bound ds s at _ (written ∙ ap (written_cost bound) told) (sym variables ∙ none)

    -- with variables: the first line is due, then those of the entries
    parts : 1 ≤ bound → (k : ℕ) → k ≡ nonzero (table_of ds (drop at s)).costs → (arity ≡ 0 → ⊥)
        → Split (function_text ds (written_at bound ds s at)) (head_line s at 0 k) (table_lines bound ds s at)
    parts low k told some = head_first bound ds s at low k told (λ e. some (variables ∙ e))

pub arity_at-requires : goal.arity_at-requires
arity_at-requires c = whole_inside c.args.sizes.now c.args.s.now c.args.at c.requires.0

pub number_at-requires : goal.number_at-requires
number_at-requires c =
    (c.requires.0, entries_some c.args.sizes.now c.args.s.now c.args.at c.requires.0 c.requires.1)

pub put_head-requires : goal.put_head-requires
put_head-requires c =
    let a = c.args in
    let same =
    constant a.bound a.sizes.now a.s.now a.at _ c.requires.0 c.arity_at.ensures _ _ c.number_at.ensures
    c.written_cost-entry.ensures c.if-arity_at-eq0.true in (
      whole_inside a.sizes.now a.s.now a.at c.requires.0,
      scope_few a.sizes.now a.s.now a.at c.requires.0,
      subst (λ (l : List ℕ). a.to + length l ≤ word_end) (sym same) c.requires.3,
    )

pub returns-then-arity_at-eq0 : goal.returns-then-arity_at-eq0
returns-then-arity_at-eq0 c =
    let a = c.args in
    written_as
    (constant a.bound a.sizes.now a.s.now a.at _ c.requires.0 c.arity_at.ensures _ _ c.number_at.ensures
    c.written_cost-entry.ensures c.if-arity_at-eq0.true)
    c.put_head.ensures

pub put_head-behind_head-requires : goal.put_head-behind_head-requires
put_head-behind_head-requires c =
    let a = c.args in
    let line =
    parts a.bound a.sizes.now a.s.now a.at _ c.requires.0 c.arity_at.ensures c.requires.2 _
    c.count_nonzero-count.ensures c.if-arity_at-eq0.false in (
      whole_inside a.sizes.now a.s.now a.at c.requires.0,
      scope_few a.sizes.now a.s.now a.at c.requires.0,
      due line (begin a.out.now c.requires.3),
    )

pub put_tuples-requires : goal.put_tuples-requires
put_tuples-requires c =
    let a = c.args in
    let line =
    parts a.bound a.sizes.now a.s.now a.at _ c.requires.0 c.arity_at.ensures c.requires.2 _
    c.count_nonzero-count.ensures c.if-arity_at-eq0.false in (
      c.requires.0,
      c.requires.1,
      (go_on line (begin a.out.now c.requires.3) c.put_head-behind_head.ensures).placed,
    )

pub returns : goal.returns
returns c =
    let a = c.args in
    let line =
    parts a.bound a.sizes.now a.s.now a.at _ c.requires.0 c.arity_at.ensures c.requires.2 _
    c.count_nonzero-count.ensures c.if-arity_at-eq0.false in
    last (go_on line (begin a.out.now c.requires.3) c.put_head-behind_head.ensures) c.put_tuples.ensures
