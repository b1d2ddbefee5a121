-- What `put_head` leaves to show: what is due behind each number of the line.
use Rattle.std.proofs.Common.{[], ◌∷◌, ◌++◌, drop}
use Rattle.model.specs.Reading.{table_scope}
use Rattle.text_words.specs.Texts.{decimal, spaced, line_feed, space}
use Rattle.text_lines.proofs.Writing.{split_in, due, last}
use Rattle.text_writing.proofs.Heads.{head_end, arity_due, scope_due, default_due, count_due}
use Rattle.text_writing.proofs.put_head.Goals as goal

pub put_number-behind_arity-requires : goal.put_number-behind_arity-requires
put_number-behind_arity-requires c =
    let a = c.args in
    arity_due (table_scope (drop a.at a.s.now)) c.scope_of-scope.result.now c.scope_of-scope.ensures a.default a.count
    a.to a.out.now c.requires.2

pub put_spaced-behind_scope-requires : goal.put_spaced-behind_scope-requires
put_spaced-behind_scope-requires c =
    let a = c.args in
    due (split_in (spaced c.scope_of-scope.result.now) (head_end a.default a.count))
    (scope_due (table_scope (drop a.at a.s.now)) _ c.scope_of-scope.ensures a.default a.count a.to a.out.now
    c.requires.2 c.put_number-behind_arity.ensures)

pub put_number-behind_default-requires : goal.put_number-behind_default-requires
put_number-behind_default-requires c =
    let a = c.args in
    due (split_in (decimal a.default ++ (space ∷ [])) (decimal a.count ++ (line_feed ∷ [])))
    (default_due (table_scope (drop a.at a.s.now)) _ c.scope_of-scope.ensures a.default a.count a.to a.out.now
    c.requires.2 c.put_number-behind_arity.ensures c.put_spaced-behind_scope.ensures)

pub put_number-requires : goal.put_number-requires
put_number-requires c =
    let a = c.args in
    (count_due (table_scope (drop a.at a.s.now)) _ c.scope_of-scope.ensures a.default a.count a.to a.out.now
    c.requires.2 c.put_number-behind_arity.ensures c.put_spaced-behind_scope.ensures
    c.put_number-behind_default.ensures).placed

pub returns : goal.returns
returns c =
    let a = c.args in
    last
    (count_due (table_scope (drop a.at a.s.now)) _ c.scope_of-scope.ensures a.default a.count a.to a.out.now
    c.requires.2 c.put_number-behind_arity.ensures c.put_spaced-behind_scope.ensures
    c.put_number-behind_default.ensures)
    c.put_number.ensures
