-- What `size_entry` leaves to show: no size where the variable is not declared, else that of its word.
use Rattle.std.proofs.Common.{sym, ap, ◌∙◌, [], get_or, arith}
use Rattle.model.proofs.Lists.{get_d_first}
use Rattle.text_words.specs.Texts.{term_of, value_of}
use Rattle.text_words.specs.Reads.{words_at}
use Rattle.text_networks.specs.Findings.{Words}
use Rattle.text_checking.specs.Sizes.{size_held}
use Rattle.text_checking.proofs.Entries.{held_small, entry_held}
use Rattle.text_checking.proofs.Filling.{values_at, values_none}
use Rattle.text_checking.proofs.size_entry.Goals as goal

pub returns-then-declared-v : goal.returns-then-declared-v
returns-then-declared-v c =
    held_small c.args.s.now 0 (omega arith)
    ∙ sym (values_none c.args.declared.variables (words_at c.args.s.now c.args.declared.sizes) c.args.v
    c.if-declared-v.true)

pub returns : goal.returns
returns c =
    let a = c.args in
    let s = a.s.now in
    let ws = words_at s a.declared.sizes in
    ap (size_held s) c.entry_of.ensures
    ∙ entry_held s c.skip_words-place.result c.read_number-x.result c.read_number-x.ensures
    ∙ ap (λ (us : Words). value_of (term_of (get_or us 0 []))) c.skip_words-place.ensures.words
    ∙ ap (λ w. value_of (term_of w)) (get_d_first [] a.v ws)
    ∙ sym (values_at a.declared.variables ws a.v (omega arith))
