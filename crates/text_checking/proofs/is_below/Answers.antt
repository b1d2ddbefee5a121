-- What `is_below` leaves to show, by the size that an entry holds.
use Rattle.std.proofs.Common.{◌≡◌, ap, ◌∙◌, ltb, ◌-◌, rules}
use Rattle.text_words.specs.Texts.{value_from}
use Rattle.text_words.specs.Reads.{numeral}
use Rattle.text_words.specs.declared.Kind.TheVariants.{Natural}
use Rattle.text_checking.specs.Sizes.{half}
use Rattle.text_checking.proofs.Entries.{below_small, below_half, below_none, below_large, none_behind, none_value}
use Rattle.text_checking.proofs.is_below.Goals as goal

pub returns-then-e-lt-HALF : goal.returns-then-e-lt-HALF
returns-then-e-lt-HALF c = below_small c.args.s.now c.args.e _ c.args.x.value c.requires.value c.if-e-lt-HALF.true

pub returns-then-x-lt-HALF : goal.returns-then-x-lt-HALF
returns-then-x-lt-HALF c =
    below_half c.args.s.now c.args.e _ c.args.x.value c.requires.value c.if-e-lt-HALF.false c.if-x-lt-HALF.true

pub returns-then-s-place : goal.returns-then-s-place
returns-then-s-place c =
    below_none c.args.s.now c.args.e _ c.args.x.value c.requires.value c.if-e-lt-HALF.false c.if-x-lt-HALF.false
    (none_behind c.args.s.now (c.args.e - half) c.if-s-place.true)

pub returns-then-ne : goal.returns-then-ne
returns-then-ne c =
    let other : c.read_number-size.result.kind ≡ Natural → ⊥ = search rules in
    below_none c.args.s.now c.args.e _ c.args.x.value c.requires.value c.if-e-lt-HALF.false c.if-x-lt-HALF.false
    (none_value c.args.s.now (c.args.e - half) c.read_number-size.result c.read_number-size.ensures other)

pub returns : goal.returns
returns c =
    let number : c.read_number-size.result.kind ≡ Natural = search rules in
    c.is_less.ensures
    ∙ ap (ltb (value_from 0 (numeral c.args.s.now c.args.x))) (c.read_number-size.ensures.exact number)
    ∙ below_large c.args.s.now c.args.e _ c.args.x.value c.requires.value c.if-e-lt-HALF.false c.if-x-lt-HALF.false
