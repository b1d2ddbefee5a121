-- What `check_value` leaves to show, by what is found of a value that is to be declared.
use Rattle.std.proofs.Common.{◌≡◌, sym, ap, ◌∙◌, ltb, arith, rules}
use Rattle.text_words.specs.declared.Kind.TheVariants.{Natural}
use Rattle.text_checking.specs.Sizes.{size_held}
use Rattle.text_checking.proofs.Fields.{declared_none, declared_below, declared_above}
use Rattle.text_checking.proofs.check_value.Goals as goal

pub returns-then-ne : goal.returns-then-ne
returns-then-ne c =
    let says = c.read_number-x.ensures in
    let other : c.read_number-x.result.kind ≡ Natural → ⊥ = search rules in
    record {
      finding = sym (declared_none says _ other);
      within = says.within;
      words = λ l. absurd (omega arith);
    }

pub returns-then-is_below : goal.returns-then-is_below
returns-then-is_below c =
    let says = c.read_number-x.ensures in
    let number : c.read_number-x.result.kind ≡ Natural = search rules in
    record {
      finding =
          sym (declared_below says _ number
          (ap (λ n. ltb n (size_held c.args.s.now c.args.e)) (sym (says.exact number))
          ∙ sym c.is_below.ensures
          ∙ c.if-is_below.true));
      within = says.within;
      words = λ _. says.rest;
    }

pub returns : goal.returns
returns c =
    let says = c.read_number-x.ensures in
    let number : c.read_number-x.result.kind ≡ Natural = search rules in
    record {
      finding =
          sym (declared_above says _
          (ap (λ n. ltb n (size_held c.args.s.now c.args.e)) (sym (says.exact number))
          ∙ sym c.is_below.ensures
          ∙ c.if-is_below.false));
      within = says.within;
      words = λ l. absurd (omega arith);
    }
