-- What `check_size` leaves to show, by what is found of a size.
use Rattle.std.proofs.Common.{◌≡◌, sym, ap, ◌∙◌, ℕ, ◌≤◌, false, true, not, ltb, arith, rules}
use borrow.Author.Tests.{ltb-false}
use Rattle.text_words.specs.Texts.{value_from}
use Rattle.text_words.specs.Reads.{words_at, numeral}
use Rattle.text_words.specs.declared.Kind.TheVariants.{Natural}
use Rattle.text_networks.specs.Findings.{value_at}
use Rattle.text_checking.specs.Codes.{rank}
use Rattle.text_checking.specs.Sizes.{size_held}
use Rattle.text_checking.proofs.Entries.{entry_held}
use Rattle.text_checking.proofs.Fields.{size_none, size_above, size_below}
use Rattle.text_checking.proofs.check_size.Goals as goal

pub returns-then-ne : goal.returns-then-ne
returns-then-ne c =
    let says = c.read_number-x.ensures in
    let other : c.read_number-x.result.kind ≡ Natural → ⊥ = search rules in
    let (code, heavy) = size_none says (value_from 0 (numeral c.args.s.now c.args.most)) other in
    let decides : 2 ≤ rank c.limited-finding.result = rw c.limited-finding.ensures heavy in
    record {
      step = record {
        finding = c.limited-finding.ensures ∙ code;
        within = says.within;
        words = λ l. absurd (omega arith);
      };
      met = λ l. absurd (omega arith);
      below = λ l. absurd (omega arith);
      entry = λ l. absurd (omega arith);
    }

pub returns-then-is_less : goal.returns-then-is_less
returns-then-is_less c =
    let says = c.read_number-x.ensures in
    let number : c.read_number-x.result.kind ≡ Natural = search rules in
    let most = value_from 0 (numeral c.args.s.now c.args.most) in
    let above : ltb most (value_at 0 (words_at c.args.s.now c.args.at)) ≡ true =
    ap (ltb most) (sym (says.exact number)) ∙ sym c.is_less.ensures ∙ c.if-is_less.true in
    record {
      step = record {
        finding = sym (size_above says most number above);
        within = says.within;
        words = λ l. absurd (omega arith);
      };
      met = λ l. absurd (omega arith);
      below = λ l. absurd (omega arith);
      entry = λ l. absurd (omega arith);
    }

pub returns : goal.returns
returns c =
    let s = c.args.s.now in
    let says = c.read_number-x.ensures in
    let number : c.read_number-x.result.kind ≡ Natural = search rules in
    let most = value_from 0 (numeral s c.args.most) in
    let exact = says.exact number in
    let x : ℕ = value_at 0 (words_at s c.args.at) in
    let under : ltb most x ≡ false = ap (ltb most) (sym exact) ∙ sym c.is_less.ensures ∙ c.if-is_less.false in
    record {
      step = record {
        finding = c.limited-finding.ensures ∙ size_below says most number under;
        within = says.within;
        words = λ _. says.rest;
      };
      met = λ _. ap not (c.is_less-met.ensures ∙ ap (λ (n : ℕ). ltb n most) exact);
      below = λ _. ltb-false most x under;
      entry = λ _. ap (size_held s) c.entry_of.ensures ∙ entry_held s c.args.at c.read_number-x.result says;
    }
