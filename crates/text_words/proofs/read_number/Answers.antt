-- What `read_number` leaves to show: one law of Readings for each return.
use Rattle.std.proofs.Common.{◌≡◌, true, false, sym, ◌∙◌, List, ℕ, ◌+◌, drop, arith}
use Rattle.model.proofs.Bits.{true_false}
use Rattle.text_words.specs.Reads.{sign_width, Skipped, RunSays}
use Rattle.text_words.specs.declared.Digits as DD
use Rattle.text_words.proofs.Signs.{sign_within}
use Rattle.text_words.proofs.Readings.{Begun, other_says, plain_says, zero_says, negative_says}
use Rattle.text_words.proofs.read_number.Goals as goal

-- what is read up to the digits
behind : {s : List ℕ} {at start from : ℕ} {run : DD.Digits} → Skipped s at start
    → from ≡ start + sign_width (drop start s) → RunSays s from run → Begun s at start from run
behind a b c = record { skipped = a; sign = b; run = c }

pub read_digits-run-requires : goal.read_digits-run-requires
read_digits-run-requires c =
    rw c.behind_sign-from.ensures (sign_within c.args.s.now c.skip_space-start.result c.skip_space-start.ensures.within)

pub returns-then-end-from : goal.returns-then-end-from
returns-then-end-from c =
    let begun = behind c.skip_space-start.ensures c.behind_sign-from.ensures c.read_digits-run.ensures in
    rw c.no_digits.ensures (other_says begun c.word_end.result c.word_end.ensures (λ _. c.if-end-from.true))

pub returns-then-not-ends_word : goal.returns-then-not-ends_word
returns-then-not-ends_word c =
    let begun = behind c.skip_space-start.ensures c.behind_sign-from.ensures c.read_digits-run.ensures in
    rw c.no_digits-then-not-ends_word.ensures
    (other_says begun c.word_end-then-not-ends_word.result c.word_end-then-not-ends_word.ensures
    (λ stop. absurd (true_false stop (sym c.ends_word.ensures ∙ c.if-not-ends_word.true))))

pub returns-then-value-ne0 : goal.returns-then-value-ne0
returns-then-value-ne0 c =
    let begun = behind c.skip_space-start.ensures c.behind_sign-from.ensures c.read_digits-run.ensures in
    rw c.no_digits-then-value-ne0.ensures
    (negative_says begun (omega (arith, begun.run.after)) (sym c.ends_word.ensures ∙ c.if-not-ends_word.false)
    c.if-s-start-eq45.true c.if-value-ne0.true)

pub returns-else-value-ne0 : goal.returns-else-value-ne0
returns-else-value-ne0 c =
    let begun = behind c.skip_space-start.ensures c.behind_sign-from.ensures c.read_digits-run.ensures in
    zero_says begun (omega (arith, begun.run.after)) (sym c.ends_word.ensures ∙ c.if-not-ends_word.false)
    c.if-s-start-eq45.true c.if-value-ne0.false

pub returns-else-s-start-eq45 : goal.returns-else-s-start-eq45
returns-else-s-start-eq45 c =
    let begun = behind c.skip_space-start.ensures c.behind_sign-from.ensures c.read_digits-run.ensures in
    plain_says begun (omega (arith, begun.run.after)) (sym c.ends_word.ensures ∙ c.if-not-ends_word.false)
    c.if-s-start-eq45.false
