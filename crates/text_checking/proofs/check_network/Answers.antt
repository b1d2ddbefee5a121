-- What `check_network` leaves to show: there is no word, or what is behind the name decides.
use Rattle.std.proofs.Common.{◌≡◌, ◌∙◌, sym, ap, List, ℕ, ◌∷◌, length, arith}
use Rattle.std.proofs.lemmas.Result.{err_from_is_err_and}
use Rattle.model.specs.Encoding.{encode}
use Rattle.text_words.specs.Texts.{words_of}
use Rattle.text_words.specs.Reads.{words_at, part, WordSays}
use Rattle.text_words.specs.declared.Word as DW
use Rattle.text_networks.specs.Findings.{Words}
use Rattle.text_networks.specs.Networks.{network_finding, network_problem}
use Rattle.text_networks.specs.Conversions.{number_of}
use Rattle.text_checking.specs.Codes.{number_code}
use Rattle.text_checking.specs.Steps.{BodySays}
use Rattle.text_checking.specs.declared.Body as DB
use Rattle.text_checking.proofs.Codes.{number_code_lem, number_none}
use Rattle.text_checking.proofs.check_network.Goals as goal

-- behind a name
module _ (s : List ℕ) (word : DW.Word) (says : WordSays s 0 word) (some : word.start ≡ word.end → ⊥) (body : DB.Body)
    (found : BodySays s word.end body) where
  name : List ℕ
  name = part s word.start word.end

  words : words_of s ≡ name ∷ words_at s word.end
  unfolding name
  words = says.some (omega (arith, says.ordered))

  number : number_code body.finding ≡ number_of (network_finding (words_of s))
  number =
      ap number_code (found.finding name)
      ∙ number_code_lem (network_finding (name ∷ words_at s word.end))
      ∙ ap (λ (ws : Words). number_of (network_finding ws)) (sym words)

  bytes : number_code body.finding ≡ 0 → body.bytes ≡ length (encode (network_problem (words_of s)))
  bytes z =
      found.bytes (number_none _ z) name ∙ ap (λ (ws : Words). length (encode (network_problem ws))) (sym words)

pub returns-then-name : goal.returns-then-name
unfolding network_finding number_of
returns-then-name c =
    let none = c.next_word-name.ensures.none c.if-name.true in
    record { number = sym (ap (λ (ws : Words). number_of (network_finding ws)) none); bytes = tt }

pub returns-in_err-refusal : goal.returns-in_err-refusal
returns-in_err-refusal c =
    let p = err_from_is_err_and c.from_residual.result c.from_residual.ensures.1 in
    rw (p.1, p.2)
    (record {
      number =
          c.in_err-refusal.ensures
          ∙ number c.args.s.now c.next_word-name.result c.next_word-name.ensures c.if-name.false
          c.check_rest-body.result c.check_rest-body.ensures;
      bytes = tt;
    })

pub returns : goal.returns
returns c =
    let none : number_code c.check_rest-body.result.finding ≡ 0 = sym c.in_ok-refusal.ensures in
    record {
      number =
          sym none
          ∙ number c.args.s.now c.next_word-name.result c.next_word-name.ensures c.if-name.false
          c.check_rest-body.result c.check_rest-body.ensures;
      bytes =
          bytes c.args.s.now c.next_word-name.result c.next_word-name.ensures c.if-name.false
          c.check_rest-body.result c.check_rest-body.ensures none;
    }
