-- What the two converting calls answer and leave in the lent buffer, for every input.
use Rattle.std.specs.Prelude.{Bool, ◌||◌, List, ℕ, ltb, length}
use Rattle.model.specs.Basics.{pick, when}
use Rattle.model.specs.Limits.{max_bytes}
use Rattle.model.specs.Refusals.{Verdict, verdict, accepted, refused_at, first}
use Rattle.model.specs.Problems.{Problem}
use Rattle.model.specs.Encoding.{encode}
use Rattle.model.specs.Reading.{verdict_of, problem_of}
use Rattle.model.specs.Calls.{over, answers}
use Rattle.text_words.specs.Texts.{words_of}
use Rattle.text_networks.specs.Findings.{Finding, fine, dialect, stop, fault, and_then, find_if}
use Rattle.text_networks.specs.Networks.{max_bound, network_finding, network_problem}
use Rattle.text_networks.specs.NetworkTexts.{upper_bound_of, network_text}

-- 17: not the format; 18: content that is refused; 19: the output buffer is too short
abbrev pub bad_text : ℕ
bad_text = 17

abbrev pub bad_dialect : ℕ
bad_dialect = 18

abbrev pub output_short : ℕ
output_short = 19

-- a verdict, how many bytes are written, the output buffer on exit
pub record ConvertOutcome : Type 0 where
  pub verdict : Verdict
  pub count : ℕ
  pub output : List ℕ

-- a form that is accepted and fits is written over the start of the buffer; otherwise nothing is written
unfoldable pub converted : Verdict → List ℕ → List ℕ → ConvertOutcome
converted v form output =
    let w = first v (pick (ltb (length output) (length form)) (verdict output_short 0) accepted) in
    record {
      verdict = w;
      count = when (answers w) (length form);
      output = pick (answers w) (over form output) output;
    }

-- From text to records: 17, 18, 19. The records' limit of bytes is one of those that 18 tells.
unfoldable pub number_of : Finding → ℕ
number_of fine = 0
number_of dialect = bad_dialect
number_of stop = bad_dialect
number_of fault = bad_text

unfoldable pub text_verdict : List ℕ → Verdict
text_verdict s =
    let ws = words_of s in
    let long = ltb max_bytes (length (encode (network_problem ws))) in
    refused_at 0 (number_of (and_then (network_finding ws) (find_if long dialect)))

unfoldable pub from_text_outcome : List ℕ → List ℕ → ConvertOutcome
from_text_outcome s output = converted (text_verdict s) (encode (network_problem (words_of s))) output

-- From records to text: 1 to 11, 18 for more than one objective or a ceiling that no upper bound stands for, 19.
abbrev pub unwritable : Problem → Bool
unwritable q = ltb 1 q.objectives || ltb max_bound (upper_bound_of q)

unfoldable pub to_text_verdict : List ℕ → Verdict
to_text_verdict s = first (verdict_of s) (pick (unwritable (problem_of s)) (verdict bad_dialect 0) accepted)

unfoldable pub to_text_outcome : List ℕ → List ℕ → ConvertOutcome
to_text_outcome s output = converted (to_text_verdict s) (network_text (problem_of s)) output
