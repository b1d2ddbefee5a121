-- What the call that writes text has written, the call that reads text reads back to records with the same frontier, by
-- their promises alone.
use mathlib.Core.Path.{◌≡◌, refl, sym, ◌∙◌, ap}
use mathlib.Core.List.{List}
use Prim.Native.Nat.{ℕ, ◌≤◌}
use lib.ListN.{length, take}
use Rattle.model.specs.Refusals.{accepted}
use Rattle.model.specs.Encoding.{encode}
use Rattle.model.specs.Reading.{problem_of}
use Rattle.model.specs.Calls.{over}
use Rattle.text_networks.specs.Conversions.{ConvertOutcome, to_text_outcome, from_text_outcome}
use Rattle.text_networks.specs.NetworkTexts.{written}
use Rattle.text_networks.proofs.ReadBack.{text_back, records_back}
use Rattle.frontier.specs.Says.{ConvertExports}
use Rattle.frontier.specs.Demands.{SameList}

module _ (s text : List ℕ) {text' : List ℕ} {n at k : ℕ} (w : ConvertExports s (to_text_outcome s text) text' n at k)
    (h : n ≡ 0) where
  -- what is read is what was counted
  counted : take k text' ≡ take (to_text_outcome s text).count (to_text_outcome s text).output
  counted = rw (w.count, w.output) refl

  pub read_back : (records : List ℕ) {records' : List ℕ} {m b j : ℕ}
      → ConvertExports (take k text') (from_text_outcome (take k text') records) records' m b j
      → length s ≤ length records → SameList s records records' m b j
  read_back records r room =
      let fine : (to_text_outcome s text).verdict.number ≡ 0 = sym w.number ∙ h in
      let back : from_text_outcome (take k text') records
      ≡ record { verdict = accepted; count = length s; output = over (encode (written (problem_of s))) records } =
      rw counted (text_back s text fine records w.bytes room) in
      record {
        number = r.number ∙ ap (λ (o : ConvertOutcome). o.verdict.number) back;
        place = r.place ∙ ap (λ (o : ConvertOutcome). o.verdict.place) back;
        count = r.count ∙ ap (λ (o : ConvertOutcome). o.count) back;
        records = encode (written (problem_of s));
        back = records_back s text fine w.bytes;
        records_are = r.output ∙ ap (λ (o : ConvertOutcome). o.output) back;
      }
