-- The promises about WCSP text, from the theorems.
use mathlib.Core.Path.{◌≡◌, refl, sym, ◌∙◌, ap, ap₂}
use mathlib.Core.Bool.{Bool, true, false}
use mathlib.Core.List.{List, [], ◌∷◌}
use Prim.Native.Nat.{ℕ, ◌*◌, ◌≤◌}
use native.Mathlib.Omega.{arith}
use lib.Dec.{ltb}
use lib.ListN.{length, get_or}
use borrow.Author.Tests.{le-ltb, ltb-false}
use Rattle.model.specs.Basics.{All, pick}
use Rattle.model.specs.Limits.{max_bytes}
use Rattle.model.specs.Refusals.{Verdict, verdict, accepted, refused_at}
use Rattle.model.specs.Problems.{Problem}
use Rattle.model.specs.Encoding.{Byte, encode, WellFormed}
use Rattle.model.specs.Reading.{verdict_of, problem_of}
use Rattle.model.specs.Costs.{is_choice, costs_of}
use Rattle.model.specs.Frontiers.{consistent, frontier}
use Rattle.model.specs.Calls.{over}
use Rattle.model.proofs.Verdicts.{first_accepts, test_accepts}
use Rattle.model.proofs.Reading.{accepted_encoded}
use Rattle.model.proofs.Encoded.{read_encoded}
use Rattle.text_words.specs.Texts.{words_of}
use Rattle.text_networks.specs.Findings.{Finding, fine, dialect, stop, fault, and_then, find_if, value_at}
use Rattle.text_networks.specs.Networks.{network_finding, network_problem}
use Rattle.text_networks.specs.NetworkTexts.{upper_bound_of, written, network_text}
use Rattle.text_networks.specs.NetworkCosts.{network_cost, network_allows}
use Rattle.text_networks.specs.Conversions.{bad_dialect, number_of, text_verdict, converted, unwritable}
use Rattle.text_networks.specs.Conversions.{from_text_outcome, to_text_verdict}
use Rattle.text_networks.specs.Statements.{Read, Writable, ComeBack, TextLaws}
use Rattle.text_networks.proofs.ThereAndBack.{text_problem, text_accepted}
use Rattle.text_networks.proofs.TextLength.{text_length}
use Rattle.text_networks.proofs.TextCosts.{network_fine, text_rules, text_costs}
use Rattle.text_networks.proofs.Written.{written_long, written_writable, written_same, formed_writable}
use Rattle.text_networks.proofs.WrittenCosts.{one_cost, one_cost_lem, written_allowed, written_cost_lem}
use Rattle.text_networks.proofs.WrittenFrontier.{consistent_below, written_consistent, written_costs}
use Rattle.text_networks.proofs.WrittenFrontier.{written_frontier}
use Rattle.text_networks.proofs.Unread.{unread}

-- ## what an accepted text is

accepted_both : (f : Finding) (long : Bool) → (refused_at 0 (number_of (and_then f (find_if long dialect)))).number ≡ 0
    → (f ≡ fine) × (long ≡ false)
unfolding number_of and_then
accepted_both fine true h = absurd (omega arith)
accepted_both fine false h = (refl, refl)
accepted_both dialect true h = absurd (omega arith)
accepted_both dialect false h = absurd (omega arith)
accepted_both stop long h = absurd (omega arith)
accepted_both fault long h = absurd (omega arith)

module _ (s : List ℕ) (h : text_verdict s ≡ accepted) where
  both : (network_finding (words_of s) ≡ fine)
      × (ltb max_bytes (length (encode (network_problem (words_of s)))) ≡ false)
  unfolding text_verdict
  both =
      let ws = words_of s in
      accepted_both (network_finding ws) (ltb max_bytes (length (encode (network_problem ws))))
      (ap (λ (v : Verdict). v.number) h)

  kept : WellFormed (network_problem (words_of s))
  kept = record { rules = text_rules (words_of s) both.0; short = ltb-false _ _ both.1 }

  costs : (xs : List ℕ) → is_choice (network_problem (words_of s)).domains xs ≡ true
      → costs_of (network_problem (words_of s)) xs ≡ network_cost (words_of s) xs ∷ []
  unfolding network_problem
  costs xs choice = text_costs (words_of s) xs both.0 choice

-- ## what a text holds

module _ (s : List ℕ) (q : Problem) (r : Read s q) where
  read_kept : WellFormed q
  read_kept = rw r.1 at (kept s r.0)

  read_costs : (xs : List ℕ) → is_choice q.domains xs ≡ true → costs_of q xs ≡ network_cost (words_of s) xs ∷ []
  read_costs xs choice = rw r.1 at (costs s r.0 xs (rw r.1 choice))

  -- one objective, as every text has
  read_one : q.objectives ≡ 1
  unfolding network_problem
  read_one = ap (λ (p : Problem). p.objectives) (sym r.1)

  read_cost : (xs : List ℕ) → is_choice q.domains xs ≡ true → network_cost (words_of s) xs ≡ one_cost q xs
  read_cost xs choice = only (sym (read_costs xs choice) ∙ one_cost_lem q xs read_one)
    where
      only : {a b : ℕ} → a ∷ [] ≡ b ∷ [] → a ≡ b
      only e = cc

  -- its upper bound, which is not 0
  read_bound : value_at 4 (words_of s) ≡ upper_bound_of q
  unfolding network_problem
  read_bound =
      let bound = (network_fine (words_of s) (both s r.0).0).bound in
      omega (arith, bound.0, ap (λ (p : Problem). get_or p.ceilings 0 0) r.1)

  read_writable : Writable q
  read_writable =
      record {
        formed = read_kept;
        one = read_one;
        bounded = rw read_bound at (network_fine (words_of s) (both s r.0).0).bound.1;
      }

-- ## there and back

module _ (q : Problem) (w : Writable q) where
  holds : Read (network_text q) (written q)
  holds = let v = written_writable q w in (text_accepted (written q) v, text_problem (written q) v)

  short : 4 * length (network_text q) ≤ 17 * length (encode q)
  short = omega (arith, text_length (written q) (written_writable q w), written_long q)

  -- so it has at most 255000 bytes
  pub text_fits : length (network_text q) ≤ 255000
  text_fits = omega (arith, short, w.formed.short)

module _ (s : List ℕ) (q : Problem) (xs : List ℕ) (r : Read s q) (choice : is_choice q.domains xs ≡ true) where
  written_read : network_cost (words_of (network_text q)) xs ≡ one_cost (written q) xs
  unfolding written
  written_read = read_cost (network_text q) (written q) (holds q (read_writable s q r)) xs choice

  written_bound : value_at 4 (words_of (network_text q)) ≡ upper_bound_of q
  unfolding written
  written_bound = read_bound (network_text q) (written q) (holds q (read_writable s q r))

  text_allows : network_allows (words_of s) xs ≡ ltb (one_cost q xs) (upper_bound_of q)
  text_allows = ap₂ ltb (read_cost s q r xs choice) (read_bound s q r)

  allowed : consistent q xs ≡ network_allows (words_of s) xs
  allowed = consistent_below q (read_writable s q r) xs ∙ sym text_allows

  same_allowed : network_allows (words_of (network_text q)) xs ≡ network_allows (words_of s) xs
  same_allowed =
      ap₂ ltb written_read written_bound ∙ written_allowed q (read_writable s q r) xs ∙ sym text_allows

  same_costs : network_allows (words_of s) xs ≡ true
      → network_cost (words_of (network_text q)) xs ≡ network_cost (words_of s) xs
  same_costs h =
      written_read ∙ written_cost_lem q (read_writable s q r) xs (sym text_allows ∙ h) ∙ sym (read_cost s q r xs choice)

-- ## back and there

module _ (s : List ℕ) (h : to_text_verdict s ≡ accepted) where
  both_told : ((verdict_of s).number ≡ 0) × (unwritable (problem_of s) ≡ false)
  unfolding to_text_verdict
  both_told =
      let refused = unwritable (problem_of s) in
      let parts = first_accepts (verdict_of s) (pick refused (verdict bad_dialect 0) accepted)
      (ap (λ (v : Verdict). v.number) h) in
      (parts.0, (test_accepts refused bad_dialect 0 accepted refl parts.1).0)

  module _ (bytes : All Byte s) where
    decoded : WellFormed (problem_of s) × (encode (problem_of s) ≡ s)
    decoded = accepted_encoded s bytes both_told.0

    writable : Writable (problem_of s)
    writable = formed_writable (problem_of s) decoded.0 both_told.1

    same_long : length (encode (written (problem_of s))) ≡ length s
    same_long = written_long (problem_of s) ∙ ap length decoded.1

    read_back : (records : List ℕ) → length s ≤ length records
        → from_text_outcome (network_text (problem_of s)) records
        ≡ record { verdict = accepted; count = length s; output = over (encode (written (problem_of s))) records }
    unfolding from_text_outcome converted
    read_back records room =
        let again = holds (problem_of s) writable in
        rw (again.0, again.1, same_long, le-ltb (length records) (length s) room) refl

    same_records : ComeBack s (encode (written (problem_of s)))
    same_records =
        let q = problem_of s in
        let (taken, read) = read_encoded (written q) (written_writable q writable).formed in
        record {
          long = same_long;
          taken = taken;
          list = ap frontier read ∙ written_frontier q writable;
          same = λ free. ap encode (written_same q free) ∙ decoded.1;
        }

pub text_laws : TextLaws
text_laws =
    record {
      holds = holds;
      same = written_same;
      short = short;
      kept = kept;
      costs = λ s q xs r choice. read_costs s q r xs choice;
      allowed = allowed;
      same_allowed = same_allowed;
      same_costs = same_costs;
      same_consistent = written_consistent;
      same_vectors = written_costs;
      same_frontier = written_frontier;
      read_back = λ s records bytes h room. read_back s h bytes records room;
      same_records = λ s bytes h. same_records s h bytes;
      unread = unread;
    }
