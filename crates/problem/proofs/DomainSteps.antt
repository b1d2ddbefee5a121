-- The domain records: the number of one, test by test; of several the verdict from the front, and the sizes at the end.
use mathlib.Core.Path.{◌≡◌, ap, ◌∙◌}
use mathlib.Core.Bool.{true, false}
use mathlib.Core.List.{List, [], ◌∷◌, ◌++◌}
use Prim.Native.Nat.{ℕ, zero, suc, ◌+◌, ◌*◌, ◌≤◌}
use native.Mathlib.Omega.{arith}
use native.Mathlib.Nat.{add-zero}
use lib.ListN.{length, take, drop, length-drop}
use Rattle.model.specs.Limits.{max_variables, max_domain}
use Rattle.model.specs.Refusals.{bad_domain, verdict}
use Rattle.model.specs.Encoding.{letter_d, letter_o}
use Rattle.model.specs.Reading.{start_number, outside, domain_size, domain_number, domains_verdict, domains_at}
use Rattle.model.specs.Calls.{padded}
use Rattle.model.proofs.Verdicts.{none_when}
use Rattle.model.proofs.DomainRecords.{domain_good, length_domains_at}
use Rattle.problem.proofs.Filled.{length_padded, take_padded}
use Rattle.problem.proofs.Chains.{pass_number, stop_number, when_on, pass_record, stop_record}

module _ (s : List ℕ) where
  pub domain_start : (start_number letter_d letter_o 1 s ≡ 0 → ⊥) → domain_number s ≡ start_number letter_d letter_o 1 s
  unfolding domain_number
  domain_start h = stop_number _ _ h

  module _ (start : start_number letter_d letter_o 1 s ≡ 0) where
    pub domain_large : outside max_domain (domain_size s) ≡ true → domain_number s ≡ bad_domain
    unfolding domain_number
    domain_large h = pass_number _ start ∙ when_on bad_domain h

    pub domain_fits : outside max_domain (domain_size s) ≡ false → domain_number s ≡ 0
    unfolding domain_number
    domain_fits h = pass_number _ start ∙ none_when bad_domain h

module _ (k : ℕ) (s : List ℕ) (at : ℕ) where
  pub domains_go : domain_number (drop at s) ≡ 0 → domains_verdict (suc k) s at ≡ domains_verdict k s (at + 3)
  unfolding domains_verdict
  domains_go e = pass_record at (domain_number (drop at s)) (domains_verdict k s (at + 3)) e

  pub domains_stop : (domain_number (drop at s) ≡ 0 → ⊥)
      → domains_verdict (suc k) s at ≡ verdict (domain_number (drop at s)) at
  unfolding domains_verdict
  domains_stop e = stop_record at (domain_number (drop at s)) (domains_verdict k s (at + 3)) e

pub domains_more : (s : List ℕ) (at i : ℕ)
    → domains_at (suc i) s at ≡ domains_at i s at ++ (domain_size (drop (at + 3 * i) s) ∷ [])
unfolding domains_at
domains_more s at zero = rw add-zero
domains_more s at (suc i) =
    let k : at + 3 + 3 * i ≡ at + 3 * suc i = omega arith in
    ap (λ (l : List ℕ). domain_size (drop at s) ∷ l) (rw (← k) (domains_more s (at + 3) i))

-- the sizes in an array: the first n of it, and its length
pub domains_taken : (n : ℕ) (s : List ℕ) (at : ℕ)
    → take n (padded max_variables (domains_at n s at)) ≡ domains_at n s at
domains_taken n s at = take_padded max_variables n (domains_at n s at) (length_domains_at n s at)

pub domains_room : (n : ℕ) (s : List ℕ) (at : ℕ) → n ≤ max_variables
    → length (padded max_variables (domains_at n s at)) ≡ max_variables
domains_room n s at h = length_padded max_variables (domains_at n s at) (rw length_domains_at h)

-- the next record starts in the list, or at its end
pub domain_next : (s : List ℕ) (at : ℕ) → domain_number (drop at s) ≡ 0 → at + 3 ≤ length s
domain_next s at e = omega (arith, (domain_good (drop at s) e).start.long, length-drop at s)
