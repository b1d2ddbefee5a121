-- The promises about WCSP text as statements over the definitions. proofs/Statements.antt proves them.
use Rattle.std.specs.Prelude.{◌≡◌, true, List, [], ◌∷◌, ◌++◌, ℕ, ◌*◌, ◌≤◌, length}
use Rattle.model.specs.Basics.{All}
use Rattle.model.specs.Refusals.{accepted}
use Rattle.model.specs.Problems.{Problem}
use Rattle.model.specs.Encoding.{Byte, encode, WellFormed}
use Rattle.model.specs.Reading.{verdict_of, problem_of}
use Rattle.model.specs.Costs.{forbidden, is_choice, costs_of}
use Rattle.model.specs.Frontiers.{consistent, frontier}
use Rattle.model.specs.Calls.{over}
use Rattle.text_words.specs.Texts.{words_of}
use Rattle.text_networks.specs.Findings.{Words, stop}
use Rattle.text_networks.specs.Networks.{max_bound, network_finding, network_problem}
use Rattle.text_networks.specs.NetworkCosts.{network_cost, network_allows}
use Rattle.text_networks.specs.NetworkTexts.{upper_bound_of, written, network_text}
use Rattle.text_networks.specs.Conversions.{text_verdict, from_text_outcome, to_text_verdict}

-- a text that is accepted, and the problem that it holds
abbrev pub Read : List ℕ → Problem → Type 0
Read s q = (text_verdict s ≡ accepted) × (network_problem (words_of s) ≡ q)

-- a problem that a text can hold
pub record Writable (q : Problem) : Type 0 where
  pub formed : WellFormed q
  pub one : q.objectives ≡ 1
  pub bounded : upper_bound_of q ≤ max_bound

-- nothing in it is forbidden
abbrev pub Permitted : Problem → Type 0
Permitted q = All (λ t. All (λ c. c ≡ forbidden → ⊥) t.costs) q.tables

-- records that come back for the records s: as many bytes, of a problem with the same frontier; s itself where nothing
-- in it is forbidden
pub record ComeBack (s records : List ℕ) : Type 0 where
  pub long : length records ≡ length s
  pub taken : verdict_of records ≡ accepted
  pub list : frontier (problem_of records) ≡ frontier (problem_of s)
  pub same : Permitted (problem_of s) → records ≡ s

pub record TextLaws : Type 0 where
  -- a problem is written as a text of the format that is not too long; it holds the problem, with what is forbidden as
  -- the upper bound, and the problem itself where nothing is
  pub holds : (q : Problem) → Writable q → Read (network_text q) (written q)
  pub same : (q : Problem) → Permitted q → written q ≡ q
  pub short : (q : Problem) → Writable q → 4 * length (network_text q) ≤ 17 * length (encode q)
  -- what an accepted text holds is accepted
  pub kept : (s : List ℕ) → text_verdict s ≡ accepted → WellFormed (network_problem (words_of s))
  -- a choice costs by the records what the format says that it costs by the text
  pub costs : (s : List ℕ) (q : Problem) (xs : List ℕ) → Read s q → is_choice q.domains xs ≡ true
      → costs_of q xs ≡ network_cost (words_of s) xs ∷ []
  -- and it is consistent where the text allows it
  pub allowed : (s : List ℕ) (q : Problem) (xs : List ℕ) → Read s q → is_choice q.domains xs ≡ true
      → consistent q xs ≡ network_allows (words_of s) xs
  -- there and back: the text of what a text holds allows the same choices, and what is allowed costs the same
  pub same_allowed : (s : List ℕ) (q : Problem) (xs : List ℕ) → Read s q → is_choice q.domains xs ≡ true
      → network_allows (words_of (network_text q)) xs ≡ network_allows (words_of s) xs
  pub same_costs : (s : List ℕ) (q : Problem) (xs : List ℕ) → Read s q → is_choice q.domains xs ≡ true
      → network_allows (words_of s) xs ≡ true
      → network_cost (words_of (network_text q)) xs ≡ network_cost (words_of s) xs
  -- back and there: the written problem has the same consistent choices, which cost the same, and the same frontier
  pub same_consistent : (q : Problem) → Writable q → (xs : List ℕ) → consistent (written q) xs ≡ consistent q xs
  pub same_vectors : (q : Problem) → Writable q → (xs : List ℕ) → consistent q xs ≡ true
      → costs_of (written q) xs ≡ costs_of q xs
  pub same_frontier : (q : Problem) → Writable q → frontier (written q) ≡ frontier q
  -- and reading what was written gives its bytes
  pub read_back : (s records : List ℕ) → All Byte s → to_text_verdict s ≡ accepted → length s ≤ length records
      → from_text_outcome (network_text (problem_of s)) records
      ≡ record { verdict = accepted; count = length s; output = over (encode (written (problem_of s))) records }
  pub same_records : (s : List ℕ) → All Byte s → to_text_verdict s ≡ accepted
      → ComeBack s (encode (written (problem_of s)))
  -- behind the negative number at which reading stops nothing is read
  pub unread : (ws more : Words) → network_finding ws ≡ stop → network_finding (ws ++ more) ≡ stop
