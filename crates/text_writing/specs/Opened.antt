-- What writing the text of a problem relies on.
use Rattle.std.specs.Prelude.{◌≡◌, List, ℕ, ◌≤◌, length, get_or}
use Rattle.model.specs.Basics.{All}
use Rattle.model.specs.Limits.{word_end}
use Rattle.model.specs.Problems.{DomainSize}
use Rattle.model.specs.Reading.{tables_at, problem_of}
use Rattle.model.specs.declared.Header as DH
use Rattle.problem.specs.Records.{AllWhole}
use Rattle.problem.specs.Says.{start_of}
use Rattle.text_networks.specs.Networks.{max_bound}
use Rattle.text_networks.specs.NetworkTexts.{upper_bound_of, network_text}

-- the header and the domain sizes of the problem that s holds, whose text has its place in a buffer
pub record Opened (s : List ℕ) (head : DH.Header) (sizes : List ℕ) : Type 0 where
  pub domains : sizes ≡ (problem_of s).domains
  pub variables : head.variables ≡ length sizes
  pub some : 1 ≤ length sizes
  pub tables : tables_at head.tables sizes s (start_of head) ≡ (problem_of s).tables
  pub many : head.tables ≡ length (problem_of s).tables
  pub ceiling : get_or head.ceilings 0 0 ≡ get_or (problem_of s).ceilings 0 0
  pub bounded : upper_bound_of (problem_of s) ≤ max_bound
  pub whole : AllWhole head.tables sizes s (start_of head)
  pub small : All DomainSize sizes
  pub placed : length (network_text (problem_of s)) ≤ word_end
