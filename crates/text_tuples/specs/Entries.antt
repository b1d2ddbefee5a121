-- A tuple that is read from a place on: what is asked of it, and what is told of its entry.
use Rattle.std.specs.Prelude.{◌≡◌, List, ℕ, ◌≤◌, ◌<◌, length, take, drop}
use Rattle.model.specs.Basics.{All}
use Rattle.model.specs.Limits.{max_arity}
use Rattle.model.specs.Problems.{DomainSize}
use Rattle.text_words.specs.Reads.{words_at}
use Rattle.text_networks.specs.Findings.{fine, values_in}
use Rattle.text_networks.specs.Networks.{tuple_finding, index_from}
use Rattle.text_tuples.specs.declared.Entry as DE

-- nothing is refused of the tuple, over the first of three sizes
pub record TupleAt (s : List ℕ) (at arity : ℕ) (sizes : List ℕ) : Type 0 where
  pub within : at ≤ length s
  pub few : arity ≤ max_arity
  pub small : All DomainSize (take arity sizes)
  pub right : tuple_finding (take arity sizes) (words_at s at) ≡ fine

-- the index of the entry in its table, and the place of the cost
pub record EntrySays (s : List ℕ) (at arity : ℕ) (sizes : List ℕ) (r : DE.Entry) : Type 0 where
  pub index : r.index ≡ index_from 0 (take arity sizes) (values_in arity (words_at s at))
  pub below : r.index < 512
  pub within : r.end ≤ length s
  pub rest : words_at s r.end ≡ drop arity (words_at s at)
