-- Cost functions, as they are read and as their tables are written.
use Rattle.std.specs.Prelude.{◌≡◌, List, ◌∷◌, ℕ, suc, ◌+◌, ◌*◌, ◌≤◌, ◌<◌, length, take, drop}
use Rattle.model.specs.Basics.{All}
use Rattle.model.specs.Limits.{max_variables, max_arity, word_end}
use Rattle.model.specs.Problems.{DomainSize, InRange, size_of}
use Rattle.model.specs.Encoding.{letter_c, letter_f, four_bytes, word_bytes, table_bytes, tables_bytes}
use Rattle.text_words.specs.Reads.{words_at}
use Rattle.text_lines.specs.Written.{Written}
use Rattle.text_networks.specs.Findings.{Words, fine, value_at, values_in, runs}
use Rattle.text_networks.specs.Networks.{arity_in, scope_in, default_in, count_in, tuples_in, function_width}
use Rattle.text_networks.specs.Networks.{sizes_over}
use Rattle.text_networks.specs.Networks.{tuple_finding, function_finding, functions_finding, index_from, with_tuples}
use Rattle.text_networks.specs.Networks.{function_table, function_tables}
use Rattle.text_reading.specs.Heads.{domain_list}
use Rattle.text_reading.specs.declared.Domains as DD
use Rattle.text_reading.specs.declared.Scope as DS
use Rattle.text_reading.specs.declared.Function as DF
use Rattle.text_reading.specs.declared.Next as DN

-- ## what is read

-- the domain sizes of a problem
pub record DomainsHeld (d : DD.Domains) : Type 0 where
  pub few : d.count ≤ max_variables
  pub small : All DomainSize (domain_list d)

pub record ScopeAt (s : List ℕ) (at a : ℕ) (d : DD.Domains) : Type 0 where
  pub domains : DomainsHeld d
  pub within : at ≤ length s
  pub few : a ≤ max_arity
  pub range : InRange (length (domain_list d)) (values_in a (words_at s at))

pub record ScopeSays (s : List ℕ) (at a : ℕ) (ds : List ℕ) (r : DS.Scope) : Type 0 where
  pub arity : r.arity ≡ a
  pub variables : take a r.variables ≡ values_in a (words_at s at)
  pub sizes : take a r.sizes ≡ sizes_over ds (values_in a (words_at s at))
  pub size : r.size ≡ size_of ds (values_in a (words_at s at))
  pub within : r.end ≤ length s
  pub rest : words_at s r.end ≡ drop a (words_at s at)

pub record FunctionAt (s : List ℕ) (at : ℕ) (d : DD.Domains) : Type 0 where
  pub domains : DomainsHeld d
  pub within : at ≤ length s
  pub right : function_finding (domain_list d) (words_at s at) ≡ fine

pub record FunctionSays (s : List ℕ) (at : ℕ) (ds : List ℕ) (r : DF.Function) : Type 0 where
  pub arity : r.scope.arity ≡ arity_in (words_at s at)
  pub variables : take r.scope.arity r.scope.variables ≡ scope_in (words_at s at)
  pub sizes : take r.scope.arity r.scope.sizes ≡ sizes_over ds (scope_in (words_at s at))
  pub size : r.scope.size ≡ size_of ds (scope_in (words_at s at))
  pub default : r.default ≡ default_in (words_at s at)
  pub count : r.count ≡ count_in (words_at s at)
  pub within : r.end ≤ length s
  pub rest : words_at s r.end ≡ tuples_in (words_at s at)

-- ## what is written

-- a table's record up to its costs
abbrev pub table_head : DS.Scope → List ℕ
table_head p = letter_c ∷ letter_f ∷ 0 ∷ p.arity ∷ take p.arity p.variables

abbrev pub scope_sizes : DS.Scope → List ℕ
scope_sizes p = take p.arity p.sizes

-- the entry of a tuple
abbrev pub entry_of : DS.Scope → Words → ℕ
entry_of p ws = index_from 0 (scope_sizes p) (values_in p.arity ws)

-- the entries of the scope's table have their place from `to` on
pub record TablePlace (p : DS.Scope) (to : ℕ) : Type 0 where
  pub few : p.arity ≤ max_arity
  pub small : All DomainSize (scope_sizes p)
  pub inside : (ws : Words) → tuple_finding (scope_sizes p) ws ≡ fine → entry_of p ws < p.size
  pub room : to + 4 * p.size ≤ word_end

-- a tuple's cost takes the place of its entry
pub record TuplePlace (s : List ℕ) (at : ℕ) (p : DS.Scope) (to : ℕ) : Type 0 where
  pub table : TablePlace p to
  pub within : at ≤ length s
  pub right : tuple_finding (scope_sizes p) (words_at s at) ≡ fine

pub record TuplePut (s : List ℕ) (at : ℕ) (p : DS.Scope) (to : ℕ) (out out' : List ℕ) (r : ℕ) : Type 0 where
  pub within : r ≤ length s
  pub rest : words_at s r ≡ drop (suc p.arity) (words_at s at)
  pub put :
      let entry = to + 4 * entry_of p (words_at s at) in
      Written entry (four_bytes (value_at p.arity (words_at s at))) out out' (entry + 4)

-- where a table of costs stands, the table with the tuples stands
pub record TuplesPlace (s : List ℕ) (f : DF.Function) (to : ℕ) : Type 0 where
  pub table : TablePlace f.scope to
  pub within : f.end ≤ length s
  pub right :
      runs f.count (tuple_finding (scope_sizes f.scope)) (suc f.scope.arity) (words_at s f.end) ≡ fine

pub record TuplesPut (s : List ℕ) (f : DF.Function) (to : ℕ) (out out' : List ℕ) (r : ℕ) : Type 0 where
  pub within : r ≤ length s
  pub rest : words_at s r ≡ drop (f.count * suc f.scope.arity) (words_at s f.end)
  pub kept : length out' ≡ length out
  pub put : (costs old : List ℕ) (behind : ℕ) → length costs ≡ f.scope.size
      → Written to (word_bytes costs) old out behind
      → Written to (word_bytes (with_tuples f.count (scope_sizes f.scope) (words_at s f.end) costs)) old out'
      behind

pub record FunctionPut (s : List ℕ) (at : ℕ) (ds : List ℕ) (to : ℕ) (out out' : List ℕ) (r : DN.Next) : Type 0 where
  pub within : r.at ≤ length s
  pub rest : words_at s r.at ≡ drop (function_width (words_at s at)) (words_at s at)
  pub put : Written to (table_bytes (function_table ds (words_at s at))) out out' r.to

pub record FunctionsAt (s : List ℕ) (at count : ℕ) (d : DD.Domains) (to : ℕ) : Type 0 where
  pub domains : DomainsHeld d
  pub within : at ≤ length s
  pub right : functions_finding count (domain_list d) (words_at s at) ≡ fine
  pub room : to + length (tables_bytes (function_tables count (domain_list d) (words_at s at))) ≤ word_end
