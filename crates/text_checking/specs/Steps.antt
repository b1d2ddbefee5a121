-- What each function of the source finds.
use Rattle.std.specs.Prelude.{◌≡◌, not, List, ◌∷◌, ℕ, suc, ◌+◌, ◌-◌, ◌*◌, ◌≤◌, ◌<◌, min, eqb, ltb, length, get_or, drop}
use Rattle.std.specs.Prelude.{Result, IfOk}
use Rattle.model.specs.Basics.{All}
use Rattle.model.specs.Problems.{DomainSize}
use Rattle.model.specs.Reasons.{number_in}
use Rattle.model.specs.declared.Reason.{Reason}
use Rattle.model.specs.Encoding.{table_bytes, tables_bytes, encode}
use Rattle.text_words.specs.Texts.{value_from, words_of}
use Rattle.text_words.specs.Reads.{words_at, cap_end, numeral, DigitsAt}
use Rattle.text_networks.specs.Findings.{Words, Finding, dialect, and_then, find_if, term_at, value_at, values_in, runs}
use Rattle.text_networks.specs.Networks.{variables_finding, largest_finding, functions_number, bound_finding}
use Rattle.text_networks.specs.Networks.{cost_finding}
use Rattle.text_networks.specs.Networks.{size_finding, declared_finding, count_finding, tuple_finding, function_finding}
use Rattle.text_networks.specs.Networks.{functions_finding, repeated, repeated_tuple, tuples_of, sizes_over, largest_of}
use Rattle.text_networks.specs.Networks.{function_width, function_table, function_tables, network_finding}
use Rattle.text_networks.specs.Networks.{network_problem}
use Rattle.text_networks.specs.Conversions.{number_of}
use Rattle.text_networks.proofs.Entries.{product}
use Rattle.text_checking.specs.Codes.{rank, found_of, both}
use Rattle.text_checking.specs.Sizes.{size_held, sizes_held, domains_at}
use Rattle.text_checking.specs.declared.Found.{Found}
use Rattle.text_checking.specs.declared.Found.TheVariants.{Nothing}
use Rattle.text_checking.specs.declared.Step as DS
use Rattle.text_checking.specs.declared.Declared as DD
use Rattle.text_checking.specs.declared.Far as DF
use Rattle.text_checking.specs.declared.Counted as DC
use Rattle.text_checking.specs.declared.Function as DU
use Rattle.text_checking.specs.declared.Sized as DZ
use Rattle.text_checking.specs.declared.Sizes as DM
use Rattle.text_checking.specs.declared.Head as DH
use Rattle.text_checking.specs.declared.Body as DB

-- this is found from a place on; where it does not decide, so many words are read
pub record Checked (s : List ℕ) (found : Found) (width at : ℕ) (r : DS.Step) : Type 0 where
  pub finding : r.finding ≡ found
  pub within : r.next ≤ length s
  pub words : rank r.finding < 2 → words_at s r.next ≡ drop width (words_at s at)

-- words are skipped
pub record WordsSkipped (s : List ℕ) (at n r : ℕ) : Type 0 where
  pub within : r ≤ length s
  pub words : words_at s r ≡ drop n (words_at s at)

-- each number of a list, up to a place, has the property of its place
abbrev pub Holds : (ℕ → ℕ → Type 0) → ℕ → List ℕ → Type 0
Holds g n l = (k : ℕ) → k < n → k < length l → g k (get_or l k 0)

-- the variables of a scope are read, the first ones into a list
pub record ScopeSays (s : List ℕ) (at arity variables : ℕ) (scope : List ℕ) (r : DS.Step) : Type 0 where
  pub step : Checked s
      (found_of (runs arity (λ us. declared_finding variables (term_at 0 us)) 1 (words_at s at))) arity at r
  pub filled : rank r.finding < 2 → Holds (λ k v. v ≡ value_at k (words_at s at)) arity scope

-- ## a function

-- the default cost and the number of tuples
pub record CountsSays (s : List ℕ) (arity at : ℕ) (r : DC.Counted) : Type 0 where
  pub finding :
      let ws = words_at s at in
      r.finding ≡ found_of (and_then (cost_finding (term_at 0 ws)) (count_finding arity (term_at 1 ws)))
  pub within : r.next ≤ length s
  pub words : rank r.finding < 2 → words_at s r.next ≡ drop 2 (words_at s at)
  pub count : rank r.finding < 2 → r.count ≡ min (value_at 1 (words_at s at)) cap_end

-- tuples, and whether one is given twice, over these sizes
unfoldable pub tuples_finding : List ℕ → ℕ → ℕ → Words → Finding
tuples_finding es a k ws =
    and_then (runs k (tuple_finding es) (suc a) ws) (find_if (repeated_tuple (tuples_of k a ws)) dialect)

-- the bytes of a record over these sizes
abbrev pub record_bytes : List ℕ → ℕ
record_bytes es = 4 + (length es + 4 * product es)

-- nothing is found yet: at most three variables, each with an entry of a size, and without any no tuples
pub record Plain (s : List ℕ) (start : DC.Counted) (entries : List ℕ) (far : DF.Far) : Type 0 where
  pub short : length entries ≤ 3
  pub near : far.count ≡ 0
  pub sizes : All DomainSize (sizes_held s entries)
  pub constant : length entries ≡ 0 → start.count ≡ 0

pub record TableSays (s : List ℕ) (start : DC.Counted) (es : List ℕ) (r : DU.Function) : Type 0 where
  pub finding :
      r.finding
      ≡ both start.finding (found_of (tuples_finding es (length es) start.count (words_at s start.next)))
  pub within : r.next ≤ length s
  pub words : rank r.finding < 2 → words_at s r.next ≡ drop (start.count * suc (length es)) (words_at s start.next)
  pub bytes : r.finding ≡ Nothing → r.bytes ≡ record_bytes es
  pub small : r.bytes ≤ 2055

-- the variables of a scope behind the first ones
pub record FarSays (s : List ℕ) (at arity near : ℕ) (r : DF.Far) : Type 0 where
  pub count : r.count ≡ arity - near
  pub within : r.at ≤ length s
  pub values : values_in r.count (words_at s r.at) ≡ values_in (arity - near) (drop near (words_at s at))

-- a function behind its arity, up to the number of tuples
unfoldable pub front_finding : ℕ → ℕ → Words → Finding
front_finding n a us =
    and_then (runs a (λ ws. declared_finding n (term_at 0 ws)) 1 us) (
    and_then (find_if (repeated (values_in a us)) dialect)
    (and_then (cost_finding (term_at a us)) (count_finding a (term_at (1 + a) us))))

pub record FrontSays (s : List ℕ) (start : DS.Step) (arity n : ℕ) (scope : List ℕ) (r : DC.Counted) : Type 0 where
  pub finding : r.finding ≡ both start.finding (found_of (front_finding n arity (words_at s start.next)))
  pub within : r.next ≤ length s
  pub words : rank r.finding < 2 → words_at s r.next ≡ drop (2 + arity) (words_at s start.next)
  pub count : rank r.finding < 2 → r.count ≡ min (value_at (1 + arity) (words_at s start.next)) cap_end
  pub filled : rank r.finding < 2 → Holds (λ k v. v ≡ value_at k (words_at s start.next)) arity scope

-- a function behind its arity
unfoldable pub over_finding : List ℕ → ℕ → Words → Finding
over_finding ds a us =
    and_then (front_finding (length ds) a us)
    (tuples_finding (sizes_over ds (values_in a us)) a (value_at (1 + a) us) (drop (2 + a) us))

pub record OverSays (s : List ℕ) (start : DS.Step) (arity : ℕ) (d : DD.Declared) (r : DU.Function) : Type 0 where
  pub finding :
      r.finding ≡ both start.finding (found_of (over_finding (domains_at s d) arity (words_at s start.next)))
  pub within : r.next ≤ length s
  pub words :
      let us = words_at s start.next in
      rank r.finding < 2 → words_at s r.next ≡ drop (2 + arity + value_at (1 + arity) us * suc arity) us
  pub bytes :
      r.finding ≡ Nothing
      → r.bytes ≡ record_bytes (sizes_over (domains_at s d) (values_in arity (words_at s start.next)))
  pub small : r.bytes ≤ 2055

pub record FunctionSays (s : List ℕ) (found : Found) (at : ℕ) (d : DD.Declared) (r : DU.Function) : Type 0 where
  pub finding : r.finding ≡ both found (found_of (function_finding (domains_at s d) (words_at s at)))
  pub within : r.next ≤ length s
  pub words : rank r.finding < 2 → words_at s r.next ≡ drop (function_width (words_at s at)) (words_at s at)
  pub bytes : r.finding ≡ Nothing → r.bytes ≡ length (table_bytes (function_table (domains_at s d) (words_at s at)))
  pub small : r.bytes ≤ 2055

-- all functions, behind records of some bytes
pub record FunctionsSays (s : List ℕ) (start : DS.Step) (n front : ℕ) (d : DD.Declared) (r : DB.Body) : Type 0 where
  pub finding :
      r.finding ≡ both start.finding (found_of (functions_finding n (domains_at s d) (words_at s start.next)))
  pub bytes :
      r.finding ≡ Nothing
      → r.bytes ≡ front + length (tables_bytes (function_tables n (domains_at s d) (words_at s start.next)))

-- ## the domain sizes

-- one size, with the largest that is stated
pub record SizeSays (s : List ℕ) (at most : ℕ) (r : DZ.Sized) : Type 0 where
  pub step :
      Checked s (found_of (size_finding most (term_at 0 (words_at s at)))) 1 at
      (record { finding = r.finding; next = r.next })
  pub met : rank r.finding < 2 → r.met ≡ not (ltb (value_at 0 (words_at s at)) most)
  pub below : rank r.finding < 2 → value_at 0 (words_at s at) ≤ most
  pub entry : rank r.finding < 2 → size_held s r.entry ≡ value_at 0 (words_at s at)

pub record SizesSays (s : List ℕ) (at n most : ℕ) (index : List ℕ) (r : DM.Sizes) : Type 0 where
  pub step :
      Checked s (found_of (runs n (λ us. size_finding most (term_at 0 us)) 1 (words_at s at))) n at
      (record { finding = r.finding; next = r.next })
  pub met : rank r.finding < 2 → r.met ≡ eqb (largest_of (values_in n (words_at s at))) most
  pub held : rank r.finding < 2 → Holds (λ v e. size_held s e ≡ value_at v (words_at s at)) n index

-- ## the whole

-- behind the name: number of variables, largest domain size, number of functions, upper bound
unfoldable pub head_finding : Words → Finding
head_finding ws =
    and_then (and_then (variables_finding (term_at 0 ws)) (largest_finding (term_at 1 ws)))
    (and_then (functions_number (term_at 2 ws)) (bound_finding (term_at 3 ws)))

pub record HeadSays (s : List ℕ) (at : ℕ) (r : DH.Head) : Type 0 where
  pub finding : r.finding ≡ found_of (head_finding (words_at s at))
  pub within : r.next ≤ length s
  pub words : words_at s r.next ≡ drop 4 (words_at s at)
  pub variables : r.variables ≡ min (value_at 0 (words_at s at)) cap_end
  pub functions : r.functions ≡ min (value_at 2 (words_at s at)) cap_end
  pub digits : rank r.finding < 2 → DigitsAt s r.largest
  pub largest : rank r.finding < 2 → value_from 0 (numeral s r.largest) ≡ value_at 1 (words_at s at)

-- behind any name
pub record BodySays (s : List ℕ) (at : ℕ) (r : DB.Body) : Type 0 where
  pub finding : (name : List ℕ) → r.finding ≡ found_of (network_finding (name ∷ words_at s at))
  pub bytes : r.finding ≡ Nothing → (name : List ℕ) → r.bytes ≡ length (encode (network_problem (name ∷ words_at s at)))

pub record NetworkSays (s : List ℕ) (r : Result ℕ Reason) : Type 0 where
  pub number : number_in r ≡ number_of (network_finding (words_of s))
  pub bytes : IfOk r (λ n. n ≡ length (encode (network_problem (words_of s))))
