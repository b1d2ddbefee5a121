-- The WCSP text format: what is refused of a text, and the problem that it holds.
use Rattle.std.specs.Prelude.{Bool, false, not, ◌&&◌, ◌||◌, List, [], ◌∷◌, map, ℕ, zero, suc, ◌+◌, ◌-◌, ◌*◌, max, eqb}
use Rattle.std.specs.Prelude.{ltb, length, get_or, drop, set, replicate}
use Rattle.model.specs.Limits.{max_variables, max_tables, max_domain, max_arity, word_end}
use Rattle.model.specs.Problems.{Table, Problem, size_of, has_variable}
use Rattle.model.specs.Reading.{outside}
use Rattle.model.specs.Vectors.{same}
use Rattle.text_words.specs.Texts.{Term}
use Rattle.text_networks.specs.Findings.{Words, Finding, fine, dialect, stop, fault, and_then, find_if, field}
use Rattle.text_networks.specs.Findings.{term_at, value_at, values_in, runs}

-- something is given twice: a variable, a tuple of values
unfoldable pub repeated : List ℕ → Bool
repeated [] = false
repeated (v ∷ vs) = has_variable v vs || repeated vs

unfoldable pub is_given : List ℕ → List (List ℕ) → Bool
is_given t [] = false
is_given t (u ∷ us) = same t u || is_given t us

unfoldable pub repeated_tuple : List (List ℕ) → Bool
repeated_tuple [] = false
repeated_tuple (t ∷ ts) = is_given t ts || repeated_tuple ts

-- The fields. A negative number of variables or functions, and a negative variable, value or largest domain size, is
-- not the format.
abbrev pub variables_finding : Term → Finding
variables_finding t = field fault (λ n. find_if (outside max_variables n) dialect) t

abbrev pub largest_finding : Term → Finding
largest_finding t = field fault (λ d. fine) t

abbrev pub functions_number : Term → Finding
functions_number t = field fault (λ r. find_if (ltb max_tables r) dialect) t

-- a cost
abbrev pub cost_finding : Term → Finding
cost_finding t = field stop (λ c. find_if (not (ltb c word_end)) dialect) t

-- the upper bound: costs stay below it, and below 0 there are none
abbrev pub max_bound : ℕ
max_bound = 4294967295

abbrev pub bound_finding : Term → Finding
bound_finding t = field stop (λ c. find_if (outside max_bound c) dialect) t

-- a size is at most the largest one that is stated
abbrev pub size_finding : ℕ → Term → Finding
size_finding largest t =
    field stop (λ d. and_then (find_if (ltb largest d) fault) (find_if (outside max_domain d) dialect)) t

abbrev pub arity_finding : Term → Finding
arity_finding t = field stop (λ a. find_if (ltb max_arity a) dialect) t

-- a variable below the number of variables, a value below its variable's domain size
abbrev pub declared_finding : ℕ → Term → Finding
declared_finding n t = field fault (λ v. find_if (not (ltb v n)) fault) t

-- arity 0 has no tuples
abbrev pub count_finding : ℕ → Term → Finding
count_finding a t = field stop (λ k. find_if (eqb a 0 && ltb 0 k) fault) t

-- A cost function: arity, scope, default cost, number of tuples, the tuples.
abbrev pub arity_in : Words → ℕ
arity_in ws = value_at 0 ws

abbrev pub scope_in : Words → List ℕ
scope_in ws = values_in (arity_in ws) (drop 1 ws)

abbrev pub default_in : Words → ℕ
default_in ws = value_at (1 + arity_in ws) ws

abbrev pub count_in : Words → ℕ
count_in ws = value_at (2 + arity_in ws) ws

abbrev pub tuples_in : Words → Words
tuples_in ws = drop (3 + arity_in ws) ws

abbrev pub function_width : Words → ℕ
function_width ws = 3 + arity_in ws + count_in ws * suc (arity_in ws)

-- the domain sizes, or the values, of some variables
abbrev pub sizes_over : List ℕ → List ℕ → List ℕ
sizes_over ds vs = map (λ v. get_or ds v 0) vs

-- a tuple: a value for each variable of the scope, by the domain sizes ds, and a cost
unfoldable pub values_finding : List ℕ → Words → Finding
values_finding [] ws = fine
values_finding (d ∷ ds) ws = and_then (declared_finding d (term_at 0 ws)) (values_finding ds (drop 1 ws))

abbrev pub tuple_finding : List ℕ → Words → Finding
tuple_finding ds ws = and_then (values_finding ds ws) (cost_finding (term_at (length ds) ws))

-- the values of k tuples over a variables
unfoldable pub tuples_of : ℕ → ℕ → Words → List (List ℕ)
tuples_of zero a ws = []
tuples_of (suc k) a ws = values_in a ws ∷ tuples_of k a (drop (suc a) ws)

unfoldable pub function_finding : List ℕ → Words → Finding
function_finding ds ws =
    let a = arity_in ws in
    let vs = scope_in ws in
    and_then (arity_finding (term_at 0 ws)) (
    and_then (runs a (λ us. declared_finding (length ds) (term_at 0 us)) 1 (drop 1 ws)) (
    and_then (find_if (repeated vs) dialect) (
    and_then (cost_finding (term_at (1 + a) ws)) (
    and_then (count_finding a (term_at (2 + a) ws)) (
    and_then (runs (count_in ws) (tuple_finding (sizes_over ds vs)) (suc a) (tuples_in ws))
    (find_if (repeated_tuple (tuples_of (count_in ws) a (tuples_in ws))) dialect))))))

-- behind the last function nothing may follow
unfoldable pub functions_finding : ℕ → List ℕ → Words → Finding
functions_finding zero ds [] = fine
functions_finding zero ds (w ∷ ws) = fault
functions_finding (suc r) ds ws =
    and_then (function_finding ds ws) (functions_finding r ds (drop (function_width ws) ws))

-- The whole: name, number of variables, largest domain size, number of functions, upper bound; the domain sizes; the
-- functions.
unfoldable pub largest_of : List ℕ → ℕ
largest_of [] = 0
largest_of (d ∷ ds) = max d (largest_of ds)

abbrev pub domains_in : Words → List ℕ
domains_in ws = values_in (value_at 1 ws) (drop 5 ws)

abbrev pub functions_in : Words → Words
functions_in ws = drop (5 + value_at 1 ws) ws

unfoldable pub network_finding : Words → Finding
network_finding [] = fault
network_finding (name ∷ rest) =
    let ws = name ∷ rest in
    and_then (variables_finding (term_at 1 ws)) (
    and_then (largest_finding (term_at 2 ws)) (
    and_then (functions_number (term_at 3 ws)) (
    and_then (bound_finding (term_at 4 ws)) (
    and_then (runs (value_at 1 ws) (λ us. size_finding (value_at 2 ws) (term_at 0 us)) 1 (drop 5 ws)) (
    and_then (find_if (not (eqb (largest_of (domains_in ws)) (value_at 2 ws))) fault)
    (functions_finding (value_at 3 ws) (domains_in ws) (functions_in ws)))))))

-- The problem that a text holds: one objective, whose ceiling is the greatest cost below the upper bound; a table has
-- the default cost but where a tuple gives another. Where a table over domain sizes ds has the entry for values xs,
-- after the index i:
unfoldable pub index_from : ℕ → List ℕ → List ℕ → ℕ
index_from i [] xs = i
index_from i (d ∷ ds) [] = i
index_from i (d ∷ ds) (x ∷ xs) = index_from (i * d + x) ds xs

unfoldable pub with_tuples : ℕ → List ℕ → Words → List ℕ → List ℕ
with_tuples zero ds ws costs = costs
with_tuples (suc k) ds ws costs =
    let a = length ds in
    with_tuples k ds (drop (suc a) ws) (set costs (index_from 0 ds (values_in a ws)) (value_at a ws))

unfoldable pub function_table : List ℕ → Words → Table
function_table ds ws =
    let vs = scope_in ws in
    let defaults = replicate (size_of ds vs) (default_in ws) in
    record {
      objective = 0;
      scope = vs;
      costs = with_tuples (count_in ws) (sizes_over ds vs) (tuples_in ws) defaults;
    }

unfoldable pub function_tables : ℕ → List ℕ → Words → List Table
function_tables zero ds ws = []
function_tables (suc r) ds ws = function_table ds ws ∷ function_tables r ds (drop (function_width ws) ws)

-- the ceiling that an upper bound stands for
abbrev pub ceiling_for : ℕ → ℕ
ceiling_for bound = bound - 1

unfoldable pub network_problem : Words → Problem
network_problem ws =
    record {
      objectives = 1;
      ceilings = ceiling_for (value_at 4 ws) ∷ [];
      domains = domains_in ws;
      tables = function_tables (value_at 3 ws) (domains_in ws) (functions_in ws);
    }
