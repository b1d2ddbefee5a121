-- A problem with one objective as WCSP text: the name is `P`, the default is 0, and entries that are not 0 follow in
-- table order; a table without variables has its entry as default. A forbidden entry is written as the upper bound.
-- Functions and scopes keep their order.
use Rattle.std.specs.Prelude.{List, [], ◌∷◌, ◌++◌, map, ℕ, suc, ◌+◌, ◌/◌, ◌%◌, eqb, length, get_or}
use Rattle.model.specs.Basics.{pick}
use Rattle.model.specs.Problems.{Table, Problem}
use Rattle.model.specs.Costs.{forbidden}
use Rattle.text_words.specs.Texts.{space, line}
use Rattle.text_networks.specs.Networks.{sizes_over, largest_of}

-- the upper bound that a ceiling stands for: the least cost above it
abbrev pub upper_bound_for : ℕ → ℕ
upper_bound_for ceiling = suc ceiling

abbrev pub upper_bound_of : Problem → ℕ
upper_bound_of q = upper_bound_for (get_or q.ceilings 0 0)

-- The problem that is written: a forbidden entry is the upper bound, which a text allows no choice to reach.
abbrev pub written_cost : ℕ → ℕ → ℕ
written_cost bound c = pick (eqb c forbidden) bound c

abbrev pub written_table : ℕ → Table → Table
written_table bound t =
    record { objective = t.objective; scope = t.scope; costs = map (written_cost bound) t.costs }

unfoldable pub written : Problem → Problem
written q =
    record {
      objectives = q.objectives;
      ceilings = q.ceilings;
      domains = q.domains;
      tables = map (written_table (upper_bound_of q)) q.tables;
    }

-- how many entries are not 0
abbrev pub is_nonzero : ℕ → ℕ
is_nonzero c = pick (eqb c 0) 0 1

unfoldable pub nonzero : List ℕ → ℕ
nonzero [] = 0
nonzero (c ∷ cs) = is_nonzero c + nonzero cs

-- The values at entry i of a table over domain sizes: the last variable runs fastest. With the last size first, before
-- the values behind:
unfoldable pub values_from : List ℕ → ℕ → List ℕ → List ℕ
values_from [] i behind = behind
values_from (d ∷ ds) i behind = values_from ds (i / d) ((i % d) ∷ behind)

unfoldable pub reversed : List ℕ → List ℕ → List ℕ
reversed [] ys = ys
reversed (x ∷ xs) ys = reversed xs (x ∷ ys)

abbrev pub entry_values : List ℕ → ℕ → List ℕ
entry_values ds i = values_from (reversed ds []) i []

-- a line for the entry i that is not 0; for each such entry from number i on
abbrev pub tuple_line : List ℕ → ℕ → ℕ → List ℕ
tuple_line ds i c = pick (eqb c 0) [] (line (entry_values ds i ++ (c ∷ [])))

unfoldable pub tuple_lines : List ℕ → ℕ → List ℕ → List ℕ
tuple_lines ds i [] = []
tuple_lines ds i (c ∷ cs) = tuple_line ds i c ++ tuple_lines ds (suc i) cs

-- a cost function: arity, scope, default, number of tuples; the tuples
unfoldable pub function_text : List ℕ → Table → List ℕ
function_text ds t =
    pick (eqb (length t.scope) 0)
    (line (0 ∷ get_or t.costs 0 0 ∷ 0 ∷ []))
    (line (length t.scope ∷ t.scope ++ (0 ∷ nonzero t.costs ∷ []))
    ++ tuple_lines (sizes_over ds t.scope) 0 t.costs)

unfoldable pub functions_text : List ℕ → List Table → List ℕ
functions_text ds [] = []
functions_text ds (t ∷ ts) = function_text ds t ++ functions_text ds ts

abbrev pub letter_p : ℕ
letter_p = 80

-- the name, how many variables, the largest domain size, how many functions, the upper bound
unfoldable pub head_text : Problem → List ℕ
head_text q =
    letter_p ∷ space ∷ line (length q.domains ∷ largest_of q.domains ∷ length q.tables ∷ upper_bound_of q ∷ [])

-- a problem's text as it stands, and with its forbidden entries as the upper bound
unfoldable pub text_of : Problem → List ℕ
text_of q = head_text q ++ (line q.domains ++ functions_text q.domains q.tables)

abbrev pub network_text : Problem → List ℕ
network_text q = text_of (written q)
