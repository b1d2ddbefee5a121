-- What a choice costs by a WCSP text: for each function the cost of the tuple that it has, or else the default; and
-- whether the text allows it.
use Rattle.std.specs.Prelude.{Bool, List, ℕ, zero, suc, ◌+◌, ltb, length, drop}
use Rattle.model.specs.Basics.{pick}
use Rattle.model.specs.Vectors.{same}
use Rattle.text_networks.specs.Findings.{Words, value_at, values_in}
use Rattle.text_networks.specs.Networks.{scope_in, default_in, count_in, tuples_in, function_width, functions_in}
use Rattle.text_networks.specs.Networks.{sizes_over}

-- among k tuples, with the default c
unfoldable pub tuple_cost : ℕ → List ℕ → Words → ℕ → ℕ
tuple_cost zero xs ws c = c
tuple_cost (suc k) xs ws c =
    let a = length xs in
    pick (same (values_in a ws) xs) (value_at a ws) (tuple_cost k xs (drop (suc a) ws) c)

unfoldable pub function_cost : List ℕ → Words → ℕ
function_cost xs ws = tuple_cost (count_in ws) (sizes_over xs (scope_in ws)) (tuples_in ws) (default_in ws)

unfoldable pub functions_cost : ℕ → List ℕ → Words → ℕ
functions_cost zero xs ws = 0
functions_cost (suc r) xs ws = function_cost xs ws + functions_cost r xs (drop (function_width ws) ws)

abbrev pub network_cost : Words → List ℕ → ℕ
network_cost ws xs = functions_cost (value_at 3 ws) xs (functions_in ws)

-- a choice is allowed where it costs less than the upper bound
abbrev pub network_allows : Words → List ℕ → Bool
network_allows ws xs = ltb (network_cost ws xs) (value_at 4 ws)
