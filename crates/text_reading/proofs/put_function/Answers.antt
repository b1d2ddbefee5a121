-- What `put_function` leaves to show: the head, the default everywhere, then the tuples.
use Rattle.std.proofs.Common.{◌≡◌, ◌+◌, ◌≤◌, ℕ, List, length}
use Rattle.std.proofs.Common.{rules}
use Rattle.model.specs.Limits.{word_end}
use Rattle.model.specs.Encoding.{table_bytes}
use Rattle.text_words.specs.Reads.{words_at}
use Rattle.text_networks.specs.Networks.{function_table}
use Rattle.text_reading.specs.Heads.{domain_list}
use Rattle.text_reading.specs.Functions.{FunctionAt, FunctionSays}
use Rattle.text_reading.specs.declared.Domains as DD
use Rattle.text_reading.specs.declared.Function as DF
use Rattle.text_reading.proofs.Tables.{Begun, arity_few, head_room, fill_room, tuples_place, function_put}
use Rattle.text_reading.proofs.put_function.Goals as goal

begun : (s : List ℕ) (at : ℕ) (d : DD.Domains) (f : DF.Function) (to : ℕ) → FunctionAt s at d
    → to + length (table_bytes (function_table (domain_list d) (words_at s at))) ≤ word_end
    → FunctionSays s at (domain_list d) f → length f.scope.variables ≡ 3 → Begun s at (domain_list d) f to
begun s at d f to h room says three =
    record { small = h.domains.small; right = h.right; says = says; three = three; room = room }

pub put_table_head-costs-requires : goal.put_table_head-costs-requires
put_table_head-costs-requires c =
    let three : length c.read_function-f.result.scope.variables ≡ 3 = search rules in
    let b = begun _ _ c.args.d _ _ c.requires.0 c.requires.1 c.read_function-f.ensures three in
    (arity_few b, head_room b)

pub fill_costs-behind-requires : goal.fill_costs-behind-requires
fill_costs-behind-requires c =
    let three : length c.read_function-f.result.scope.variables ≡ 3 = search rules in
    let b = begun _ _ c.args.d _ _ c.requires.0 c.requires.1 c.read_function-f.ensures three in
    fill_room b _ c.put_table_head-costs.ensures.next

pub put_tuples-end-requires : goal.put_tuples-end-requires
put_tuples-end-requires c =
    let three : length c.read_function-f.result.scope.variables ≡ 3 = search rules in
    let b = begun _ _ c.args.d _ _ c.requires.0 c.requires.1 c.read_function-f.ensures three in
    tuples_place b _ c.put_table_head-costs.ensures.next

pub returns : goal.returns
returns c =
    let three : length c.read_function-f.result.scope.variables ≡ 3 = search rules in
    let b = begun _ _ c.args.d _ _ c.requires.0 c.requires.1 c.read_function-f.ensures three in
    let wrote = c.put_table_head-costs.ensures in
    function_put b _ wrote.next _ wrote c.fill_costs-behind.ensures c.put_tuples-end.ensures
