-- One name that opens every definition, for what is proved by computation: write `unfolding computing`.
use Rattle.model.specs.Basics.{first_of}
use Rattle.model.specs.Problems.{size_of, has_variable, scope_rule}
use Rattle.model.specs.Encoding.{two_bytes, four_bytes, word_bytes, head_bytes, domain_bytes, table_bytes, tables_bytes}
use Rattle.model.specs.Encoding.{encode}
use Rattle.model.specs.Reading.{word2, word4, words_in, start_number, head_number, domain_number, table_scope}
use Rattle.model.specs.Reading.{table_length, table_number, table_of, domains_verdict, domains_at, tables_verdict}
use Rattle.model.specs.Reading.{tables_at, places_at, body_verdict, verdict_of, problem_of, places_of}
use Rattle.model.specs.Vectors.{at_most, same, earlier, added}
use Rattle.model.specs.Costs.{is_choice, entry_from, cost_of, total, totals_from, totals, meets_forbidden, costs_of}
use Rattle.model.specs.Frontiers.{consistent, some_beats, unbeaten, put, sorted, best, with_first, firsts_from}
use Rattle.model.specs.Frontiers.{choices, points_by, frontier_by, rising}
use Rattle.model.specs.Bounds.{prefix_ok, agrees, least_to, least_from, least_of, bound_of}
use Rattle.model.specs.Cuts.{all_sides, sides_ok, has_side, crosses, linked_verdict, uncrossed, on_side, new_number}
use Rattle.model.specs.Cuts.{renumbered, in_half, half_tables, half, merged, pairs_with, all_pairs, cut_list}
use Rattle.model.specs.Cuts.{other_side, exchanged}
use Rattle.model.specs.Calls.{over, padded, divided, room_of, flat_costs, flat_choices, point_records, work_after}
use Rattle.model.specs.Calls.{work_verdict, room_verdict, solve_verdict, solve_outcome, list_outcome, sides_verdict}
use Rattle.model.specs.Calls.{cut_room_verdict, cut_verdict, cut_outcome, bound_verdict, bound_outcome}

unfoldable pub computing : Unit {0}
unfolding first_of size_of has_variable scope_rule two_bytes four_bytes word_bytes head_bytes domain_bytes table_bytes
    tables_bytes encode word2 word4 words_in start_number head_number domain_number table_scope table_length
    table_number
    table_of domains_verdict domains_at tables_verdict tables_at places_at body_verdict verdict_of problem_of places_of
    at_most
    same earlier added is_choice entry_from cost_of total totals_from totals meets_forbidden costs_of consistent
    some_beats
    unbeaten put sorted best with_first firsts_from choices points_by frontier_by rising prefix_ok agrees least_to
    least_from least_of bound_of all_sides sides_ok has_side crosses linked_verdict uncrossed on_side new_number
    renumbered
    in_half half_tables half merged pairs_with all_pairs cut_list other_side exchanged over padded divided room_of
    flat_costs flat_choices point_records work_after work_verdict room_verdict solve_verdict solve_outcome list_outcome
    sides_verdict cut_room_verdict cut_verdict cut_outcome bound_verdict bound_outcome
computing = tt
