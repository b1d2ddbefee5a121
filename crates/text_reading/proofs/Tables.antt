-- The table of a cost function: its head, the default costs, the tuples.
use mathlib.Core.Path.{◌≡◌, ap, sym, subst, ◌∙◌}
use mathlib.Core.List.{List, ◌++◌}
use Prim.Native.Nat.{ℕ, suc, ◌+◌, ◌*◌, ◌≤◌, ◌<◌}
use native.Mathlib.Omega.{arith}
use lib.ListN.{length, take, drop, replicate, length-append, length-replicate}
use lib.Seq.{length-take-le, drop-drop}
use Rattle.model.specs.Basics.{All}
use Rattle.model.specs.Limits.{max_arity, word_end}
use Rattle.model.specs.Problems.{DomainSize}
use Rattle.model.specs.Encoding.{word_bytes, table_bytes}
use Rattle.model.proofs.Words.{length_word_bytes}
use Rattle.text_words.specs.Reads.{words_at}
use Rattle.text_lines.specs.Written.{Written}
use Rattle.text_lines.proofs.Writing.{written_then}
use Rattle.text_networks.specs.Findings.{Words, fine, values_in}
use Rattle.text_networks.specs.Networks.{arity_in, scope_in, count_in, sizes_over, function_finding, index_from}
use Rattle.text_networks.specs.Networks.{with_tuples}
use Rattle.text_networks.specs.Networks.{function_table}
use Rattle.text_networks.proofs.Entries.{product, index_below, sizes_over_lem, size_product}
use Rattle.text_networks.proofs.FineWords.{tuple_fine, function_fine}
use Rattle.text_networks.proofs.FineTables.{values_count, sizes_count, costs_count}
use Rattle.text_reading.specs.Functions.{FunctionSays, table_head, scope_sizes, TuplesPlace, TuplesPut, FunctionPut}
use Rattle.text_reading.specs.declared.Function as DF

-- a function whose head is read, and room for its table
pub record Begun (s : List ℕ) (at : ℕ) (ds : List ℕ) (f : DF.Function) (to : ℕ) : Type 0 where
  pub small : All DomainSize ds
  pub right : function_finding ds (words_at s at) ≡ fine
  pub says : FunctionSays s at ds f
  pub three : length f.scope.variables ≡ 3
  pub room : to + length (table_bytes (function_table ds (words_at s at))) ≤ word_end

module _ {s : List ℕ} {at : ℕ} {ds : List ℕ} {f : DF.Function} {to : ℕ} (b : Begun s at ds f to) where
  says : FunctionSays s at ds f
  says = b.says

  abbrev ws : Words
  ws = words_at s at

  abbrev es : List ℕ
  es = scope_sizes f.scope

  abbrev defaults : List ℕ
  defaults = replicate f.scope.size f.default

  pub arity_few : f.scope.arity ≤ max_arity
  arity_few = rw says.arity (function_fine ds ws b.right).arity

  -- ## its bytes

  costs_same : (function_table ds ws).costs ≡ with_tuples f.count es (words_at s f.end) defaults
  unfolding function_table
  costs_same = rw (says.count, says.sizes, says.rest, says.size, says.default)

  table_bytes_lem : table_bytes (function_table ds ws)
      ≡ table_head f.scope ++ word_bytes (with_tuples f.count es (words_at s f.end) defaults)
  unfolding table_bytes function_table
  table_bytes_lem =
      let scope : take f.scope.arity f.scope.variables ≡ scope_in ws = says.variables in
      let width : length (scope_in ws) ≡ f.scope.arity = values_count (arity_in ws) (drop 1 ws) ∙ sym says.arity in
      rw (scope, width, ← costs_same)

  head_length_lem : length (table_head f.scope) ≡ 4 + f.scope.arity
  head_length_lem =
      omega (arith, length-take-le f.scope.arity f.scope.variables (omega (arith, arity_few, b.three)))

  all_room : to + (4 + f.scope.arity + 4 * f.scope.size) ≤ word_end
  all_room =
      let costs = with_tuples f.count es (words_at s f.end) defaults in
      omega (
        arith,
        b.room,
        ap length table_bytes_lem,
        length-append (table_head f.scope) (word_bytes costs),
        head_length_lem,
        length_word_bytes costs,
        costs_count f.count es (words_at s f.end) defaults,
        length-replicate f.scope.size f.default,
      )

  pub head_room : to + 4 + f.scope.arity ≤ word_end
  head_room = omega (arith, all_room)

  module _ (costs : ℕ) (behind_head : costs ≡ to + length (table_head f.scope)) where
    pub fill_room : costs + length (word_bytes defaults) ≤ word_end
    fill_room =
        omega (
          arith,
          all_room,
          head_length_lem,
          length_word_bytes defaults,
          length-replicate f.scope.size f.default,
        )

    pub tuples_place : TuplesPlace s f costs
    tuples_place =
        let ff = function_fine ds ws b.right in
        let over : es ≡ sizes_over ds (scope_in ws) = says.sizes in
        let entries : f.scope.size ≡ product es =
        says.size ∙ size_product ds (scope_in ws) ∙ ap product (sym over) in
        let wide : length es ≡ f.scope.arity = ap length over ∙ sizes_count ds ws ∙ sym says.arity in
        record {
          table = record {
            few = arity_few;
            small = rw over (sizes_over_lem ds (scope_in ws) b.small ff.scope);
            inside = λ us h.
                let below = index_below es (values_in (length es) us) (tuple_fine es us h).0 in
                rw entries (subst (λ (n : ℕ). index_from 0 es (values_in n us) < product es) wide below);
            room = omega (arith, all_room, head_length_lem);
          };
          within = says.within;
          right = rw (says.count, says.sizes, says.arity, says.rest) ff.tuples;
        }

    pub function_put : {o u v w : List ℕ} {behind : ℕ} (r : ℕ) → Written to (table_head f.scope) o u costs
        → Written costs (word_bytes defaults) u v behind → TuplesPut s f costs v w r
        → FunctionPut s at ds to o w (record { at = r; to = behind })
    function_put r head fill tuples =
        record {
          within = tuples.within;
          rest =
              tuples.rest
              ∙ rw (says.count, says.arity, says.rest)
              (drop-drop (count_in ws * suc (arity_in ws)) (3 + arity_in ws) ws);
          put = rw table_bytes_lem
              (written_then head (tuples.put defaults _ _ (length-replicate f.scope.size f.default) fill));
        }
