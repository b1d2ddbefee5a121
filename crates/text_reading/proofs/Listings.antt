-- Tables of cost functions, written one after another.
use mathlib.Core.Path.{◌≡◌, subst}
use mathlib.Core.List.{List}
use Prim.Native.Nat.{ℕ, suc, ◌+◌, ◌-◌, ◌≤◌, ◌<◌}
use native.Mathlib.Omega.{arith}
use lib.ListN.{length, drop}
use Rattle.model.specs.Limits.{word_end}
use Rattle.model.specs.Encoding.{table_bytes, tables_bytes}
use Rattle.text_words.specs.Reads.{words_at}
use Rattle.text_lines.specs.Written.{Written}
use Rattle.text_lines.proofs.Writing.{Underway, Split, split_in, begin, due, go_on, done}
use Rattle.text_networks.specs.Findings.{fine}
use Rattle.text_networks.specs.Networks.{function_width, function_finding, functions_finding, function_table}
use Rattle.text_networks.specs.Networks.{function_tables}
use Rattle.text_networks.proofs.FineWords.{both_fine}
use Rattle.text_reading.specs.Functions.{FunctionPut}
use Rattle.text_reading.specs.declared.Next as DN

-- reading is at a function, `left` are left, and their tables will complete the form
pub record Listing (s ds : List ℕ) (from : ℕ) (form old : List ℕ) (left at to : ℕ) (now : List ℕ) : Type 0 where
  pub within : at ≤ length s
  pub right : functions_finding left ds (words_at s at) ≡ fine
  pub under : Underway from form old (tables_bytes (function_tables left ds (words_at s at))) now to

pub listing_start : (s ds : List ℕ) (count at to : ℕ) (out : List ℕ) → at ≤ length s
    → functions_finding count ds (words_at s at) ≡ fine
    → to + length (tables_bytes (function_tables count ds (words_at s at))) ≤ word_end
    → Listing s ds to (tables_bytes (function_tables count ds (words_at s at))) out (count - 0) at to out
listing_start s ds count at to out h right room =
    let form = tables_bytes (function_tables count ds (words_at s at)) in
    let all : count ≡ count - 0 = omega arith in
    subst (λ (n : ℕ). Listing s ds to form out n at to out) all
    (record { within = h; right = right; under = begin out room })

module _ {s ds : List ℕ} {from : ℕ} {form old : List ℕ} {at to : ℕ} {now : List ℕ} where
  -- one is due; none is left
  pub listing_due : (count k : ℕ) → k < count → Listing s ds from form old (count - k) at to now
      → Listing s ds from form old (suc (count - (k + 1))) at to now
  listing_due count k h w =
      let e : count - k ≡ suc (count - (k + 1)) = omega arith in
      subst (λ (n : ℕ). Listing s ds from form old n at to now) e w

  pub listing_end : (count k : ℕ) → count ≤ k → Listing s ds from form old (count - k) at to now
      → Written from form old now to
  unfolding tables_bytes function_tables
  listing_end count k h w =
      let e : count - k ≡ 0 = omega arith in
      done (subst (λ (n : ℕ). Listing s ds from form old n at to now) e w).under

  module _ {left : ℕ} (w : Listing s ds from form old (suc left) at to now) where
    pub function_right : function_finding ds (words_at s at) ≡ fine
    unfolding functions_finding
    function_right = (both_fine _ _ w.right).0

    abbrev table : List ℕ
    table = table_bytes (function_table ds (words_at s at))

    abbrev others : List ℕ
    others = tables_bytes (function_tables left ds (drop (function_width (words_at s at)) (words_at s at)))

    split : Split (tables_bytes (function_tables (suc left) ds (words_at s at))) table others
    unfolding tables_bytes function_tables
    split = split_in table others

    pub function_room : to + length table ≤ word_end
    function_room = due split w.under

    pub listing_more : (next : DN.Next) (now' : List ℕ) → FunctionPut s at ds to now now' next
        → Listing s ds from form old left next.at next.to now'
    unfolding functions_finding
    listing_more next now' put =
        record {
          within = put.within;
          right = rw put.rest (both_fine _ _ w.right).1;
          under = rw put.rest (go_on split w.under put.put);
        }
