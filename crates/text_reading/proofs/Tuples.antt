-- Tuples whose costs take the places of their entries, one after another.
use mathlib.Core.Path.{◌≡◌, refl, ap, sym, subst, ◌∙◌}
use mathlib.Core.List.{List}
use Prim.Native.Nat.{ℕ, zero, suc, ◌+◌, ◌*◌, ◌≤◌, ◌<◌}
use native.Mathlib.Numerals.{add-one}
use native.Mathlib.Omega.{arith}
use native.Mathlib.Nat.{suc-mul, zero-mul, add-mul}
use lib.ListN.{length, drop, set}
use lib.Seq.{drop-drop, length-take-le}
use Rattle.model.specs.Limits.{word_end}
use Rattle.model.specs.Problems.{Word}
use Rattle.model.specs.Encoding.{two_bytes, four_bytes, word_bytes}
use Rattle.text_words.specs.Reads.{words_at, NumberSays}
use Rattle.text_words.specs.declared.Number as DN
use Rattle.text_lines.specs.Written.{Written}
use Rattle.text_networks.specs.Findings.{Words, Finding, fine, value_at, values_in, runs}
use Rattle.text_networks.specs.Networks.{tuple_finding, index_from, with_tuples}
use Rattle.text_networks.proofs.FineWords.{both_fine, tuple_fine}
use Rattle.text_networks.proofs.FineTables.{costs_count}
use Rattle.text_tuples.specs.Entries.{EntrySays}
use Rattle.text_tuples.specs.declared.Entry as DE
use Rattle.text_reading.specs.Functions.{scope_sizes, entry_of, TablePlace, TuplePlace, TuplePut}
use Rattle.text_reading.specs.declared.Scope as DS
use Rattle.text_reading.proofs.Numbers.{Passed, one_passed, passed_value}
use Rattle.text_reading.proofs.Overwriting.{entry_over}

-- ## items of the same width

-- the words behind one more
one_behind : (k w : ℕ) (ws : Words) → drop (k * w) (drop w ws) ≡ drop (suc k * w) ws
one_behind k w ws =
    let e : w + k * w ≡ suc k * w = omega (arith, suc-mul k w) in
    drop-drop (k * w) w ws ∙ ap (λ (n : ℕ). drop n ws) e

none_behind : (w : ℕ) (ws : Words) → ws ≡ drop (0 * w) ws
none_behind w ws = ap (λ (n : ℕ). drop n ws) (sym (zero-mul w))

item_fine : (n k : ℕ) (f : Words → Finding) (w : ℕ) (ws : Words) → runs n f w ws ≡ fine → k < n
    → f (drop (k * w) ws) ≡ fine
unfolding runs
item_fine zero k f w ws h l = absurd (omega arith)
item_fine (suc n) zero f w ws h l =
    subst (λ (us : Words). f us ≡ fine) (none_behind w ws) (both_fine _ _ h).0
item_fine (suc n) (suc k) f w ws h l =
    subst (λ (us : Words). f us ≡ fine) (one_behind k w ws)
    (item_fine n k f w (drop w ws) (both_fine _ _ h).1 (omega arith))

-- ## one tuple more

tuple_more : (k : ℕ) (ds : List ℕ) (ws : Words) (costs : List ℕ)
    → let us = drop (k * suc (length ds)) ws in
    with_tuples (suc k) ds ws costs
    ≡ set (with_tuples k ds ws costs) (index_from 0 ds (values_in (length ds) us)) (value_at (length ds) us)
unfolding with_tuples
tuple_more zero ds ws costs =
    let a = length ds in
    ap (λ (us : Words). set costs (index_from 0 ds (values_in a us)) (value_at a us)) (none_behind (suc a) ws)
tuple_more (suc k) ds ws costs =
    let a = length ds in
    let us = drop (suc a) ws in
    let first = set costs (index_from 0 ds (values_in a ws)) (value_at a ws) in
    tuple_more k ds us first
    ∙ ap
    (λ (vs : Words). set (with_tuples k ds us first) (index_from 0 ds (values_in a vs)) (value_at a vs))
    (one_behind k (suc a) ws)

-- ## k tuples are put

pub record Putting (s : List ℕ) (p : DS.Scope) (from to k : ℕ) (out₀ out : List ℕ) (next : ℕ) : Type 0 where
  pub within : next ≤ length s
  pub words : words_at s next ≡ drop (k * suc p.arity) (words_at s from)
  pub kept : length out ≡ length out₀
  pub put : (costs old : List ℕ) (behind : ℕ) → length costs ≡ p.size → Written to (word_bytes costs) old out₀ behind
      → Written to (word_bytes (with_tuples k (scope_sizes p) (words_at s from) costs)) old out behind

pub putting_start : (s : List ℕ) (p : DS.Scope) (from to : ℕ) (out : List ℕ) → from ≤ length s
    → Putting s p from to 0 out out from
unfolding with_tuples
putting_start s p from to out h =
    record {
      within = h;
      words = none_behind (suc p.arity) (words_at s from);
      kept = refl;
      put = λ costs old behind e w. w;
    }

module _ {s : List ℕ} {p : DS.Scope} {from to k : ℕ} {out₀ out : List ℕ} {next : ℕ}
    (three : length p.sizes ≡ 3) (table : TablePlace p to) (count : ℕ)
    (right : runs count (tuple_finding (scope_sizes p)) (suc p.arity) (words_at s from) ≡ fine)
    (h : k < count) (w : Putting s p from to k out₀ out next) where
  pub tuple_due : tuple_finding (scope_sizes p) (words_at s next) ≡ fine
  tuple_due =
      subst (λ (us : Words). tuple_finding (scope_sizes p) us ≡ fine) (sym w.words)
      (item_fine count k (tuple_finding (scope_sizes p)) (suc p.arity) (words_at s from) right h)

  pub putting_more : (out' : List ℕ) (next' : ℕ) → TuplePut s next p to out out' next'
      → Putting s p from to (k + 1) out₀ out' next'
  putting_more out' next' t =
      let ds = scope_sizes p in
      let a = p.arity in
      let ws = words_at s from in
      let wide : length ds ≡ a = length-take-le a p.sizes (omega (arith, table.few)) in
      let place : k * suc a + suc a ≡ (k + 1) * suc a = omega (arith, add-mul k 1 (suc a)) in
      record {
        within = t.within;
        words =
            t.rest
            ∙ ap (drop (suc a)) w.words
            ∙ drop-drop (suc a) (k * suc a) ws
            ∙ ap (λ (n : ℕ). drop n ws) place;
        kept = t.put.kept ∙ w.kept;
        put = λ costs old behind e v.
            let us = words_at s next in
            let before = with_tuples k ds ws costs in
            let more : with_tuples (k + 1) ds ws costs ≡ set before (entry_of p us) (value_at a us) =
            ap (λ (n : ℕ). with_tuples n ds ws costs) (add-one k)
            ∙ tuple_more k ds ws costs
            ∙ ap
            (λ (n : ℕ).
            let vs = drop (k * suc n) ws in
            set before (index_from 0 ds (values_in n vs)) (value_at n vs)) wide
            ∙ ap (λ (vs : Words). set before (index_from 0 ds (values_in a vs)) (value_at a vs)) (sym w.words) in
            let inside : entry_of p us < length before =
            omega (arith, table.inside us tuple_due, costs_count k ds ws costs) in
            rw more
            (entry_over to behind (entry_of p us) (value_at a us) _ before old out out' inside
            (w.put costs old behind e v) t.put);
      }

-- ## one tuple is put

module _ {s : List ℕ} {at : ℕ} {p : DS.Scope} {to : ℕ} (three : length p.sizes ≡ 3) (h : TuplePlace s at p to)
    (entry : DE.Entry) (e-says : EntrySays s at p.arity p.sizes entry) where
  module _ (r : DN.Number) (says : NumberSays s entry.end r) where
    values_passed : Passed s at p.arity entry.end
    values_passed = record { within = e-says.within; words = e-says.rest }

    cost_word : Word (value_at p.arity (words_at s at))
    cost_word =
        let wide : length (scope_sizes p) ≡ p.arity =
        length-take-le p.arity p.sizes (omega (arith, h.table.few)) in
        subst (λ (n : ℕ). Word (value_at n (words_at s at))) wide (tuple_fine (scope_sizes p) (words_at s at) h.right).1

    cost_exact : r.value ≡ value_at p.arity (words_at s at)
    cost_exact = passed_value values_passed r says (omega (arith, cost_word))

    pub cost_fits : r.value < word_end
    cost_fits = rw cost_exact cost_word

    pub tuple_put : {out out' : List ℕ} {m : ℕ}
        → Written (to + 4 * entry.index) (four_bytes r.value) out out' m → TuplePut s at p to out out' r.end
    unfolding two_bytes four_bytes
    tuple_put {out} {out'} {m} w =
        record {
          within = says.within;
          rest =
              (one_passed values_passed r says).words ∙ ap (λ (n : ℕ). drop n (words_at s at)) (add-one p.arity);
          put = rw (← e-says.index, ← cost_exact, ← w.next) w;
        }
