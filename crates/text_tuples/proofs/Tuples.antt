-- Tuples that are met one after another, by the indexes of their entries.
use mathlib.Core.Path.{◌≡◌, refl, ap, sym, subst, ◌∙◌}
use mathlib.Core.Logic.{⊎_elim}
use mathlib.Core.Bool.{Bool, true, false}
use mathlib.Core.List.{List, [], ◌∷◌}
use Prim.Native.Nat.{ℕ, zero, suc, ◌+◌, ◌-◌, ◌≤◌, ◌<◌}
use native.Mathlib.Numerals.{add-one}
use native.Mathlib.Omega.{arith}
use lib.Dec.{eqb}
use lib.ListN.{length, get_or, drop, set, replicate, length-set}
use lib.Seq.{drop-drop}
use borrow.Author.Tests.{eq-eqb, ne_eqb}
use Rattle.model.specs.Basics.{All}
use Rattle.model.specs.Problems.{DomainSize, has_variable}
use Rattle.model.specs.Vectors.{same}
use Rattle.model.proofs.Bits.{test, true_false}
use Rattle.model.proofs.Vectors.{same_true, same_eq}
use Rattle.text_words.specs.Reads.{words_at, NumberSays}
use Rattle.text_words.specs.declared.Number as DN
use Rattle.text_networks.specs.Findings.{Words, fine, values_in, runs}
use Rattle.text_networks.specs.Networks.{repeated, is_given, repeated_tuple, tuples_of, tuple_finding, index_from}
use Rattle.text_networks.proofs.Entries.{Values, index_below, index_unique}
use Rattle.text_networks.proofs.FineWords.{both_fine, tuple_fine}
use Rattle.text_tuples.proofs.Reading.{product_few}
use Rattle.text_tuples.proofs.Marks.{meets, meets_none}

-- the entries of k tuples over a variables with the sizes ds
unfoldable pub indexes_of : ℕ → ℕ → List ℕ → Words → List ℕ
indexes_of zero a ds ws = []
indexes_of (suc k) a ds ws = index_from 0 ds (values_in a ws) ∷ indexes_of k a ds (drop (suc a) ws)

-- ## other values have another entry

module _ (ds : List ℕ) where
  same_entry : (xs ys : List ℕ) → Values ds xs → Values ds ys
      → eqb (index_from 0 ds ys) (index_from 0 ds xs) ≡ same xs ys
  same_entry xs ys h k =
      ⊎_elim
      (λ (t : same xs ys ≡ true). eq-eqb _ _ (ap (index_from 0 ds) (sym (same_true xs ys t))) ∙ sym t)
      (λ (f : same xs ys ≡ false).
      ne_eqb _ _ (λ e. true_false (same_eq (index_unique ds xs ys h k (sym e))) f) ∙ sym f) (test (same xs ys))

  abbrev Fine : ℕ → Words → Type 0
  Fine k ws = runs k (tuple_finding ds) (suc (length ds)) ws ≡ fine

  given_entry : (xs : List ℕ) (k : ℕ) (ws : Words) → Values ds xs → Fine k ws
      → has_variable (index_from 0 ds xs) (indexes_of k (length ds) ds ws) ≡ is_given xs (tuples_of k (length ds) ws)
  unfolding runs indexes_of has_variable is_given tuples_of
  given_entry xs zero ws v h = refl
  given_entry xs (suc k) ws v h =
      let (first, more) = both_fine _ _ h in
      let zs = values_in (length ds) ws in
      rw (same_entry xs zs v (tuple_fine ds ws first).0, given_entry xs k (drop (suc (length ds)) ws) v more)

  repeated_entry : (k : ℕ) (ws : Words) → Fine k ws
      → repeated (indexes_of k (length ds) ds ws) ≡ repeated_tuple (tuples_of k (length ds) ws)
  unfolding runs indexes_of repeated repeated_tuple tuples_of
  repeated_entry zero ws h = refl
  repeated_entry (suc k) ws h =
      let (first, more) = both_fine _ _ h in
      let us = drop (suc (length ds)) ws in
      rw (given_entry (values_in (length ds) ws) k us (tuple_fine ds ws first).0 more, repeated_entry k us more)

  entries_below : (k : ℕ) (ws : Words) → All DomainSize ds → length ds ≤ 3 → Fine k ws
      → All (λ i. i < 512) (indexes_of k (length ds) ds ws)
  unfolding runs indexes_of
  entries_below zero ws small few h = tt
  entries_below (suc k) ws small few h =
      let (first, more) = both_fine _ _ h in
      let xs = values_in (length ds) ws in (
        omega (arith, index_below ds xs (tuple_fine ds ws first).0, product_few ds small few),
        entries_below k (drop (suc (length ds)) ws) small few more,
      )

-- ## tuples that are left

-- no tuple was met twice so far; what is left gives the answer
pub record Unmet (s : List ℕ) (a : ℕ) (ds : List ℕ) (met : List Bool) (left next : ℕ) (answer : Bool) : Type 0 where
  pub within : next ≤ length s
  pub size : length met ≡ 512
  pub right : runs left (tuple_finding ds) (suc a) (words_at s next) ≡ fine
  pub told : meets met (indexes_of left a ds (words_at s next)) ≡ answer

pub unmet_all : (s : List ℕ) (at count a : ℕ) (ds : List ℕ) → length ds ≡ a → a ≤ 3 → All DomainSize ds → at ≤ length s
    → runs count (tuple_finding ds) (suc a) (words_at s at) ≡ fine
    → Unmet s a ds (replicate 512 false) (count - 0) at (repeated_tuple (tuples_of count a (words_at s at)))
unmet_all s at count a ds e few small h right =
    let ws = words_at s at in
    let fine-ds : Fine ds count ws = rw e right in
    let answer = repeated_tuple (tuples_of count a ws) in
    let whole : count ≡ count - 0 = omega arith in
    subst (λ (n : ℕ). Unmet s a ds (replicate 512 false) n at answer) whole
    (record {
      within = h;
      size = refl;
      right = right;
      told = subst
          (λ (n : ℕ). meets (replicate 512 false) (indexes_of count n ds ws) ≡ repeated_tuple (tuples_of count n ws)) e
          (meets_none 512 (indexes_of count (length ds) ds ws)
          (entries_below ds count ws small (omega arith) fine-ds)
          ∙ repeated_entry ds count ws fine-ds);
    })

module _ {s : List ℕ} {a : ℕ} {ds : List ℕ} {met : List Bool} {next : ℕ} {answer : Bool} where
  -- one is due
  pub unmet_due : (count k : ℕ) → k < count → Unmet s a ds met (count - k) next answer
      → Unmet s a ds met (suc (count - (k + 1))) next answer
  unmet_due count k h u =
      let e : count - k ≡ suc (count - (k + 1)) = omega arith in
      subst (λ (n : ℕ). Unmet s a ds met n next answer) e u

  pub unmet_none : (count k : ℕ) → count ≤ k → Unmet s a ds met (count - k) next answer → false ≡ answer
  unfolding meets indexes_of
  unmet_none count k h u =
      let e : count - k ≡ 0 = omega arith in
      (subst (λ (n : ℕ). Unmet s a ds met n next answer) e u).told

  module _ {left : ℕ} (u : Unmet s a ds met (suc left) next answer) where
    pub tuple_right : tuple_finding ds (words_at s next) ≡ fine
    unfolding runs
    tuple_right = (both_fine _ _ u.right).0

    module _ (i end : ℕ) (index : i ≡ index_from 0 ds (values_in a (words_at s next))) where
      pub met_twice : get_or met i false ≡ true → true ≡ answer
      unfolding meets indexes_of
      met_twice h = rw (sym index, h) at u.told

      pub unmet_less : get_or met i false ≡ false → words_at s end ≡ drop a (words_at s next) → (r : DN.Number)
          → NumberSays s end r → Unmet s a ds (set met i true) left r.end answer
      unfolding meets indexes_of runs
      unmet_less h rest r says =
          let ws = words_at s next in
          let words : words_at s r.end ≡ drop (suc a) ws =
          says.rest ∙ ap (drop 1) rest ∙ drop-drop 1 a ws ∙ ap (λ (n : ℕ). drop n ws) (add-one a) in
          record {
            within = says.within;
            size = length-set met i true ∙ u.size;
            right = rw words (both_fine _ _ u.right).1;
            told = rw words (rw (sym index, h) at u.told);
          }
