-- Words that hold the entries of a table that are not 0: nothing in them is refused, and they give the table's costs.
use mathlib.Core.Path.{◌≡◌, refl, ap, sym, ◌∙◌}
use mathlib.Core.Bool.{Bool, true, false}
use mathlib.Core.List.{List, [], ◌∷◌, ◌++◌}
use Prim.Native.Nat.{ℕ, suc, ◌+◌, ◌≤◌, ◌<◌}
use native.Mathlib.Omega.{arith}
use native.Mathlib.Nat.{zero-add}
use native.Mathlib.Numerals.{one-add}
use lib.Dec.{eqb}
use lib.ListN.{length, drop, replicate, length-append}
use lib.Seq.{append_snoc, set_at}
use borrow.Author.Tests.{eqb-true, lt-ltb}
use Rattle.model.specs.Basics.{pick, All}
use Rattle.model.specs.Limits.{word_end}
use Rattle.model.specs.Problems.{Word}
use Rattle.model.specs.Vectors.{same}
use Rattle.model.proofs.Bits.{not_true_false}
use Rattle.model.proofs.Vectors.{same_true}
use Rattle.text_words.specs.Texts.{number, value_of}
use Rattle.text_networks.specs.Findings.{Words, fine, and_then, field, term_at, values_in, runs}
use Rattle.text_networks.specs.Networks.{is_given, repeated_tuple, values_finding, tuple_finding, tuples_of, index_from}
use Rattle.text_networks.specs.Networks.{with_tuples}
use Rattle.text_networks.specs.NetworkTexts.{nonzero, entry_values}
use Rattle.text_networks.proofs.TextNumbers.{tuple_numbers}
use Rattle.text_networks.proofs.NumberWords.{Reads, reads_left, reads_right, reads_next, reads_values}
use Rattle.text_networks.proofs.Entries.{product, Positive, Values, entry_index, entry_values_lem, entry_length}

-- the words start with a tuple for each of the costs that is not 0, from entry i on; there are k
pub data Tuples (ds : List ℕ) : ℕ → List ℕ → ℕ → Words → Type 0 where
  none : {i : ℕ} {ws : Words} → Tuples ds i [] 0 ws
  skipped : {i k : ℕ} {cs : List ℕ} {ws : Words} → Tuples ds (suc i) cs k ws → Tuples ds i (0 ∷ cs) k ws
  given : {i k c : ℕ} {cs : List ℕ} {ws : Words} → Reads (entry_values ds i ++ (c ∷ [])) ws → Word c
      → Tuples ds (suc i) cs k (drop (suc (length ds)) ws) → Tuples ds i (c ∷ cs) (suc k) ws

entry_read : (ds : List ℕ) (i c : ℕ) (rest : List ℕ) (ws : Words) → Reads ((entry_values ds i ++ (c ∷ [])) ++ rest) ws
    → Reads rest (drop (suc (length ds)) ws)
entry_read ds i c rest ws h =
    let long : length (entry_values ds i ++ (c ∷ [])) ≡ suc (length ds) =
    omega (arith, length-append (entry_values ds i) (c ∷ []), entry_length ds i) in
    rw long at (reads_right (entry_values ds i ++ (c ∷ [])) rest ws h)

next_entry : (ds : List ℕ) (i c : ℕ) (cs rest : List ℕ) (ws : Words) (k : ℕ) (t : Bool) → eqb c 0 ≡ t → Word c
    → ((us : Words) → Reads rest us → Tuples ds (suc i) cs k us)
    → Reads (pick t [] (entry_values ds i ++ (c ∷ [])) ++ rest) ws → Tuples ds i (c ∷ cs) (pick t 0 1 + k) ws
next_entry ds i c cs rest ws k true e w f h = rw (eqb-true c 0 e, zero-add) (skipped (f ws h))
next_entry ds i c cs rest ws k false e w f h =
    rw one-add
    (given (reads_left (entry_values ds i ++ (c ∷ [])) rest ws h) w
    (f (drop (suc (length ds)) ws) (entry_read ds i c rest ws h)))

pub tuples_read : (ds : List ℕ) (i : ℕ) (cs : List ℕ) (ws : Words) → All Word cs → Reads (tuple_numbers ds i cs) ws
    → Tuples ds i cs (nonzero cs) ws
unfolding tuple_numbers nonzero
tuples_read ds i [] ws w h = none
tuples_read ds i (c ∷ cs) ws w h =
    next_entry ds i c cs (tuple_numbers ds (suc i) cs) ws (nonzero cs) (eqb c 0) refl w.0
    (λ us. tuples_read ds (suc i) cs us w.1) h

-- ## nothing in a tuple is refused

values_found : (ds xs : List ℕ) (ws : Words) → Values ds xs → Reads xs ws → values_finding ds ws ≡ fine
unfolding values_finding field and_then
values_found [] xs ws v h = refl
values_found (d ∷ ds) [] ws v h = absurd v
values_found (d ∷ ds) (x ∷ xs) ws v h =
    rw (h.0, lt-ltb x d v.0, values_found ds xs (drop 1 ws) v.1 h.1)

module _ (ds : List ℕ) (positive : Positive ds) where
  module _ (i c : ℕ) (ws : Words) (h : Reads (entry_values ds i ++ (c ∷ [])) ws) where
    cost_term : term_at (length ds) ws ≡ number c
    cost_term = rw entry_length at (reads_next (entry_values ds i) c [] ws h)

    tuple_values : values_in (length ds) ws ≡ entry_values ds i
    tuple_values =
        rw entry_length at (reads_values (entry_values ds i) ws (reads_left (entry_values ds i) (c ∷ []) ws h))

    tuple_found : Word c → tuple_finding ds ws ≡ fine
    unfolding field and_then
    tuple_found w =
        rw (
          values_found ds (entry_values ds i) ws (entry_values_lem ds i positive)
              (reads_left (entry_values ds i) (c ∷ []) ws h),
          cost_term,
          lt-ltb c word_end w,
        )

  pub tuples_found : {i k : ℕ} {cs : List ℕ} {ws : Words} → Tuples ds i cs k ws
      → runs k (tuple_finding ds) (suc (length ds)) ws ≡ fine
  unfolding runs and_then
  tuples_found none = refl
  tuples_found (skipped more) = tuples_found more
  tuples_found (given {i = i} {c = c} {ws = ws} h w more) = rw (tuple_found i c ws h w) (tuples_found more)

  -- no tuple is given twice
  tuple_fresh : {i k : ℕ} {cs : List ℕ} {ws : Words} (j : ℕ) → j < i → i + length cs ≤ product ds → Tuples ds i cs k ws
      → is_given (entry_values ds j) (tuples_of k (length ds) ws) ≡ false
  unfolding is_given tuples_of
  tuple_fresh j l room none = refl
  tuple_fresh j l room (skipped more) = tuple_fresh j (omega arith) (omega arith) more
  tuple_fresh j l room (given {i = i} {c = c} {ws = ws} h w more) =
      let index : index_from 0 ds (entry_values ds i) ≡ i = entry_index ds i positive (omega arith) in
      let index' : index_from 0 ds (entry_values ds j) ≡ j = entry_index ds j positive (omega arith) in
      let other : same (entry_values ds j) (entry_values ds i) ≡ false =
      not_true_false (same (entry_values ds j) (entry_values ds i))
      (λ t. let e : j ≡ i = sym index' ∙ ap (index_from 0 ds) (same_true _ _ t) ∙ index in omega arith) in
      rw (tuple_values i c ws h, other) (tuple_fresh j (omega arith) (omega arith) more)

  pub tuples_once : {i k : ℕ} {cs : List ℕ} {ws : Words} → i + length cs ≤ product ds → Tuples ds i cs k ws
      → repeated_tuple (tuples_of k (length ds) ws) ≡ false
  unfolding repeated_tuple tuples_of
  tuples_once room none = refl
  tuples_once room (skipped more) = tuples_once (omega arith) more
  tuples_once room (given {i = i} {c = c} {ws = ws} h w more) =
      rw (tuple_values i c ws h, tuple_fresh i (omega arith) (omega arith) more) (tuples_once (omega arith) more)

  -- ## the tuples give the costs

  pub tuples_costs : {i k : ℕ} {cs : List ℕ} {ws : Words} (front : List ℕ) → length front ≡ i
      → i + length cs ≤ product ds → Tuples ds i cs k ws
      → with_tuples k ds ws (front ++ replicate (length cs) 0) ≡ front ++ cs
  unfolding with_tuples value_of
  tuples_costs front e room none = refl
  tuples_costs front e room (skipped {k = k} {cs = cs} {ws = ws} more) =
      let long : length (front ++ (0 ∷ [])) ≡ suc (length front) = omega (arith, length-append front (0 ∷ [])) in
      rw (← append_snoc front 0 (replicate (length cs) 0), ← append_snoc front 0 cs)
      (tuples_costs (front ++ (0 ∷ [])) (omega arith) (omega arith) more)
  tuples_costs front e room (given {i = i} {k = k} {c = c} {cs = cs} {ws = ws} h w more) =
      let long : length (front ++ (c ∷ [])) ≡ suc (length front) = omega (arith, length-append front (c ∷ [])) in
      let rest : List ℕ = replicate (length cs) 0 in
      rw (
        tuple_values i c ws h,
        entry_index ds i positive (omega arith),
        cost_term i c ws h,
        set_at front 0 rest c i e,
        ← append_snoc front c rest,
        ← append_snoc front c cs,
      )
      (tuples_costs (front ++ (c ∷ [])) (omega arith) (omega arith) more)
