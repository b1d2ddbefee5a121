-- Behind the negative number at which reading stops nothing is read: more words change no part that is no fault.
use mathlib.Core.Path.{◌≡◌, refl, ap}
use mathlib.Core.List.{List, [], ◌∷◌, ◌++◌}
use Prim.Native.Nat.{ℕ, zero, suc, ◌+◌, ◌*◌, ◌≤◌, ◌<◌}
use native.Mathlib.Omega.{arith}
use lib.ListN.{length, drop, length-drop, get_or-append}
use lib.Seq.{drop-append-le}
use Rattle.text_words.specs.Texts.{term_of, value_of}
use Rattle.text_networks.specs.Findings.{Words, Finding, fine, dialect, stop, fault, and_then, field}
use Rattle.text_networks.specs.Findings.{term_at, value_at, values_in, runs}
use Rattle.text_networks.specs.Networks.{arity_in, scope_in, count_in, tuples_in, function_width}
use Rattle.text_networks.specs.Networks.{sizes_over, values_finding, tuple_finding, tuples_of, function_finding}
use Rattle.text_networks.specs.Networks.{functions_finding, network_finding}
use Rattle.text_networks.proofs.FineTables.{sizes_count}

-- ## findings

-- A part's finding, and its finding with more words behind: the same, but where it is a fault. Where reading goes on,
-- the part has room: its words are there.
data Kept (room : Type 0) : Finding → Finding → Type 0 where
  keeps_fine : room → Kept room fine fine
  keeps_dialect : room → Kept room dialect dialect
  stops : Kept room stop stop
  fails : {b : Finding} → Kept room fault b

kept_same : {R : Type 0} (a : Finding) → R → Kept R a a
kept_same fine r = keeps_fine r
kept_same dialect r = keeps_dialect r
kept_same stop r = stops
kept_same fault r = fails

kept_room : {R S : Type 0} {a b : Finding} → (R → S) → Kept R a b → Kept S a b
kept_room f (keeps_fine r) = keeps_fine (f r)
kept_room f (keeps_dialect r) = keeps_dialect (f r)
kept_room f stops = stops
kept_room f fails = fails

-- one part, and then another that may count on the first one's room
dialect_then : {S : Type 0} {c d : Finding} → Kept S c d → Kept S (and_then dialect c) (and_then dialect d)
unfolding and_then
dialect_then (keeps_fine s) = keeps_dialect s
dialect_then (keeps_dialect s) = keeps_dialect s
dialect_then stops = stops
dialect_then fails = fails

kept_then : {R S : Type 0} {a b c d : Finding} → Kept R a b → (R → Kept S c d) → Kept S (and_then a c) (and_then b d)
unfolding and_then
kept_then (keeps_fine r) k = k r
kept_then (keeps_dialect r) k = dialect_then (k r)
kept_then stops k = stops
kept_then fails k = fails

-- before a part of which only stopping is kept
then_stops : {R : Type 0} {a b c d : Finding} → Kept R a b → (R → c ≡ stop → d ≡ stop) → and_then a c ≡ stop
    → and_then b d ≡ stop
unfolding and_then
then_stops (keeps_fine r) k h = k r h
then_stops {c} {d} (keeps_dialect r) k h = ap (and_then dialect) (k r (only c h))
  where
    only : (c : Finding) → and_then dialect c ≡ stop → c ≡ stop
    only fine h = cc
    only dialect h = cc
    only stop h = refl
    only fault h = cc
then_stops stops k h = refl
then_stops fails k h = cc

-- ## words

module _ (more : Words) where
  term_kept : (i : ℕ) (ws : Words) → i < length ws → term_at i (ws ++ more) ≡ term_at i ws
  term_kept i ws h = ap term_of (get_or-append ws more [] i h)

  values_kept : (n : ℕ) (ws : Words) → n ≤ length ws → values_in n (ws ++ more) ≡ values_in n ws
  unfolding values_in
  values_kept zero ws h = refl
  values_kept (suc n) [] h = absurd (omega arith)
  values_kept (suc n) (w ∷ ws) h = ap (λ (xs : List ℕ). value_of (term_of w) ∷ xs) (values_kept n ws (omega arith))

  tuples_kept : (k a : ℕ) (ws : Words) → k * suc a ≤ length ws → tuples_of k a (ws ++ more) ≡ tuples_of k a ws
  unfolding tuples_of
  tuples_kept zero a ws h = refl
  tuples_kept (suc k) a ws h =
      let one : suc a ≤ length ws = omega arith in
      let others : k * suc a ≤ length (drop (suc a) ws) = rw length-drop (omega arith) in
      rw (values_kept a ws (omega arith), drop-append-le (suc a) ws more one, tuples_kept k a (drop (suc a) ws) others)

  -- a word that is missing is a fault of its field
  field_kept : (below : Finding) (f : ℕ → Finding) (i : ℕ) (ws : Words)
      → Kept (i < length ws) (field below f (term_at i ws)) (field below f (term_at i (ws ++ more)))
  unfolding field term_of
  field_kept below f i [] = fails
  field_kept below f zero (w ∷ ws) = kept_same _ (omega arith)
  field_kept below f (suc i) (w ∷ ws) = kept_room (λ r. omega arith) (field_kept below f i ws)

  -- items one after another
  runs_kept : (n : ℕ) (f : Words → Finding) (width : ℕ) (ws : Words)
      → ((us : Words) → Kept (width ≤ length us) (f us) (f (us ++ more)))
      → Kept (n * width ≤ length ws) (runs n f width ws) (runs n f width (ws ++ more))
  unfolding runs
  runs_kept zero f width ws each = keeps_fine (omega arith)
  runs_kept (suc n) f width ws each =
      kept_then (each ws) (λ r. rw drop-append-le
      (kept_room (λ s. omega (arith, length-drop width ws)) (runs_kept n f width (drop width ws) each)))

  -- ## a cost function

  values_found : (ds : List ℕ) (ws : Words)
      → Kept (length ds ≤ length ws) (values_finding ds ws) (values_finding ds (ws ++ more))
  unfolding values_finding
  values_found [] ws = keeps_fine (omega arith)
  values_found (d ∷ ds) ws =
      kept_then (field_kept fault _ 0 ws) (λ r. rw drop-append-le
      (kept_room (λ s. omega (arith, length-drop 1 ws)) (values_found ds (drop 1 ws))))

  tuple_kept : (ds : List ℕ) (ws : Words)
      → Kept (suc (length ds) ≤ length ws) (tuple_finding ds ws) (tuple_finding ds (ws ++ more))
  tuple_kept ds ws = kept_then (values_found ds ws) (λ r. field_kept stop _ (length ds) ws)

  tuples_found : (ds : List ℕ) (ws : Words) →
      let es = sizes_over ds (scope_in ws) in
      (us : Words) → Kept (suc (arity_in ws) ≤ length us) (tuple_finding es us) (tuple_finding es (us ++ more))
  tuples_found ds ws us =
      kept_room (λ r. omega (arith, sizes_count ds ws)) (tuple_kept (sizes_over ds (scope_in ws)) us)

  function_kept : (ds : List ℕ) (ws : Words)
      → Kept (function_width ws ≤ length ws) (function_finding ds ws) (function_finding ds (ws ++ more))
  unfolding function_finding
  function_kept ds ws =
      let a = arity_in ws in
      kept_then (field_kept stop _ 0 ws) (λ first.
      rw (term_kept 0 ws first, drop-append-le 1 ws more first) (
      kept_then (runs_kept a _ 1 (drop 1 ws) (λ us. field_kept fault _ 0 us)) (λ scope.
      rw (values_kept a (drop 1 ws) (omega arith)) (
      kept_then (kept_same _ scope) (λ once.
      kept_then (field_kept stop _ (1 + a) ws) (λ default.
      kept_then (field_kept stop _ (2 + a) ws) (λ count.
      rw (term_kept (2 + a) ws count, drop-append-le (3 + a) ws more (omega arith)) (
      kept_then (runs_kept (count_in ws) _ (suc a) (tuples_in ws) (tuples_found ds ws)) (λ tuples.
      rw (tuples_kept (count_in ws) a (tuples_in ws) tuples)
      (kept_same _ (omega (arith, length-drop (3 + a) ws))))))))))))

  -- ## all functions; the whole

  width_kept : (ws : Words) → function_width ws ≤ length ws → function_width (ws ++ more) ≡ function_width ws
  width_kept ws h =
      let first : 0 < length ws = omega arith in
      let count : 2 + arity_in ws < length ws = omega arith in
      rw (term_kept 0 ws first, term_kept (2 + arity_in ws) ws count)

  -- with more words the end of the functions is no end any more; reading does not stop there
  functions_stop : (r : ℕ) (ds : List ℕ) (ws : Words) → functions_finding r ds ws ≡ stop
      → functions_finding r ds (ws ++ more) ≡ stop
  unfolding functions_finding
  functions_stop zero ds [] h = cc
  functions_stop zero ds (w ∷ ws) h = cc
  functions_stop (suc r) ds ws h =
      then_stops (function_kept ds ws) (λ room.
      rw (width_kept ws room, drop-append-le (function_width ws) ws more room)
      (functions_stop r ds (drop (function_width ws) ws))) h

  network_stop : (ws : Words) → network_finding ws ≡ stop → network_finding (ws ++ more) ≡ stop
  unfolding network_finding
  network_stop [] h = cc
  network_stop (name ∷ rest) h =
      let ws = name ∷ rest in
      let n = value_at 1 ws in
      then_stops (field_kept fault _ 1 ws) (λ variables.
      then_stops (field_kept fault _ 2 ws) (λ largest.
      then_stops (field_kept fault _ 3 ws) (λ functions.
      then_stops (field_kept stop _ 4 ws) (λ bound.
      rw (term_kept 1 ws variables, term_kept 2 ws largest, term_kept 3 ws functions, drop-append-le 5 ws more bound) (
      then_stops (runs_kept n _ 1 (drop 5 ws) (λ us. field_kept stop _ 0 us)) (λ sizes.
      rw (values_kept n (drop 5 ws) (omega arith), drop-append-le (5 + n) ws more (omega (arith, length-drop 5 ws))) (
      then_stops (kept_same _ sizes) (λ same. functions_stop (value_at 3 ws) _ _)))))))) h

-- a text at whose words reading stops is refused the same with any words behind
pub unread : (ws more : Words) → network_finding ws ≡ stop → network_finding (ws ++ more) ≡ stop
unread ws more h = network_stop more ws h
