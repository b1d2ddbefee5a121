-- How many tuples a text has room for: their number is read exactly.
use mathlib.Core.Path.{◌≡◌, refl, ap, ◌∙◌}
use mathlib.Core.Logic.{⊎_elim}
use mathlib.Core.Bool.{true, false, ◌&&◌}
use mathlib.Core.List.{List, [], ◌∷◌}
use Prim.Native.Nat.{ℕ, zero, suc, ◌+◌, ◌*◌, ◌≤◌, ◌<◌}
use native.Mathlib.Omega.{arith}
use native.Mathlib.Nat.{suc-mul, mul-le-mul_left}
use lib.Dec.{eqb, ltb}
use lib.ListN.{length, drop, length-drop, get_or-eq_default}
use borrow.Author.Tests.{ltb-true, ltb-false, eq-eqb}
use Rattle.model.proofs.Bits.{test, pick_both}
use Rattle.text_words.specs.Texts.{is_space, joined, words_of, term_of}
use Rattle.text_words.specs.Reads.{cap_end}
use Rattle.text_networks.specs.Findings.{Words, fine, stop, fault, field, term_at, runs}
use Rattle.text_networks.specs.Networks.{cost_finding, tuple_finding, arity_in, scope_in, count_in, tuples_in}
use Rattle.text_networks.specs.Networks.{sizes_over}
use Rattle.text_networks.specs.Networks.{function_finding}
use Rattle.text_networks.proofs.FineWords.{found_fine, both_fine, test_fine, field_fine, function_fine}
use Rattle.text_networks.proofs.FineTables.{sizes_count, tuples_fine}

-- what every length stays below
abbrev pub length_end : ℕ
length_end = 18446744073709551616

-- ## words of a text

joined_few : (b : ℕ) (s : List ℕ) (ws : Words) → length (joined b s ws) ≤ suc (length ws)
unfolding joined
joined_few b [] ws = omega arith
joined_few b (c ∷ s) [] = omega arith
joined_few b (c ∷ s) (w ∷ ws) =
    pick_both (λ (us : Words). length us ≤ suc (suc (length ws))) (is_space c) (omega arith) (omega arith)

pub words_few : (s : List ℕ) → length (words_of s) ≤ length s
unfolding words_of
words_few [] = omega arith
words_few (b ∷ s) =
    pick_both (λ (us : Words). length us ≤ suc (length s)) (is_space b) (omega (arith, words_few s))
    (omega (arith, words_few s, joined_few b s (words_of s)))

-- ## tuples of words

cost_there : (i : ℕ) (ws : Words) → cost_finding (term_at i ws) ≡ fine → i < length ws
unfolding field term_of
cost_there i ws h =
    ⊎_elim (λ (t : ltb i (length ws) ≡ true). ltb-true i (length ws) t)
    (λ (f : ltb i (length ws) ≡ false).
    let none = get_or-eq_default ws [] {n = i} (ltb-false i (length ws) f) in
    absurd (found_fine fault tt (rw none at h))) (test (ltb i (length ws)))

tuples_few : (k : ℕ) (ds : List ℕ) (ws : Words) → runs k (tuple_finding ds) (suc (length ds)) ws ≡ fine
    → k * suc (length ds) ≤ length ws
unfolding runs
tuples_few zero ds ws h = omega arith
tuples_few (suc k) ds ws h =
    let a = length ds in
    let (first, more) = both_fine _ _ h in
    let rest = tuples_few k ds (drop (suc a) ws) more in
    let there = cost_there a ws (both_fine _ _ first).1 in
    omega (arith, rest, there, length-drop (suc a) ws, suc-mul k (suc a))

-- ## of a function

no_tuples : (ds : List ℕ) (ws : Words) → function_finding ds ws ≡ fine → arity_in ws ≡ 0 → count_in ws ≤ 0
unfolding function_finding
no_tuples ds ws h e =
    let a = arity_in ws in
    let k = count_in ws in
    let h₁ = (both_fine _ _ h).1 in
    let h₂ = (both_fine _ _ h₁).1 in
    let h₃ = (both_fine _ _ h₂).1 in
    let h₄ = (both_fine _ _ h₃).1 in
    let count = (both_fine _ _ h₄).0 in
    let test : (eqb a 0 && ltb 0 k) ≡ false = test_fine _ fault tt (field_fine stop _ (term_at (2 + a) ws) tt count) in
    ltb-false 0 k (rw (eq-eqb a 0 e) at test)

pub count_small : (ds : List ℕ) (ws : Words) → function_finding ds ws ≡ fine → length ws < length_end
    → count_in ws < cap_end
count_small ds ws h short = go (arity_in ws) refl
  where
    go : (a : ℕ) → arity_in ws ≡ a → count_in ws < cap_end
    go zero e = omega (arith, no_tuples ds ws h e)
    go (suc a) e =
        let f = function_fine ds ws h in
        let k = count_in ws in
        let es = sizes_over ds (scope_in ws) in
        let few = tuples_few k es (tuples_in ws) (tuples_fine ds ws f) in
        let wide : suc (length es) ≡ suc (suc a) = ap suc (sizes_count ds ws ∙ e) in
        let all : k * suc (suc a) ≤ length (tuples_in ws) = rw wide at few in
        omega (arith, all, length-drop (3 + arity_in ws) ws, mul-le-mul_left {m = 2} {n = suc (suc a)} k (omega arith))
