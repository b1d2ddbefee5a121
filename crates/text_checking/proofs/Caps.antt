-- Counts above the number of words: a run of so many items ends where the words end.
use mathlib.Core.Path.{◌≡◌, sym, ap, ◌∙◌}
use mathlib.Core.Logic.{⊎_elim}
use mathlib.Core.List.{List, [], ◌∷◌}
use Prim.Native.Nat.{ℕ, zero, suc, ◌≤◌, ◌<◌, min}
use native.Mathlib.Omega.{arith}
use lib.ListN.{length, drop, length-drop}
use Rattle.text_words.specs.Texts.{term_of}
use Rattle.text_words.specs.Reads.{words_at, cap_end}
use Rattle.text_words.proofs.Words.{words_few}
use Rattle.text_networks.specs.Findings.{Words, Finding, field, and_then, runs, term_at}
use Rattle.text_networks.specs.Networks.{declared_finding, size_finding, values_finding, tuple_finding}
use Rattle.text_checking.specs.declared.Found.{Found}
use Rattle.text_checking.specs.Codes.{rank, found_of, both}
use Rattle.text_checking.specs.Steps.{tuples_finding}
use Rattle.text_checking.proofs.Codes.{lt_or_ge, both_heavy, both_later, found_both}

-- there are fewer words than the cap
pub words_short : (s : List ℕ) (at : ℕ) → length s < 18446744073709551616 → length (words_at s at) < cap_end
words_short s at h = omega (arith, words_few (drop at s), length-drop at s)

-- ## runs

module _ (f : Words → Finding) (w : ℕ) (end : 2 ≤ rank (found_of (f []))) where
  pub runs_heavy : (n : ℕ) (ws : Words) → length ws < n → 2 ≤ rank (found_of (runs n f (suc w) ws))
  unfolding runs
  runs_heavy zero ws h = absurd (omega arith)
  runs_heavy (suc n) [] h =
      rw (found_both (f []) (runs n f (suc w) []), both_heavy (found_of (f [])) (found_of (runs n f (suc w) [])) end)
      end
  runs_heavy (suc n) (x ∷ ws) h =
      rw (found_both (f (x ∷ ws)) (runs n f (suc w) (drop w ws)))
      (both_later _ _ (runs_heavy n (drop w ws) (omega (arith, length-drop w ws))))

  runs_long : (n m : ℕ) (ws : Words) → length ws < n → length ws < m
      → found_of (runs n f (suc w) ws) ≡ found_of (runs m f (suc w) ws)
  unfolding runs
  runs_long zero m ws h k = absurd (omega arith)
  runs_long (suc n) zero ws h k = absurd (omega arith)
  runs_long (suc n) (suc m) [] h k =
      found_both (f []) (runs n f (suc w) [])
      ∙ both_heavy (found_of (f [])) _ end
      ∙ sym (found_both (f []) (runs m f (suc w) []) ∙ both_heavy (found_of (f [])) _ end)
  runs_long (suc n) (suc m) (x ∷ ws) h k =
      let rest = drop w ws in
      let few = length-drop w ws in
      found_both (f (x ∷ ws)) (runs n f (suc w) rest)
      ∙ ap (both (found_of (f (x ∷ ws)))) (runs_long n m rest (omega arith) (omega arith))
      ∙ sym (found_both (f (x ∷ ws)) (runs m f (suc w) rest))

  pub runs_capped : (n : ℕ) (ws : Words) → length ws < cap_end
      → found_of (runs (min n cap_end) f (suc w) ws) ≡ found_of (runs n f (suc w) ws)
  runs_capped n ws h =
      ⊎_elim (λ (k : n < cap_end). let e : min n cap_end ≡ n = omega arith in rw e)
      (λ (k : cap_end ≤ n). runs_long (min n cap_end) n ws (omega arith) (omega arith)) (lt_or_ge n cap_end)

  -- a run that does not decide has as many items as its count, which is below the cap
  pub runs_exact : (n : ℕ) (ws : Words) → length ws < cap_end → rank (found_of (runs (min n cap_end) f (suc w) ws)) < 2
      → min n cap_end ≡ n
  runs_exact n ws h l =
      ⊎_elim (λ (k : n < cap_end). omega arith)
      (λ (k : cap_end ≤ n). absurd (omega (arith, runs_heavy (min n cap_end) ws (omega arith)))) (lt_or_ge n cap_end)

-- ## what is found where the words end

pub declared_end : (n : ℕ) → 2 ≤ rank (found_of (declared_finding n (term_at 0 [])))
unfolding term_of field found_of
declared_end n = omega arith

pub size_end : (n : ℕ) → 2 ≤ rank (found_of (size_finding n (term_at 0 [])))
unfolding term_of field found_of
size_end n = omega arith

tuple_end : (es : List ℕ) → 2 ≤ rank (found_of (tuple_finding es []))
unfolding term_of field found_of values_finding and_then
tuple_end [] = omega arith
tuple_end (e ∷ es) = omega arith

-- ## tuples and scopes by their counts

tuples_parts : (es : List ℕ) (a k : ℕ) (ws : Words) → (n : Found) × (found_of (tuples_finding es a k ws)
    ≡ both (found_of (runs k (tuple_finding es) (suc a) ws)) n)
unfolding tuples_finding
tuples_parts es a k ws = (_, found_both _ _)

pub tuples_capped : (es : List ℕ) (a k : ℕ) (ws : Words) → length ws < cap_end
    → found_of (tuples_finding es a (min k cap_end) ws) ≡ found_of (tuples_finding es a k ws)
tuples_capped es a k ws h =
    ⊎_elim (λ (l : k < cap_end). let e : min k cap_end ≡ k = omega arith in rw e)
    (λ (l : cap_end ≤ k).
    let f = tuple_finding es in
    let (n, p) = tuples_parts es a (min k cap_end) ws in
    let (m, q) = tuples_parts es a k ws in
    p
    ∙ both_heavy _ n (runs_heavy f a (tuple_end es) (min k cap_end) ws (omega arith))
    ∙ runs_capped f a (tuple_end es) k ws h
    ∙ sym (q ∙ both_heavy _ m (runs_heavy f a (tuple_end es) k ws (omega arith)))) (lt_or_ge k cap_end)

pub tuples_exact : (es : List ℕ) (a k : ℕ) (ws : Words) → length ws < cap_end
    → rank (found_of (tuples_finding es a (min k cap_end) ws)) < 2 → min k cap_end ≡ k
tuples_exact es a k ws h light =
    ⊎_elim (λ (l : k < cap_end). omega arith)
    (λ (l : cap_end ≤ k).
    let f = tuple_finding es in
    let (n, p) = tuples_parts es a (min k cap_end) ws in
    let heavy = runs_heavy f a (tuple_end es) (min k cap_end) ws (omega arith) in
    absurd (omega (arith, ap rank (p ∙ both_heavy _ n heavy), heavy))) (lt_or_ge k cap_end)
