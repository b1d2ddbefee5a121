-- Vectors of four numbers, number by number, and their sums.
use mathlib.Core.Path.{◌≡◌, refl, sym, ap, ◌∙◌}
use mathlib.Core.List.{List, [], ◌∷◌}
use Prim.Native.Nat.{ℕ, zero, suc, ◌+◌, ◌≤◌, ◌<◌}
use native.Mathlib.Omega.{arith}
use lib.ListN.{length, get_or, take, drop, length-drop}
use lib.Seq.{take_all, get_or-drop}
use Rattle.model.specs.Basics.{All}
use Rattle.model.specs.Limits.{max_objectives, word_end}
use Rattle.model.specs.Vectors.{added}
use Rattle.vectors.specs.Fronts.{Half}

abbrev pub listed : (ℕ → ℕ) → List ℕ
listed f = f 0 ∷ f 1 ∷ f 2 ∷ f 3 ∷ []

-- four numbers of a list
pub four_listed : (xs : List ℕ) → max_objectives ≤ length xs → take max_objectives xs ≡ listed (λ i. get_or xs i 0)
four_listed [] h = absurd (omega arith)
four_listed (a ∷ []) h = absurd (omega arith)
four_listed (a ∷ b ∷ []) h = absurd (omega arith)
four_listed (a ∷ b ∷ c ∷ []) h = absurd (omega arith)
four_listed (a ∷ b ∷ c ∷ d ∷ xs) h = refl

pub four_all : (xs : List ℕ) → length xs ≡ max_objectives → listed (λ i. get_or xs i 0) ≡ xs
four_all xs e = sym (four_listed xs (omega arith)) ∙ take_all max_objectives xs (omega arith)

-- four words from a place on are of half the range
pub four_half : (xs : List ℕ) (at : ℕ) → at + max_objectives ≤ length xs → ((i : ℕ) → get_or xs i 0 < word_end)
    → All Half (take max_objectives (drop at xs))
four_half xs at l h =
    let small : (i : ℕ)
    → Half (get_or (drop at xs) i 0) = λ i. rw (get_or-drop at xs i 0) (omega (arith, h (at + i))) in
    rw (four_listed (drop at xs) (omega (arith, length-drop at xs))) (small 0, (small 1, (small 2, (small 3, tt))))

pub at_listed : (f : ℕ → ℕ) (o : ℕ) → o < max_objectives → get_or (listed f) o 0 ≡ f o
at_listed f zero l = refl
at_listed f (suc zero) l = refl
at_listed f (suc (suc zero)) l = refl
at_listed f (suc (suc (suc zero))) l = refl
at_listed f (suc (suc (suc (suc o)))) l = absurd (omega arith)

-- sums of two vectors, of four numbers one by one
pub added_listed : (xs ys : List ℕ) → length xs ≡ max_objectives → length ys ≡ max_objectives
    → listed (λ o. get_or xs o 0 + get_or ys o 0) ≡ added xs ys
unfolding added
added_listed xs ys e d = ap (λ l. added l (listed (λ o. get_or ys o 0))) (four_all xs e) ∙ ap (added xs) (four_all ys d)
