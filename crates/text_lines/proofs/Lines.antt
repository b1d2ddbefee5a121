-- Lines of numbers, number by number.
use mathlib.Core.Path.{◌≡◌, refl, sym, ◌∙◌, ap}
use mathlib.Core.List.{List, [], ◌∷◌, ◌++◌, append_assoc}
use Prim.Native.Nat.{ℕ, suc, ◌<◌}
use lib.ListN.{length, get_or, drop}
use lib.Seq.{drop-cons}
use Rattle.text_lines.proofs.Writing.{Split}
use Rattle.text_words.specs.Texts.{decimal, spaced, line, space, line_feed}

-- the numbers before the last have a space behind each
same_line : (xs : List ℕ) (y : ℕ) → line (xs ++ (y ∷ [])) ≡ spaced xs ++ (decimal y ++ (line_feed ∷ []))
unfolding line spaced
same_line [] y = refl
same_line (x ∷ []) y = rw append_assoc refl
same_line (x ∷ z ∷ zs) y =
    ap (λ (l : List ℕ). decimal x ++ (space ∷ l)) (same_line (z ∷ zs) y)
    ∙ sym (append_assoc (decimal x) (space ∷ spaced (z ∷ zs)) (decimal y ++ (line_feed ∷ [])))

pub line_last : (xs : List ℕ) (y : ℕ)
    → Split (line (xs ++ (y ∷ []))) (spaced xs) (decimal y ++ (line_feed ∷ []))
line_last xs y = record { parts = same_line xs y }

-- the number that is due
pub spaced_next : (xs : List ℕ) (i : ℕ) → i < length xs
    → Split (spaced (drop i xs)) (decimal (get_or xs i 0) ++ (space ∷ [])) (spaced (drop (suc i) xs))
unfolding spaced
spaced_next xs i h = record { parts = rw (drop-cons xs i 0 h, append_assoc) refl }

pub spaced_none : spaced [] ≡ []
unfolding spaced
spaced_none = refl
