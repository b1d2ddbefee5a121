-- Words that start with given numbers: what is read of them.
use mathlib.Core.Path.{◌≡◌, refl, ap, sym, ◌∙◌}
use mathlib.Core.List.{List, [], ◌∷◌, ◌++◌, map}
use Prim.Native.Nat.{ℕ, zero, suc, ◌<◌}
use native.Mathlib.Omega.{arith}
use lib.ListN.{length, get_or, drop}
use Rattle.model.specs.Basics.{All}
use Rattle.model.specs.Problems.{Word}
use Rattle.model.proofs.Lists.{get_d_first}
use Rattle.text_words.specs.Texts.{number, term_of, value_of, decimal}
use Rattle.text_networks.specs.Findings.{Words, term_at, values_in}
use Rattle.text_networks.proofs.Lists.{drop_one, get_d_one}
use Rattle.text_networks.proofs.Digits.{decimal_read}

-- the words start with these numbers
abbrev pub Reads : List ℕ → Words → Type 0
Reads [] ws = Unit {0}
Reads (x ∷ xs) ws = (term_at 0 ws ≡ number x) × Reads xs (drop 1 ws)

pub reads_decimal : (xs : List ℕ) (rest : Words) → All Word xs → Reads xs (map decimal xs ++ rest)
reads_decimal [] rest h = tt
reads_decimal (x ∷ xs) rest h = (decimal_read x h.0, reads_decimal xs rest h.1)

pub reads_left : (xs ys : List ℕ) (ws : Words) → Reads (xs ++ ys) ws → Reads xs ws
reads_left [] ys ws h = tt
reads_left (x ∷ xs) ys ws h = (h.0, reads_left xs ys (drop 1 ws) h.1)

pub reads_right : (xs ys : List ℕ) (ws : Words) → Reads (xs ++ ys) ws → Reads ys (drop (length xs) ws)
reads_right [] ys ws h = h
reads_right (x ∷ xs) ys ws h = rw drop_one (reads_right xs ys (drop 1 ws) h.1)

pub reads_values : (xs : List ℕ) (ws : Words) → Reads xs ws → values_in (length xs) ws ≡ xs
unfolding values_in value_of
reads_values [] ws h = refl
reads_values (x ∷ xs) ws h = λ i. value_of (h.0 i) ∷ reads_values xs (drop 1 ws) h.1 i

-- the number behind the first ones
pub reads_next : (xs : List ℕ) (y : ℕ) (ys : List ℕ) (ws : Words) → Reads (xs ++ (y ∷ ys)) ws
    → term_at (length xs) ws ≡ number y
reads_next xs y ys ws h =
    ap term_of (sym (get_d_first [] (length xs) ws)) ∙ (reads_right xs (y ∷ ys) ws h).0

pub reads_at : (xs : List ℕ) (i : ℕ) (ws : Words) → Reads xs ws → i < length xs → term_at i ws ≡ number (get_or xs i 0)
reads_at [] i ws h l = absurd (omega arith)
reads_at (x ∷ xs) zero ws h l = h.0
reads_at (x ∷ xs) (suc i) ws h l =
    ap term_of (get_d_one [] i ws) ∙ reads_at xs i (drop 1 ws) h.1 (omega arith)
