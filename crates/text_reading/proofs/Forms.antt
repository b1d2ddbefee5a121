-- Forms of records, part after part: domain sizes, costs.
use mathlib.Core.Path.{◌≡◌, ap, ◌∙◌}
use mathlib.Core.List.{List, [], ◌∷◌}
use Prim.Native.Nat.{ℕ, suc, ◌≤◌, ◌<◌}
use native.Mathlib.Omega.{arith}
use lib.ListN.{length, get_or, drop, replicate, drop_of_length-le, length-replicate, get_or-replicate}
use lib.Seq.{drop-cons}
use Rattle.model.specs.Encoding.{letter_d, letter_o, four_bytes, word_bytes, domain_bytes}
use Rattle.text_lines.proofs.Writing.{Split}

-- domain sizes: the one that is due; none is left
pub domain_next : (xs : List ℕ) (i : ℕ) → i < length xs
    → Split (domain_bytes (drop i xs)) (letter_d ∷ letter_o ∷ get_or xs i 0 ∷ []) (domain_bytes (drop (suc i) xs))
unfolding domain_bytes
domain_next xs i h = record { parts = ap domain_bytes (drop-cons xs i 0 h) }

pub domains_end : (xs : List ℕ) (i : ℕ) → length xs ≤ i → domain_bytes (drop i xs) ≡ []
unfolding domain_bytes
domains_end xs i h = ap domain_bytes (drop_of_length-le xs {i = i} h)

-- costs that are the same
pub cost_next : (n x i : ℕ) → i < n
    → Split (word_bytes (drop i (replicate n x))) (four_bytes x) (word_bytes (drop (suc i) (replicate n x)))
unfolding word_bytes
cost_next n x i h =
    let xs = replicate n x in
    record {
      parts = ap word_bytes
          (drop-cons xs i 0 (omega (arith, length-replicate n x))
          ∙ ap (λ (y : ℕ). y ∷ drop (suc i) xs) (get_or-replicate n i x 0 h));
    }

pub costs_end : (n x i : ℕ) → n ≤ i → word_bytes (drop i (replicate n x)) ≡ []
unfolding word_bytes
costs_end n x i h = ap word_bytes (drop_of_length-le (replicate n x) {i = i} (omega (arith, length-replicate n x)))
