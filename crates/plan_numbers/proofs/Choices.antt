-- A prefix as long as the domains is a choice.
use Rattle.std.proofs.Common.{◌≡◌, ℕ, true, ltb, List, [], ◌∷◌, length, refl, arith}
use Rattle.model.specs.Costs.{is_choice}
use Rattle.model.specs.Bounds.{prefix_ok}
use Rattle.model.proofs.Bits.{and_left, and_right}

pub whole_prefix : (ds x : List ℕ) → prefix_ok ds x ≡ true → length x ≡ length ds → is_choice ds x ≡ true
unfolding prefix_ok is_choice
whole_prefix [] [] h e = refl
whole_prefix [] (x ∷ xs) h e = absurd (omega arith)
whole_prefix (d ∷ ds) [] h e = absurd (omega arith)
whole_prefix (d ∷ ds) (x ∷ xs) h e =
    rw (
      and_left (ltb x d) (prefix_ok ds xs) h,
      whole_prefix ds xs (and_right (ltb x d) (prefix_ok ds xs) h) (omega arith),
    ) refl
