-- Prefixes, choices and agreement: lengths, values by variable, one value changed, some completion.
use mathlib.Core.Path.{◌≡◌, refl}
use mathlib.Core.Bool.{true, false≢true}
use mathlib.Core.List.{List, [], ◌∷◌, ◌++◌}
use Prim.Native.Nat.{ℕ, zero, suc, ◌≤◌, ◌<◌}
use native.Mathlib.Omega.{arith}
use lib.Dec.{eqb, ltb}
use lib.ListN.{length, get_or, set}
use borrow.Author.Tests.{ltb-true, lt-ltb, eqb-true, eq-eqb}
use Rattle.model.specs.Basics.{All}
use Rattle.model.specs.Costs.{is_choice}
use Rattle.model.specs.Bounds.{prefix_ok, agrees}
use Rattle.model.proofs.Bits.{and_left, and_right, and_both}

pub choice_prefix : (ds x : List ℕ) → is_choice ds x ≡ true → prefix_ok ds x ≡ true
unfolding is_choice prefix_ok
choice_prefix [] [] h = refl
choice_prefix [] (a ∷ x) h = h
choice_prefix (d ∷ ds) [] h = refl
choice_prefix (d ∷ ds) (a ∷ x) h = and_both (and_left (ltb a d) _ h) (choice_prefix ds x (and_right (ltb a d) _ h))

pub prefix_below : (ds pre : List ℕ) → prefix_ok ds pre ≡ true → (v : ℕ) → v < length pre
    → get_or pre v 0 < get_or ds v 0
unfolding prefix_ok
prefix_below ds [] h v l = absurd (omega arith)
prefix_below [] (p ∷ pre) h v l = absurd (false≢true h)
prefix_below (d ∷ ds) (p ∷ pre) h zero l = ltb-true p d (and_left (ltb p d) _ h)
prefix_below (d ∷ ds) (p ∷ pre) h (suc v) l = prefix_below ds pre (and_right (ltb p d) _ h) v (omega arith)

pub agrees_length : (pre x : List ℕ) → agrees pre x ≡ true → length pre ≤ length x
unfolding agrees
agrees_length [] x h = omega arith
agrees_length (p ∷ pre) [] h = absurd (false≢true h)
agrees_length (p ∷ pre) (a ∷ x) h = omega (arith, agrees_length pre x (and_right (eqb p a) _ h))

pub agrees_at : (pre x : List ℕ) → agrees pre x ≡ true → (v : ℕ) → v < length pre → get_or pre v 0 ≡ get_or x v 0
unfolding agrees
agrees_at [] x h v l = absurd (omega arith)
agrees_at (p ∷ pre) [] h v l = absurd (false≢true h)
agrees_at (p ∷ pre) (a ∷ x) h zero l = eqb-true p a (and_left (eqb p a) _ h)
agrees_at (p ∷ pre) (a ∷ x) h (suc v) l = agrees_at pre x (and_right (eqb p a) _ h) v (omega arith)

pub agrees_more : (pre more : List ℕ) → agrees pre (pre ++ more) ≡ true
unfolding agrees
agrees_more [] more = refl
agrees_more (p ∷ pre) more = and_both (eq-eqb p p refl) (agrees_more pre more)

-- one variable takes another value of its domain; where it is after the prefix, the choice still agrees
pub set_choice : (ds x : List ℕ) (v a : ℕ) → is_choice ds x ≡ true → a < get_or ds v 0 → is_choice ds (set x v a) ≡ true
unfolding is_choice
set_choice [] [] v a h l = h
set_choice [] (b ∷ x) v a h l = absurd (false≢true h)
set_choice (d ∷ ds) [] v a h l = h
set_choice (d ∷ ds) (b ∷ x) zero a h l = and_both (lt-ltb a d l) (and_right (ltb b d) _ h)
set_choice (d ∷ ds) (b ∷ x) (suc v) a h l =
    and_both (and_left (ltb b d) _ h) (set_choice ds x v a (and_right (ltb b d) _ h) l)

pub set_agrees : (pre x : List ℕ) (v a : ℕ) → agrees pre x ≡ true → length pre ≤ v → agrees pre (set x v a) ≡ true
unfolding agrees
set_agrees [] x v a h l = refl
set_agrees (p ∷ pre) [] v a h l = h
set_agrees (p ∷ pre) (b ∷ x) zero a h l = absurd (omega arith)
set_agrees (p ∷ pre) (b ∷ x) (suc v) a h l =
    and_both (and_left (eqb p b) _ h) (set_agrees pre x v a (and_right (eqb p b) _ h) (omega arith))

-- zeros after the prefix complete it
pub some_completion : (ds pre : List ℕ) → All (λ d. 1 ≤ d) ds → prefix_ok ds pre ≡ true
    → (x : List ℕ) × (is_choice ds x ≡ true) × (agrees pre x ≡ true)
unfolding is_choice agrees prefix_ok
some_completion [] [] low h = ([], refl, refl)
some_completion [] (p ∷ pre) low h = absurd (false≢true h)
some_completion (d ∷ ds) [] low h =
    let r = some_completion ds [] low.1 refl in
    (0 ∷ r.0, and_both (lt-ltb 0 d low.0) r.1, refl)
some_completion (d ∷ ds) (p ∷ pre) low h =
    let r = some_completion ds pre low.1 (and_right (ltb p d) _ h) in
    (p ∷ r.0, and_both (and_left (ltb p d) _ h) r.1, and_both (eq-eqb p p refl) r.2)
