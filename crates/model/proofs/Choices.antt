-- `choices ds` lists exactly the choices of ds, and `points_by` the points of those that pass a test.
use mathlib.Core.Path.{◌≡◌, refl, ap, sym, ◌∙◌, subst}
use mathlib.Core.Logic.{◌⊎◌, inl, inr, ⊎_elim}
use mathlib.Core.Bool.{Bool, true, false≢true}
use mathlib.Core.List.Memᴰ.{head as here}
use mathlib.Core.List.Memᴰ.{tail as there}
use mathlib.Core.List.{List, [], ◌∷◌, Memᴰ as In}
use mathlib.Core.List.Memᴰ.{cases_cons as in-cases}
use mathlib.Core.List.Memᴰ.{not-nil as in-none}
use mathlib.Core.List.Memᴰ.{append_cases as in-append}
use mathlib.Core.List.Memᴰ.{append_left as in_left}
use mathlib.Core.List.Memᴰ.{append_right as in_right}
use Prim.Native.Nat.{ℕ, zero, suc, ◌+◌, ◌≤◌, ◌<◌}
use native.Mathlib.Omega.{arith}
use lib.Dec.{ltb}
use lib.ListN.{length}
use borrow.Author.Tests.{ltb-true, ltb-false, lt-ltb}
use Rattle.model.specs.Problems.{Problem}
use Rattle.model.specs.Costs.{is_choice, costs_of}
use Rattle.model.specs.Frontiers.{Point, point, with_first, firsts_from, choices, points_by}
use Rattle.model.proofs.Bits.{test, and_left, and_right, and_both, kept_cases, kept_here, kept_there}

in_first : (v : ℕ) {x : List ℕ} (cs : List (List ℕ)) → In x cs → In (v ∷ x) (with_first v cs)
unfolding with_first
in_first v [] m = absurd (in-none m)
in_first v (c ∷ cs) m = ⊎_elim (λ e. here (ap (◌∷◌ v) e)) (λ n. there (in_first v cs n)) (in-cases m)

first_in_lem : (v : ℕ) (y : List ℕ) (cs : List (List ℕ)) → In y (with_first v cs) → (x : List ℕ) × (y ≡ v ∷ x) × In x cs
unfolding with_first
first_in_lem v y [] m = absurd (in-none m)
first_in_lem v y (c ∷ cs) m =
    ⊎_elim (λ e. (c, e, here refl)) (λ n. let (x, e, i) = first_in_lem v y cs n in (x, e, there i)) (in-cases m)

in_firsts : (n v k : ℕ) {x : List ℕ} (cs : List (List ℕ)) → In x cs → k ≤ v → v < n + k
    → In (v ∷ x) (firsts_from n k cs)
unfolding firsts_from
in_firsts zero v k cs m h g = absurd (omega arith)
in_firsts (suc n) v k {x} cs m h g =
    ⊎_elim
    (λ (e : v ≡ k). rw e (in_left (firsts_from n (suc k) cs) (in_first k cs m)))
    (λ e. in_right (with_first k cs) (in_firsts n v (suc k) cs m (omega arith) (omega arith)))
    (same_or_past v k h)
  where
    same_or_past : (v k : ℕ) → k ≤ v → (v ≡ k) ⊎ (k < v)
    same_or_past v k h = ⊎_elim (λ t. inr (ltb-true k v t)) (λ t. inl (omega (arith, ltb-false k v t))) (test (ltb k v))

firsts_in : (n k : ℕ) (y : List ℕ) (cs : List (List ℕ)) → In y (firsts_from n k cs)
    → (v : ℕ) × (x : List ℕ) × (y ≡ v ∷ x) × (v < n + k) × In x cs
unfolding firsts_from
firsts_in zero k y cs m = absurd (in-none m)
firsts_in (suc n) k y cs m =
    ⊎_elim
    (λ i. let (x, e, j) = first_in_lem k y cs i in (k, x, e, omega arith, j))
    (λ i. let (v, x, e, h, j) = firsts_in n (suc k) y cs i in (v, x, e, omega arith, j))
    (in-append (with_first k cs) m)

pub in_choices : (ds x : List ℕ) → is_choice ds x ≡ true → In x (choices ds)
unfolding choices is_choice
in_choices [] [] h = here refl
in_choices [] (v ∷ x) h = absurd (false≢true h)
in_choices (d ∷ ds) [] h = absurd (false≢true h)
in_choices (d ∷ ds) (v ∷ x) h =
    in_firsts d v 0 (choices ds) (in_choices ds x (and_right (ltb v d) (is_choice ds x) h)) (omega arith)
    (omega (arith, ltb-true v d (and_left (ltb v d) (is_choice ds x) h)))

pub choices_in_lem : (ds x : List ℕ) → In x (choices ds) → is_choice ds x ≡ true
unfolding choices is_choice
choices_in_lem [] x m = ⊎_elim (λ e. rw e refl) (λ n. absurd (in-none n)) (in-cases m)
choices_in_lem (d ∷ ds) y m =
    let (v, x, e, h, i) = firsts_in d 0 y (choices ds) m in
    rw e (and_both (lt-ltb v d (omega arith)) (choices_in_lem ds x i))

pub choice_length : (ds x : List ℕ) → is_choice ds x ≡ true → length x ≡ length ds
unfolding is_choice
choice_length [] [] h = refl
choice_length [] (v ∷ x) h = absurd (false≢true h)
choice_length (d ∷ ds) [] h = absurd (false≢true h)
choice_length (d ∷ ds) (v ∷ x) h = ap suc (choice_length ds x (and_right (ltb v d) (is_choice ds x) h))

-- of those that pass a test
module _ (test : List ℕ → Bool) (q : Problem) where
  pub in_points : (xs : List (List ℕ)) (p : Point) → In p (points_by test q xs)
      → In p.choice xs × (test p.choice ≡ true) × (p.costs ≡ costs_of q p.choice)
  unfolding points_by
  in_points [] p m = absurd (in-none m)
  in_points (x ∷ xs) p m =
      ⊎_elim
      (λ h.
      let c : p.choice ≡ x = ap (λ (t : Point). t.choice) h.0 in
      (here c, rw c h.1, ap (λ (t : Point). t.costs) h.0 ∙ ap (costs_of q) (sym c)))
      (λ n. let k = in_points xs p n in (there k.0, k.1, k.2))
      (kept_cases (test x) m)

  pub points_in_lem : (xs : List (List ℕ)) (x : List ℕ) → In x xs → test x ≡ true
      → In (point (costs_of q x) x) (points_by test q xs)
  unfolding points_by
  points_in_lem [] x m h = absurd (in-none m)
  points_in_lem (y ∷ xs) x m h =
      ⊎_elim
      (λ (e : x ≡ y). subst (λ (z : List ℕ). In (point (costs_of q z) z) (points_by test q (y ∷ xs))) (sym e)
      (kept_here (point (costs_of q y) y) (points_by test q xs) (rw e at h)))
      (λ n. kept_there (test y) (point (costs_of q y) y) (points_in_lem xs x n h))
      (in-cases m)
