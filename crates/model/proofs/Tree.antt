-- The tree of partial choices: which choices a search in order has passed when it stands at a prefix.
use mathlib.Core.Path.{◌≡◌, refl, sym, ◌∙◌, subst}
use mathlib.Core.Logic.{◌⊎◌, inl, inr, ⊎_elim}
use mathlib.Core.Bool.{true, false≢true}
use mathlib.Core.List.{List, [], ◌∷◌, ◌++◌}
use Prim.Native.Nat.{ℕ, suc, ◌<◌}
use native.Mathlib.Omega.{arith}
use lib.Dec.{ltb}
use lib.ListN.{length, get_or}
use borrow.Author.Tests.{ltb-true, ltb-false, eq-eqb}
use Rattle.model.specs.Costs.{is_choice}
use Rattle.model.specs.Bounds.{agrees}
use Rattle.model.proofs.Bits.{test, and_left, and_right, and_both}
use Rattle.model.proofs.Vectors.{Earlier}
use Rattle.model.proofs.Choices.{choice_length}

-- y goes on from the prefix
abbrev pub Completes : List ℕ → List ℕ → Type 0
Completes [] y = Unit {0}
Completes (p ∷ pre) [] = ⊥
Completes (p ∷ pre) (x ∷ y) = (p ≡ x) × Completes pre y

pub completes_agrees : (pre y : List ℕ) → Completes pre y → agrees pre y ≡ true
unfolding agrees
completes_agrees [] y h = refl
completes_agrees (p ∷ pre) [] h = absurd h
completes_agrees (p ∷ pre) (x ∷ y) h = and_both (eq-eqb p x h.0) (completes_agrees pre y h.1)

pub completes_refl : (x : List ℕ) → Completes x x
completes_refl [] = tt
completes_refl (x ∷ xs) = (refl, completes_refl xs)

completes_less : (pre : List ℕ) (v : ℕ) (y : List ℕ) → Completes (pre ++ (v ∷ [])) y → Completes pre y
completes_less [] v y h = tt
completes_less (p ∷ pre) v [] h = h
completes_less (p ∷ pre) v (x ∷ y) h = (h.0, completes_less pre v y h.1)

-- what is earlier than a prefix comes before whatever goes on from it
pub earlier_completes : (pre x y : List ℕ) → Earlier x pre → Completes pre y → Earlier x y
earlier_completes pre [] y h k = h
earlier_completes [] (x ∷ xs) y h k = absurd h
earlier_completes (p ∷ pre) (x ∷ xs) [] h k = k
earlier_completes (p ∷ pre) (x ∷ xs) (y ∷ ys) (inl h) k = inl (omega arith)
earlier_completes (p ∷ pre) (x ∷ xs) (y ∷ ys) (inr h) k = inr (h.0 ∙ k.0, earlier_completes pre xs ys h.1 k.1)

not_earlier_none : (y : List ℕ) → Earlier y [] → ⊥
not_earlier_none [] h = h
not_earlier_none (x ∷ y) h = h

-- before pre with w at its end: before pre, or on from pre with less than w
earlier_end : (pre y : List ℕ) (w : ℕ) → Earlier y (pre ++ (w ∷ []))
    → Earlier y pre ⊎ ((v : ℕ) × (v < w) × Completes (pre ++ (v ∷ [])) y)
earlier_end pre [] w h = inl h
earlier_end [] (x ∷ y) w (inl h) = inr (x, h, (refl, tt))
earlier_end [] (x ∷ y) w (inr h) = absurd (not_earlier_none y h.1)
earlier_end (p ∷ pre) (x ∷ y) w (inl h) = inl (inl h)
earlier_end (p ∷ pre) (x ∷ y) w (inr h) =
    ⊎_elim (λ k. inl (inr (h.0, k))) (λ k. inr (k.0, k.1, (sym h.0, k.2))) (earlier_end pre y w h.1)

end_earlier : (pre y : List ℕ) (w : ℕ) → Earlier y pre → Earlier y (pre ++ (w ∷ []))
end_earlier pre [] w h = h
end_earlier [] (x ∷ y) w h = absurd h
end_earlier (p ∷ pre) (x ∷ y) w (inl h) = inl h
end_earlier (p ∷ pre) (x ∷ y) w (inr h) = inr (h.0, end_earlier pre y w h.1)

end_less : (pre y : List ℕ) (v w : ℕ) → v < w → Completes (pre ++ (v ∷ [])) y → Earlier y (pre ++ (w ∷ []))
end_less [] [] v w h k = k
end_less [] (x ∷ y) v w h k = inl (omega arith)
end_less (p ∷ pre) [] v w h k = k
end_less (p ∷ pre) (x ∷ y) v w h k = inr (sym k.0, end_less pre y v w h k.1)

-- a choice that goes on from a prefix has a value of the next variable there
completes_more : (ds pre y : List ℕ) → is_choice ds y ≡ true → length pre < length ds → Completes pre y
    → (v : ℕ) × (v < get_or ds (length pre) 0) × Completes (pre ++ (v ∷ [])) y
unfolding is_choice
completes_more [] pre y c h k = absurd (omega arith)
completes_more (d ∷ ds) pre [] c h k = absurd (false≢true c)
completes_more (d ∷ ds) [] (x ∷ y) c h k = (x, ltb-true x d (and_left (ltb x d) _ c), (refl, tt))
completes_more (d ∷ ds) (p ∷ pre) (x ∷ y) c h k =
    let (v, l, m) = completes_more ds pre y (and_right (ltb x d) _ c) (omega arith) k.1 in
    (v, l, (k.0, m))

-- a prefix as long as the choice is the choice
completes_whole : (pre y : List ℕ) → length pre ≡ length y → Completes pre y → pre ≡ y
completes_whole [] [] e h = refl
completes_whole [] (x ∷ y) e h = absurd (omega arith)
completes_whole (p ∷ pre) [] e h = absurd h
completes_whole (p ∷ pre) (x ∷ y) e h = let a = h.0 in let b = completes_whole pre y (omega arith) h.1 in cc

-- sets of choices
abbrev pub Choices : Type 1
Choices = List ℕ → Type 0

abbrev pub Either : Choices → Choices → Choices
Either S U y = S y ⊎ U y

abbrev pub Same : Choices → Choices → Type 0
Same S U = ((y : List ℕ) → S y → U y) × ((y : List ℕ) → U y → S y)

-- the choices of ds passed before pre, and those that go on from it
abbrev pub Passed : List ℕ → List ℕ → Choices
Passed ds pre y = (is_choice ds y ≡ true) × Earlier y pre

abbrev pub From : List ℕ → List ℕ → Choices
From ds pre y = (is_choice ds y ≡ true) × Completes pre y

-- both: what is passed when all that goes on from pre has been seen
abbrev pub Through : List ℕ → List ℕ → Choices
Through ds pre = Either (Passed ds pre) (From ds pre)

-- nothing is passed at the start
pub start : (ds y : List ℕ) → Passed ds [] y → ⊥
start ds y h = not_earlier_none y h.1

-- opening a variable: its first value is due
pub opened : (ds pre : List ℕ) → Same (Passed ds pre) (Passed ds (pre ++ (0 ∷ [])))
opened ds pre = (
  λ y h. (h.0, end_earlier pre y 0 h.1),
  λ y h. (h.0, ⊎_elim (λ k. k) (λ k. absurd (omega (arith, k.1))) (earlier_end pre y 0 h.1)),
)

-- a value is tried: the next one is due
pub tried : (ds pre : List ℕ) (v : ℕ) → Same (Through ds (pre ++ (v ∷ []))) (Passed ds (pre ++ (suc v ∷ [])))
tried ds pre v = (into, out)
  where
    into : (y : List ℕ) → Through ds (pre ++ (v ∷ [])) y → Passed ds (pre ++ (suc v ∷ [])) y
    into y (inl h) = (
      h.0,
      ⊎_elim (λ k. end_earlier pre y (suc v) k) (λ k. end_less pre y k.0 (suc v) (omega (arith, k.1)) k.2)
          (earlier_end pre y v h.1),
    )
    into y (inr h) = (h.0, end_less pre y v (suc v) (omega arith) h.1)

    past : (y : List ℕ) (u : ℕ) → is_choice ds y ≡ true → u < suc v → Completes (pre ++ (u ∷ [])) y
        → Through ds (pre ++ (v ∷ [])) y
    past y u c h k =
        ⊎_elim
        (λ t. inl (c, end_less pre y u v (ltb-true u v t) k))
        (λ t. let e : u ≡ v = omega (arith, ltb-false u v t) in
        inr (c, subst (λ (w : ℕ). Completes (pre ++ (w ∷ [])) y) e k))
        (test (ltb u v))

    out : (y : List ℕ) → Passed ds (pre ++ (suc v ∷ [])) y → Through ds (pre ++ (v ∷ [])) y
    out y h =
        ⊎_elim (λ k. inl (h.0, end_earlier pre y v k)) (λ k. past y k.0 h.0 k.1 k.2)
        (earlier_end pre y (suc v) h.1)

-- all values are tried: the prefix is done
pub closed : (ds pre : List ℕ) → length pre < length ds
    → Same (Passed ds (pre ++ (get_or ds (length pre) 0 ∷ []))) (Through ds pre)
closed ds pre l = (into, out)
  where
    into : (y : List ℕ) → Passed ds (pre ++ (get_or ds (length pre) 0 ∷ [])) y → Through ds pre y
    into y h =
        ⊎_elim (λ k. inl (h.0, k)) (λ k. inr (h.0, completes_less pre k.0 y k.2))
        (earlier_end pre y (get_or ds (length pre) 0) h.1)

    out : (y : List ℕ) → Through ds pre y → Passed ds (pre ++ (get_or ds (length pre) 0 ∷ [])) y
    out y (inl h) = (h.0, end_earlier pre y (get_or ds (length pre) 0) h.1)
    out y (inr h) =
        let (v, k, m) = completes_more ds pre y h.0 l h.1 in
        (h.0, end_less pre y v (get_or ds (length pre) 0) k m)

-- a complete choice is all that goes on from itself
pub leaf : (ds x y : List ℕ) → is_choice ds x ≡ true → From ds x y → x ≡ y
leaf ds x y c h = completes_whole x y (choice_length ds x c ∙ sym (choice_length ds y h.0)) h.1
