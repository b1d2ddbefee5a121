-- Costs that stand once: read by places, with another choice, one more or one less; they are as many when sorted.
use mathlib.Core.Path.{◌≡◌, refl, ap, sym, ◌∙◌}
use mathlib.Core.Logic.{◌⊎◌, inl, inr, ⊎_elim}
use mathlib.Core.List.Memᴰ.{head as here}
use mathlib.Core.List.Memᴰ.{tail as there}
use mathlib.Core.List.{List, [], ◌∷◌, ◌++◌, Memᴰ as In}
use mathlib.Core.List.Memᴰ.{cases_cons as in-cases}
use mathlib.Core.List.Memᴰ.{not-nil as in-none}
use mathlib.Core.List.Memᴰ.{append_cases as in-append}
use mathlib.Core.List.Memᴰ.{eq_of_singleton as in_one}
use mathlib.Core.List.Memᴰ.{append_left as in_left}
use mathlib.Core.List.Memᴰ.{append_right as in_right}
use Prim.Native.Nat.{ℕ, zero, suc, ◌<◌}
use native.Mathlib.Omega.{arith}
use lib.ListN.{length, get_or}
use Rattle.model.specs.Frontiers.{Point, put, sorted}
use Rattle.model.specs.Archive.{Distinct}
use Rattle.model.proofs.Elements.{at_in, in_at}
use Rattle.model.proofs.Sorting.{Sized, AllSized, Put, instead, already, before, after, put_ways, sorted_in}

-- a member is the one in the middle, or stays whatever stands there
pub in_middle : {b a : Point} (front rest : List Point) → In b (front ++ (a ∷ rest))
    → (b ≡ a) ⊎ ((x : Point) → In b (front ++ (x ∷ rest)))
in_middle front rest m =
    ⊎_elim (λ i. inr (λ x. in_left (x ∷ rest) i))
    (λ i. ⊎_elim (λ e. inl e) (λ j. inr (λ x. in_right front (there j))) (in-cases i)) (in-append front m)

-- another choice
pub distinct_same : (front rest : List Point) (a x : Point) → x.costs ≡ a.costs → Distinct (front ++ (a ∷ rest))
    → Distinct (front ++ (x ∷ rest))
distinct_same [] rest a x same d = (λ r m e. d.0 r m (sym same ∙ e), d.1)
distinct_same (b ∷ front) rest a x same d = (
  λ r m e.
      ⊎_elim
      (λ (i : r ≡ x). d.0 a (in_right front (here refl)) (e ∙ ap (λ (t : Point). t.costs) i ∙ same))
      (λ f. d.0 r (f a) e)
      (in_middle front rest m),
  distinct_same front rest a x same d.1,
)

-- one more
pub distinct_more : (ps : List Point) (x : Point) → ((r : Point) → In r ps → r.costs ≡ x.costs → ⊥) → Distinct ps
    → Distinct (ps ++ (x ∷ []))
distinct_more [] x fresh d = (λ r m e. absurd (in-none m), tt)
distinct_more (p ∷ ps) x fresh d = (
  λ r m e. ⊎_elim (λ i. d.0 r i e)
      (λ i. let same : r ≡ x = in_one i in fresh p (here refl) (e ∙ ap (λ (t : Point). t.costs) same))
      (in-append ps m),
  distinct_more ps x (λ r m. fresh r (there m)) d.1,
)

-- one less
pub distinct_less : (front rest : List Point) (a : Point) → Distinct (front ++ (a ∷ rest)) → Distinct (front ++ rest)
distinct_less [] rest a d = d.1
distinct_less (b ∷ front) rest a d = (
  λ r m. d.0 r (⊎_elim (λ i. in_left (a ∷ rest) i) (λ i. in_right front (there i)) (in-append front m)),
  distinct_less front rest a d.1,
)

-- by places
pub distinct_places : (ps : List Point) (none : Point) → Distinct ps → (i j : ℕ) → i < j → j < length ps
    → (get_or ps i none).costs ≡ (get_or ps j none).costs → ⊥
distinct_places [] none d i j l h e = omega arith
distinct_places (p ∷ ps) none d i zero l h e = omega arith
distinct_places (p ∷ ps) none d zero (suc j) l h e = d.0 (get_or ps j none) (at_in ps j none (omega arith)) e
distinct_places (p ∷ ps) none d (suc i) (suc j) l h e = distinct_places ps none d.1 i j (omega arith) (omega arith) e

pub places_distinct : (ps : List Point) (none : Point)
    → ((i j : ℕ) → i < j → j < length ps → (get_or ps i none).costs ≡ (get_or ps j none).costs → ⊥) → Distinct ps
places_distinct [] none h = tt
places_distinct (p ∷ ps) none h = (
  λ r m e. let (i, l, f) = in_at ps none m in
      h 0 (suc i) (omega arith) (omega arith) (e ∙ ap (λ (t : Point). t.costs) f),
  places_distinct ps none (λ i j l k. h (suc i) (suc j) (omega arith) (omega arith)),
)

-- sorted
put_length : (n k : ℕ) (x : Point) (ps : List Point) → Sized n k x → AllSized n k ps
    → ((r : Point) → In r ps → x.costs ≡ r.costs → ⊥) → length (put x ps) ≡ suc (length ps)
unfolding put
put_length n k x [] hx hs d = refl
put_length n k x (p ∷ ps) hx hs d =
    go (put_length n k x ps hx (λ s i. hs s (there i)) (λ r m. d r (there m)))
    (put_ways n k x p ps hx (hs p (here refl)))
  where
    go : length (put x ps) ≡ suc (length ps) → Put x p ps → length (put x (p ∷ ps)) ≡ suc (suc (length ps))
    go rest (instead e c h) = absurd (d p (here refl) e)
    go rest (already e c h) = absurd (d p (here refl) e)
    go rest (before e h) = ap length h
    go rest (after e h) = ap length h ∙ ap suc rest

pub sorted_length : (n k : ℕ) (ps : List Point) → AllSized n k ps → Distinct ps → length (sorted ps) ≡ length ps
unfolding sorted
sorted_length n k [] hs d = refl
sorted_length n k (p ∷ ps) hs d =
    let tail : AllSized n k ps = λ s i. hs s (there i) in
    put_length n k p (sorted ps) (hs p (here refl)) (λ s i. tail s (sorted_in n k ps tail s i))
    (λ r m. d.0 r (sorted_in n k ps tail r m))
    ∙ ap suc (sorted_length n k ps tail d.1)
