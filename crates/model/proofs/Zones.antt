-- The zones: every vector under the ceilings is in one, or is matched by an archived point, or has a sum that is not
-- below the limit.
-- So a bound under no corner leaves nothing to look for but an earlier choice for archived costs.
use mathlib.Core.Path.{◌≡◌, refl, ap, sym, ◌∙◌, subst}
use mathlib.Core.Logic.{◌⊎◌, inl, inr, ⊎_elim}
use mathlib.Core.Bool.{true, false}
use mathlib.Core.List.Memᴰ.{head as here}
use mathlib.Core.List.{List, [], ◌∷◌, Memᴰ as In}
use Prim.Native.Nat.{ℕ, zero, suc, ◌-◌, ◌≤◌, ◌<◌}
use native.Mathlib.Omega.{arith}
use lib.Dec.{ltb}
use lib.ListN.{length, get_or, set, length-set}
use borrow.Author.Tests.{ltb-true, ltb-false}
use Rattle.model.specs.Problems.{Problem}
use Rattle.model.specs.Vectors.{at_most}
use Rattle.model.specs.Frontiers.{Point}
use Rattle.model.specs.Core.{under, CoreReached}
use Rattle.model.specs.Archive.{weighted, Covered, Follows, InZone, Zoned, lowered, below}
use Rattle.model.proofs.Bits.{test, true_false, not_true_false, and_left, and_right}
use Rattle.model.proofs.Vectors.{AtMost, NotLater, at_most_true, at_most_test, at_most_trans}
use Rattle.model.proofs.Sums.{under_at}
use Rattle.model.proofs.Frontier.{reached_width}
use Rattle.model.proofs.Core.{core_under}
use Rattle.model.proofs.Weighted.{weighted_mono}
use Rattle.model.proofs.Archive.{Wide, serves_as_good, as_good_serves}

-- the first zone: all that is under the ceilings
pub lowered_length : (cs : List ℕ) → length (lowered cs) ≡ length cs
unfolding lowered
lowered_length [] = refl
lowered_length (c ∷ cs) = ap suc (lowered_length cs)

under_lowered : (v cs : List ℕ) → under v cs ≡ true → AtMost v (lowered cs)
unfolding under lowered
under_lowered [] cs h = tt
under_lowered (x ∷ v) [] h = tt
under_lowered (x ∷ v) (c ∷ cs) h = (
  omega (arith, ltb-true x c (and_left (ltb x c) (under v cs) h)),
  under_lowered v cs (and_right (ltb x c) (under v cs) h),
)

pub zones_start : (p : ℕ) (ceilings ws : List ℕ) (archive : List Point) (limit : ℕ)
    → Zoned p ceilings ws archive limit (lowered ceilings ∷ [])
zones_start p ceilings ws archive limit v e u =
    inl (lowered ceilings, here refl, at_most_test v (lowered ceilings) (under_lowered v ceilings u))

-- a ceiling of 0 has nothing under it
pub under_none : (v cs : List ℕ) (i : ℕ) → length v ≡ length cs → i < length cs → get_or cs i 0 ≡ 0 → under v cs ≡ false
under_none v cs i e l z = not_true_false _ (λ t. omega (arith, under_at v cs i (omega arith) l t, z))

pub zones_none : (p : ℕ) (ceilings ws : List ℕ) (archive : List Point) (limit : ℕ)
    → ((v : List ℕ) → length v ≡ p → under v ceilings ≡ false) → Zoned p ceilings ws archive limit []
zones_none p ceilings ws archive limit none v e u = absurd (true_false u (none v e))

-- a vector that needs no zone
abbrev Outside : List ℕ → List Point → ℕ → List ℕ → Type 0
Outside ws archive limit v = ((a : Point) × In a archive × (at_most a.costs v ≡ true)) ⊎ (limit ≤ weighted ws v)

-- zones stand while the archive changes
pub zones_follow : {ws : List ℕ} {archive : List Point} {limit : ℕ} {archive' : List Point} {limit' : ℕ} (p : ℕ)
    (ceilings : List ℕ) (zones : List (List ℕ))
    → Follows ws archive limit archive' limit' → Wide p archive → Wide p archive'
    → Zoned p ceilings ws archive limit zones → Zoned p ceilings ws archive' limit' zones
zones_follow {ws} {archive} {limit} {archive'} {limit'} p ceilings zones f w w' old v e u =
    ⊎_elim (λ i. inl i) (λ o. inr (go o)) (old v e u)
  where
    go : Outside ws archive limit v → Outside ws archive' limit' v
    go (inl (a, m, t)) =
        let s = at_most_true a.costs v t in
        ⊎_elim
        (λ l. inr (omega (arith, weighted_mono ws a.costs v (w a m ∙ sym e) s)))
        (λ (b, n, r). inl (
          b,
          n,
          at_most_test b.costs v
              (at_most_trans b.costs a.costs v (w' b n ∙ sym (w a m)) (serves_as_good b a r).0 s),
        ))
        (f.served a m)
    go (inr l) = inr (omega (arith, f.lower))

-- a vector is matched by z, or is below z somewhere
matched_or_below : (z v : List ℕ) → length z ≡ length v
    → AtMost z v ⊎ ((j : ℕ) × (j < length z) × (get_or v j 0 < get_or z j 0))
matched_or_below [] v e = inl tt
matched_or_below (x ∷ z) [] e = absurd (omega arith)
matched_or_below (x ∷ z) (y ∷ v) e =
    ⊎_elim
    (λ t. inr (0, omega arith, ltb-true y x t))
    (λ t. ⊎_elim (λ h. inl (ltb-false y x t, h)) (λ (j, l, h). inr (suc j, omega arith, h))
    (matched_or_below z v (omega arith)))
    (test (ltb y x))

set_at_most : (v t : List ℕ) (j c : ℕ) → AtMost v t → get_or v j 0 ≤ c → AtMost v (set t j c)
set_at_most [] t j c h l = tt
set_at_most (x ∷ v) [] j c h l = tt
set_at_most (x ∷ v) (y ∷ t) zero c h l = (l, h.1)
set_at_most (x ∷ v) (y ∷ t) (suc j) c h l = (h.0, set_at_most v t j c h.1 l)

-- the zone of t holds v: v is in one of its parts below z, or z matches it
part_of : (p : ℕ) (zones : List (List ℕ)) (z t v : List ℕ) → length z ≡ p → length t ≡ p → length v ≡ p → AtMost v t
    → ((j : ℕ) → j < p → 1 ≤ get_or z j 0 → (t' : List ℕ) × In t' zones × AtMost (below t z j) t')
    → InZone zones v ⊎ AtMost z v
part_of p zones z t v a b c h each =
    ⊎_elim
    (λ g. inr g)
    (λ (j, l, less).
    let (t', n, k) = each j (omega arith) (omega arith) in
    let low : AtMost v (below t z j) = set_at_most v t j (get_or z j 0 - 1) h (omega arith) in
    inl (
      t',
      n,
      at_most_test v t' (at_most_trans v (below t z j) t' (c ∙ sym b ∙ sym (length-set t j (get_or z j 0 - 1))) low k),
    ))
    (matched_or_below z v (a ∙ sym c))

-- zones split at an archived point z: each goes on whole, or by its parts below z
pub zones_split : (p : ℕ) (ceilings ws : List ℕ) (archive : List Point) (limit : ℕ) (zones : List (List ℕ))
    → ((t : List ℕ) → In t zones → length t ≡ p) → (z : Point) → In z archive → length z.costs ≡ p
    → Zoned p ceilings ws archive limit zones → (zones' : List (List ℕ))
    → ((t : List ℕ) → In t zones
    → ((t' : List ℕ) × In t' zones' × AtMost t t')
    ⊎ ((j : ℕ) → j < p → 1 ≤ get_or z.costs j 0 → (t' : List ℕ) × In t' zones' × AtMost (below t z.costs j) t'))
    → Zoned p ceilings ws archive limit zones'
zones_split p ceilings ws archive limit zones wide z m long old zones' parts v e u =
    ⊎_elim (λ (t, i, h). go t i (at_most_true v t h)) (λ o. inr o) (old v e u)
  where
    go : (t : List ℕ) → In t zones → AtMost v t → InZone zones' v ⊎ Outside ws archive limit v
    go t i h =
        ⊎_elim
        (λ (t', n, k). inl (t', n, at_most_test v t' (at_most_trans v t t' (e ∙ sym (wide t i)) h k)))
        (λ each. ⊎_elim (λ g. inl g) (λ g. inr (inl (z, m, at_most_test z.costs v g)))
        (part_of p zones' z.costs t v long (wide t i) e h each))
        (parts t i)

-- the rule of the search, of a bound b on the directions of y's costs: no corner's directions are that large, and the
-- archived points whose directions are have choices that are not later than y's
pub dead_covered : {q : Problem} (ws : List ℕ) (archive : List Point) (limit : ℕ) (zones : List (List ℕ))
    (dirs : List ℕ → List ℕ)
    → ((u v : List ℕ) → length u ≡ length v → AtMost u v → AtMost (dirs u) (dirs v))
    → Zoned q.objectives q.ceilings ws archive limit zones
    → ((t : List ℕ) → In t zones → length t ≡ q.objectives) → (y : Point) → CoreReached q y → (b : List ℕ)
    → length b ≡ length (dirs y.costs) → AtMost b (dirs y.costs)
    → ((t : List ℕ) → In t zones → AtMost b (dirs t) → ⊥)
    → ((a : Point) → In a archive → AtMost b (dirs a.costs) → NotLater a.choice y.choice)
    → Covered ws archive limit y
dead_covered {q} ws archive limit zones dirs mono old wide y r b e low none ties =
    ⊎_elim (λ i. absurd (no_zone i)) go (old y.costs width (core_under q y r))
  where
    width : length y.costs ≡ q.objectives
    width = reached_width q y r

    no_zone : InZone zones y.costs → ⊥
    no_zone (t, i, k) =
        none t i
        (at_most_trans b (dirs y.costs) (dirs t) e low
        (mono y.costs t (width ∙ sym (wide t i)) (at_most_true y.costs t k)))

    go : Outside ws archive limit y.costs → Covered ws archive limit y
    go (inl (a, m, k)) =
        inr (
          a,
          m,
          as_good_serves a y (
            at_most_true a.costs y.costs k,
            λ s. ties a m (subst (λ (c : List ℕ). AtMost b (dirs c)) (sym s) low),
          ),
        )
    go (inr l) = inl l
