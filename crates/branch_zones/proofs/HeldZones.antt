-- Zones that have others in them: smaller ones, parts below a point; and splits, one after another.
use mathlib.Core.Path.{◌≡◌, refl, sym, ◌∙◌, subst}
use mathlib.Core.Logic.{◌⊎◌, inl, inr, ⊎_elim}
use mathlib.Core.Bool.{true}
use mathlib.Core.List.{List, Memᴰ as In}
use Prim.Native.Nat.{ℕ, ◌-◌, ◌≤◌, ◌<◌}
use native.Mathlib.Omega.{arith}
use lib.ListN.{length, get_or, set, length-set}
use lib.Seq.{get_or-set_same, get_or-set_other, set-set}
use Rattle.model.specs.Limits.{max_objectives}
use Rattle.model.specs.Vectors.{at_most}
use Rattle.model.specs.Archive.{below}
use Rattle.model.proofs.Numbers.{equal_or}
use Rattle.model.proofs.Vectors.{AtMost, at_most_true, at_most_test, at_most_refl, at_most_trans}
use Rattle.model.proofs.AtMostAt.{at_most_each, at_most_at}
use Rattle.branch_directions.specs.Directions.{Sensible}
use Rattle.branch_directions.specs.declared.Directions as DD
use Rattle.layout.specs.Layout.{zones_end}
use Rattle.branch_zones.specs.Zones.{max_zones, corner_in, corners_in, Measured, SplitAt}
use Rattle.branch_zones.specs.Steps.{Held, SplitRows, ZonesSplit}
use Rattle.branch_zones.proofs.ZoneRows.{corner_long, corner_listed, listed_corner}

-- the same number in the same place
set_mono : (u v : List ℕ) (j c : ℕ) → length u ≡ length v → AtMost u v → AtMost (set u j c) (set v j c)
set_mono u v j c e h =
    at_most_each
    (set u j c)
    (set v j c)
    (length-set u j c ∙ e ∙ sym (length-set v j c))
    (λ k l.
    let inside : k < length u = omega (arith, length-set u j c) in
    ⊎_elim
    (λ (s : k ≡ j). rw (s, get_or-set_same u j c 0 (omega arith), get_or-set_same v j c 0 (omega arith)) (omega arith))
    (λ n. rw (get_or-set_other u j k c 0 n, get_or-set_other v j k c 0 n) (at_most_at u v e h k inside))
    (equal_or k j))

module _ (p : ℕ) (zones : List ℕ) (m free : ℕ) where
  pub held_itself : (k : ℕ) → k < m → (k ≡ free → ⊥) → Held p zones m free (corner_in p zones k)
  held_itself k l n = (
    k,
    l,
    n,
    at_most_test (corner_in p zones k) (corner_in p zones k) (at_most_refl (corner_in p zones k)),
  )

  pub held_smaller : (u t : List ℕ) → length u ≡ length t → AtMost u t → Held p zones m free t → Held p zones m free u
  held_smaller u t e h (k, l, n, g) = (
    k,
    l,
    n,
    at_most_test u (corner_in p zones k)
        (at_most_trans u t (corner_in p zones k) e h (at_most_true t (corner_in p zones k) g)),
  )

split_none : (p : ℕ) (z zones : List ℕ) (m : ℕ) → SplitRows p z zones m zones m
split_none p z zones m k l = inl (held_itself p zones m m k l (λ e. omega arith))

-- one split after another
module _ (p : ℕ) (z zones : List ℕ) (m : ℕ) (zones' : List ℕ) (m' : ℕ) (zones'' : List ℕ) (m'' : ℕ)
    (few : p ≤ max_objectives) (long : zones_end ≤ length zones) (count : m ≤ max_zones)
    (long' : zones_end ≤ length zones')
    (count' : m' ≤ max_zones) (second : SplitRows p z zones' m' zones'' m'') where
  -- what a zone has before the second split
  carried : (u : List ℕ) → length u ≡ p → Held p zones' m' m' u
      → Held p zones'' m'' m'' u ⊎ ((j : ℕ) → j < p → 1 ≤ get_or z j 0 → Held p zones'' m'' m'' (below u z j))
  carried u e (k, l, n, g) =
      let t = corner_in p zones' k in
      let h = at_most_true u t g in
      let same : length u ≡ length t = e ∙ sym (corner_long p zones' k few long' (omega arith)) in
      ⊎_elim
      (λ whole. inl (held_smaller p zones'' m'' m'' u t same h whole))
      (λ parts. inr (λ j i o. held_smaller p zones'' m'' m'' (below u z j) (below t z j)
      (length-set u j (get_or z j 0 - 1) ∙ same ∙ sym (length-set t j (get_or z j 0 - 1)))
      (set_mono u t j (get_or z j 0 - 1) same h) (parts j i o)))
      (second k l)

  pub split_more : SplitRows p z zones m zones' m' → SplitRows p z zones m zones'' m''
  split_more first k l =
      let t = corner_in p zones k in
      let wide = corner_long p zones k few long (omega arith) in
      ⊎_elim
      (λ whole. carried t wide whole)
      (λ parts. inr (λ j i o.
      let c = get_or z j 0 - 1 in
      ⊎_elim
      (λ whole. whole)
      (λ again. subst (Held p zones'' m'' m'') (set-set t j c c) (again j i o))
      (carried (below t z j) (length-set t j c ∙ wide) (parts j i o))))
      (first k l)

-- the same of the listed corners
pub split_listed : (p : ℕ) (z zones : List ℕ) (m : ℕ) (zones' : List ℕ) (m' : ℕ) → SplitRows p z zones m zones' m'
    → SplitAt p z (corners_in p zones 0 m) (corners_in p zones' 0 m')
split_listed p z zones m zones' m' split t i =
    let (k, l, e) = listed_corner p zones m t i in
    subst (λ (c : List ℕ). Part c) (sym e)
    (⊎_elim (λ h. inl (listed (corner_in p zones k) h))
    (λ parts. inr (λ j n o. listed (below (corner_in p zones k) z j) (parts j n o))) (split k l))
  where
    IsInZone : List ℕ → Type 0
    IsInZone u = (t' : List ℕ) × In t' (corners_in p zones' 0 m') × (at_most u t' ≡ true)

    Part : List ℕ → Type 0
    Part c = IsInZone c ⊎ ((j : ℕ) → j < p → 1 ≤ get_or z j 0 → IsInZone (below c z j))

    listed : (u : List ℕ) → Held p zones' m' m' u → IsInZone u
    listed u (k, l, n, g) = (corner_in p zones' k, corner_listed p zones' m' k l, g)

-- with what is known of the rows
pub zones_split_none : {d : DD.Directions} (z : List ℕ) {zones : List ℕ} {m : ℕ} → Measured d zones m
    → ZonesSplit d z zones m zones m
zones_split_none {d} z {zones} {m} old = record {
  measured = old;
  long = refl;
  split = split_none d.objectives z zones m;
}

pub zones_split_more : {d : DD.Directions} {z zones : List ℕ} {m : ℕ} {zones' : List ℕ} {m' : ℕ} {zones'' : List ℕ}
    {m'' : ℕ}
    → Sensible d → Measured d zones m → ZonesSplit d z zones m zones' m' → ZonesSplit d z zones' m' zones'' m''
    → ZonesSplit d z zones m zones'' m''
zones_split_more {d} {z} {zones} {m} {zones'} {m'} {zones''} {m''} sensible old first second =
    record {
      measured = second.measured;
      long = second.long ∙ first.long;
      split =
          split_more d.objectives z zones m zones' m' zones'' m'' sensible.few old.long old.few
          first.measured.long first.measured.few second.split first.split;
    }
