-- A zone is split: its parts are taken in one after another, and at the end no row is free.
use mathlib.Core.Path.{◌≡◌, refl, sym, ◌∙◌, subst}
use mathlib.Core.Logic.{◌⊎◌, inl, inr, ⊎_elim}
use mathlib.Core.Bool.{true}
use mathlib.Core.List.{List}
use Prim.Native.Nat.{ℕ, ◌+◌, ◌-◌, ◌≤◌, ◌<◌}
use native.Mathlib.Omega.{arith}
use native.Mathlib.Nat.{eq-or-lt_of_le}
use borrow.Author.Count.{below_more}
use lib.ListN.{length, get_or}
use Rattle.model.specs.Vectors.{at_most}
use Rattle.model.specs.Archive.{below}
use Rattle.model.proofs.Numbers.{equal_or}
use Rattle.model.proofs.Vectors.{at_most_test, at_most_refl}
use Rattle.branch_directions.specs.Directions.{Sensible}
use Rattle.branch_directions.specs.declared.Directions as DD
use Rattle.branch_zones.specs.Zones.{max_zones, corner_in, Measured}
use Rattle.branch_zones.specs.Steps.{Written, Held, PartAdded, Closed, SplitRows, ZonesSplit}
use Rattle.branch_zones.specs.declared.Places as DP
use Rattle.branch_zones.proofs.ZoneRows.{same_corner}
use Rattle.branch_zones.proofs.RowWritten.{measured_written}
use Rattle.branch_zones.proofs.HeldZones.{held_itself}

-- nothing is written
pub part_none : {d : DD.Directions} {t z : List ℕ} {j : ℕ} {zones : List ℕ} {s : DP.Places}
    → Measured d zones s.count → s.free ≤ s.count
    → (1 ≤ get_or z j 0 → Held d.objectives zones s.count s.free (below t z j))
    → PartAdded d t z j zones s zones s
part_none old inside part =
    record {
      measured = old;
      long = refl;
      inside = inside;
      least = omega arith;
      most = λ n l h. (omega arith, omega arith);
      kept = λ u h. h;
      part = part;
    }

-- row `free` is written
module _ {d : DD.Directions} {zones : List ℕ} {free : ℕ} {t zones' : List ℕ} (sensible : Sensible d)
    (w : Written d zones free t zones') where
  abbrev p : ℕ
  p = d.objectives

  -- it has what lies within the new zone, and the others have what they had
  new_row : (u : List ℕ) → at_most u t ≡ true → at_most u (corner_in p zones' free) ≡ true
  new_row u h = rw w.corner h

  kept_row : (k : ℕ) → k < max_zones → (k ≡ free → ⊥) → (u : List ℕ) → at_most u (corner_in p zones k) ≡ true
      → at_most u (corner_in p zones' k) ≡ true
  kept_row k l n u h = rw (same_corner zones zones' k (w.others k l n) p (omega (arith, sensible.few))) h

-- the part is written to the free row
module _ {d : DD.Directions} (t z : List ℕ) (j : ℕ) {zones : List ℕ} {s : DP.Places} {zones' : List ℕ} {s' : DP.Places}
    (sensible : Sensible d) (old : Measured d zones s.count) (room : s.free < max_zones)
    (w : Written d zones s.free (below t z j) zones') (behind : s'.free ≡ s'.count)
    (more : ((s.free ≡ s.count) × (s'.count ≡ s.count + 1)) ⊎ ((s.free < s.count) × (s'.count ≡ s.count))) where
  least : s.count ≤ s'.count
  least = ⊎_elim (λ h. omega arith) (λ h. omega arith) more

  new : s.free < s'.count
  new = ⊎_elim (λ h. omega arith) (λ h. omega arith) more

  few : s'.count ≤ max_zones
  few = ⊎_elim (λ h. omega arith) (λ h. omega (arith, old.few)) more

  old_row : (k : ℕ) → k < s'.count → (k ≡ s.free → ⊥) → k < s.count
  old_row k l n =
      ⊎_elim (λ h. ⊎_elim (λ (e : k ≡ s.count). absurd (n (omega arith))) (λ o. o) (eq-or-lt_of_le (omega arith)))
      (λ h. omega arith) more

  most : (n : ℕ) → s.free < n → s.count ≤ n → s'.count ≤ n
  most n l c = ⊎_elim (λ h. omega arith) (λ h. omega arith) more

  pub part_written : PartAdded d t z j zones s zones' s'
  part_written =
      record {
        measured = measured_written sensible w s.count old s'.count few old_row;
        long = w.long;
        inside = omega arith;
        least = least;
        most = λ n l h. (omega (arith, most n l h), omega (arith, most n l h));
        kept =
            λ u (k, l, n, h). (
              k,
              omega (arith, least),
              (λ e. omega (arith, least)),
              kept_row sensible w k (omega (arith, old.few)) n u h,
            );
        part =
            λ o. (
              s.free,
              new,
              (λ e. omega (arith, new)),
              new_row sensible w (below t z j) (at_most_test (below t z j) (below t z j) (at_most_refl (below t z j))),
            );
      }

-- the last zone moves to the free row
module _ {d : DD.Directions} {zones : List ℕ} {s : DP.Places} {zones' : List ℕ} (sensible : Sensible d)
    (old : Measured d zones s.count) (inside : s.free < s.count)
    (w : Written d zones s.free (corner_in d.objectives zones (s.count - 1)) zones') where
  moved : (u : List ℕ) → Held d.objectives zones s.count s.free u
      → Held d.objectives zones' (s.count - 1) (s.count - 1) u
  moved u (k, l, n, h) =
      ⊎_elim
      (λ (e : k ≡ s.count - 1).
      ⊎_elim
      (λ (q : s.free ≡ s.count - 1). absurd (n (e ∙ sym q)))
      (λ q. (
        s.free,
        q,
        (λ r. omega arith),
        new_row sensible w u (subst (λ (r : ℕ). at_most u (corner_in d.objectives zones r) ≡ true) e h),
      ))
      (last_or s.free inside))
      (λ q. (k, q, (λ r. omega arith), kept_row sensible w k (omega (arith, old.few)) n u h))
      (last_or k l)
    where
      last_or : (r : ℕ) → r < s.count → (r ≡ s.count - 1) ⊎ (r < s.count - 1)
      last_or r g = eq-or-lt_of_le (omega arith)

  pub closed_moved : Closed d zones s zones' (s.count - 1)
  closed_moved =
      record {
        measured =
            measured_written sensible w s.count old (s.count - 1) (omega (arith, old.few)) (λ k l n. omega arith);
        long = w.long;
        least = omega arith;
        kept = moved;
      }

-- zone i of m, with the corner t, is split: its first j parts are taken in
pub record Splitting (d : DD.Directions) (t z zones : List ℕ) (i m j : ℕ) (zones' : List ℕ) (s : DP.Places)
    : Type 0 where
  pub measured : Measured d zones' s.count
  pub long : length zones' ≡ length zones
  pub inside : s.free ≤ s.count
  pub least : m ≤ s.count
  pub room : s.free < m + j
  pub most : s.count ≤ m + j
  pub kept : (u : List ℕ) → Held d.objectives zones m i u → Held d.objectives zones' s.count s.free u
  pub parts : (k : ℕ) → k < j → 1 ≤ get_or z k 0 → Held d.objectives zones' s.count s.free (below t z k)

pub splitting_start : {d : DD.Directions} (t z : List ℕ) {zones : List ℕ} {m : ℕ} (i : ℕ) → i < m → Measured d zones m
    → Splitting d t z zones i m 0 zones (record { count = m; free = i })
splitting_start t z i l old =
    record {
      measured = old;
      long = refl;
      inside = omega arith;
      least = omega arith;
      room = omega arith;
      most = omega arith;
      kept = λ u h. h;
      parts = λ k q. absurd (omega arith);
    }

module _ {d : DD.Directions} {t z zones : List ℕ} {i m j : ℕ} {zones' : List ℕ} {s : DP.Places}
    (u : Splitting d t z zones i m j zones' s) where
  pub splitting_next : {zones'' : List ℕ} {s' : DP.Places} → PartAdded d t z j zones' s zones'' s'
      → Splitting d t z zones i m (j + 1) zones'' s'
  splitting_next {zones''} {s'} a =
      record {
        measured = a.measured;
        long = a.long ∙ u.long;
        inside = a.inside;
        least = omega (arith, a.least, u.least);
        room = omega (arith, (a.most (m + j) u.room u.most).0);
        most = omega (arith, (a.most (m + j) u.room u.most).1);
        kept = λ v h. a.kept v (u.kept v h);
        parts =
            below_more (λ k. 1 ≤ get_or z k 0 → Held d.objectives zones'' s'.count s'.free (below t z k)) j
            (λ k l o. a.kept (below t z k) (u.parts k l o)) a.part;
      }

  -- all parts are taken in
  pub splitting_end : j ≡ d.objectives → t ≡ corner_in d.objectives zones i → {zones'' : List ℕ} {m' : ℕ}
      → Closed d zones' s zones'' m' → ZonesSplit d z zones m zones'' m'
  splitting_end all e {zones''} {m'} c = record { measured = c.measured; long = c.long ∙ u.long; split = split }
    where
      split : SplitRows d.objectives z zones m zones'' m'
      split k l =
          ⊎_elim
          (λ (q : k ≡ i). inr
          (λ o h g. c.kept (below (corner_in d.objectives zones k) z o) (rw (q, ← e) (u.parts o (omega arith) g))))
          (λ n. inl (c.kept (corner_in d.objectives zones k)
          (u.kept (corner_in d.objectives zones k) (held_itself d.objectives zones m i k l n))))
          (equal_or k i)
