-- The corners in memory: their length and numbers, which row one stands in, the part of a row that is a corner, and a
-- row by fours.
use mathlib.Core.Path.{◌≡◌, refl, sym, ap, ◌∙◌}
use mathlib.Core.Bool.{◌&&◌}
use mathlib.Core.List.{List, [], ◌++◌, Memᴰ as In}
use Prim.Native.Nat.{ℕ, zero, suc, ◌+◌, ◌*◌, ◌≤◌, ◌<◌}
use native.Mathlib.Omega.{arith}
use native.Mathlib.Nat.{add-zero, zero-add}
use lib.ListN.{length, get_or, take, drop, length-drop}
use lib.Seq.{length-take-le, get_or-take, get_or-drop, take_all, take-take, take-add, drop-drop}
use Rattle.model.specs.Basics.{All}
use Rattle.model.specs.Limits.{max_objectives, word_end}
use Rattle.model.specs.Problems.{Word}
use Rattle.model.specs.Vectors.{at_most}
use Rattle.model.proofs.AtMostAt.{at_most_parts}
use Rattle.model.proofs.Elements.{all_in, all_drop, all_take, at_in, in_at}
use Rattle.branch_directions.specs.Directions.{Sensible}
use Rattle.branch_directions.specs.declared.Directions as DD
use Rattle.layout.specs.Layout.{zones_end}
use Rattle.branch_zones.specs.Zones.{max_zones, zone_width, corner_in, corners_in, Measured}
use Rattle.branch_zones.specs.Steps.{row_in}

pub corner_long : (p : ℕ) (zones : List ℕ) (i : ℕ) → p ≤ max_objectives → zones_end ≤ length zones → i < max_zones
    → length (corner_in p zones i) ≡ p
corner_long p zones i few long l =
    length-take-le p (drop (zone_width * i) zones) (omega (arith, length-drop (zone_width * i) zones))

pub front_number : (n : ℕ) (zones : List ℕ) (i j : ℕ) → j < n
    → get_or (take n (drop (zone_width * i) zones)) j 0 ≡ get_or zones (zone_width * i + j) 0
front_number n zones i j l = get_or-take n (drop (zone_width * i) zones) j 0 l ∙ get_or-drop (zone_width * i) zones j 0

-- eight numbers are at most a row if four are at most its first four, and four at most the others
pub row_fours : (least zones : List ℕ) (at : ℕ) → length least ≡ zone_width → at + zone_width ≤ length zones
    → at_most least (take zone_width (drop at zones))
    ≡
    (at_most (take 4 least) (take 4 (drop at zones)) && at_most (take 4 (drop 4 least)) (take 4 (drop (at + 4) zones)))
row_fours least zones at e l =
    let long = length-drop at zones in
    let all : least ≡ take 4 least ++ take 4 (drop 4 least) =
    sym (take_all zone_width least (omega arith)) ∙ take-add 4 4 least in
    let row : take zone_width (drop at zones) ≡ take 4 (drop at zones) ++ take 4 (drop (at + 4) zones) =
    take-add 4 4 (drop at zones)
    ∙ ap (λ (r : List ℕ). take 4 (drop at zones) ++ take 4 r) (drop-drop 4 at zones) in
    ap (λ (u : List ℕ). at_most u (take zone_width (drop at zones))) all
    ∙ ap (at_most (take 4 least ++ take 4 (drop 4 least))) row
    ∙ at_most_parts (take 4 least) (take 4 (drop at zones)) (take 4 (drop 4 least)) (take 4 (drop (at + 4) zones))
    (length-take-le 4 least (omega arith) ∙ sym (length-take-le 4 (drop at zones) (omega (arith, long))))

-- the first p of a corner's four numbers
pub front_corner : (p : ℕ) (zones : List ℕ) (i : ℕ) (t : List ℕ) → p ≤ max_objectives
    → t ≡ corner_in max_objectives zones i → take p t ≡ corner_in p zones i
front_corner p zones i t few e = rw e (take-take p max_objectives (drop (zone_width * i) zones) few)

pub corner_words : (p : ℕ) (zones : List ℕ) (i : ℕ) → ((k : ℕ) → get_or zones k 0 < word_end)
    → All Word (corner_in p zones i)
corner_words p zones i words =
    all_take Word p (drop (zone_width * i) zones)
    (all_drop Word (zone_width * i) zones
    (all_in Word zones (λ x m. let (k, l, e) = in_at zones 0 m in rw e (words k))))

-- equal rows have equal corners and equal numbers
module _ (zones zones' : List ℕ) (k : ℕ) (same : row_in zones' k ≡ row_in zones k) where
  pub same_corner : (p : ℕ) → p ≤ zone_width → corner_in p zones' k ≡ corner_in p zones k
  same_corner p few =
      sym (take-take p zone_width (drop (zone_width * k) zones') few)
      ∙ ap (take p) same
      ∙ take-take p zone_width (drop (zone_width * k) zones) few

  pub same_number : (j : ℕ) → j < zone_width
      → get_or zones' (zone_width * k + j) 0 ≡ get_or zones (zone_width * k + j) 0
  same_number j l =
      sym (front_number zone_width zones' k j l)
      ∙ ap (λ (r : List ℕ). get_or r j 0) same
      ∙ front_number zone_width zones k j l

-- the listed corners by their rows
module _ (p : ℕ) (zones : List ℕ) where
  corners_length : (i m : ℕ) → length (corners_in p zones i m) ≡ m
  unfolding corners_in
  corners_length i zero = refl
  corners_length i (suc m) = ap suc (corners_length (i + 1) m)

  corners_at : (i m j : ℕ) → j < m → get_or (corners_in p zones i m) j [] ≡ corner_in p zones (i + j)
  unfolding corners_in
  corners_at i zero j l = absurd (omega arith)
  corners_at i (suc m) zero l = rw add-zero
  corners_at i (suc m) (suc j) l =
      let e : i + 1 + j ≡ i + suc j = omega arith in
      rw e at (corners_at (i + 1) m j (omega arith))

  pub corner_listed : (m j : ℕ) → j < m → In (corner_in p zones j) (corners_in p zones 0 m)
  corner_listed m j l =
      rw (corners_at 0 m j l, zero-add) at (at_in (corners_in p zones 0 m) j [] (rw (corners_length 0 m) l))

  pub listed_corner : (m : ℕ) (t : List ℕ) → In t (corners_in p zones 0 m)
      → (j : ℕ) × (j < m) × (t ≡ corner_in p zones j)
  listed_corner m t h =
      let (j, l, e) = in_at (corners_in p zones 0 m) [] h in
      let below : j < m = omega (arith, corners_length 0 m) in
      (j, below, e ∙ rw (corners_at 0 m j below, zero-add))

-- the corners of measured zones have a number for each objective
pub corners_wide : {d : DD.Directions} {zones : List ℕ} {m : ℕ} → Sensible d → Measured d zones m → (t : List ℕ)
    → In t (corners_in d.objectives zones 0 m) → length t ≡ d.objectives
corners_wide {d} {zones} {m} sensible old t h =
    let (k, l, e) = listed_corner d.objectives zones m t h in
    ap length e ∙ corner_long d.objectives zones k sensible.few old.long (omega (arith, old.few))
