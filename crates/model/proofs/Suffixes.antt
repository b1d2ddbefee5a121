-- The sharper bound: what the records over the last variables cost more than their least entries may be added to the
-- bound of a prefix.
use mathlib.Core.Path.{◌≡◌, refl, sym, ◌∙◌}
use mathlib.Core.Bool.{Bool, true, false}
use mathlib.Core.List.{List, [], ◌∷◌, ◌++◌}
use Prim.Native.Nat.{ℕ, zero, suc, ◌+◌, ◌-◌, ◌≤◌, ◌<◌}
use native.Mathlib.Omega.{arith}
use lib.ListN.{length, get_or, replicate, length-append, length-replicate, get_or-replicate}
use Rattle.model.specs.Basics.{when}
use Rattle.model.specs.Problems.{Table, Problem}
use Rattle.model.specs.Vectors.{added}
use Rattle.model.specs.Costs.{cost_of, total, totals_from, totals, costs_of}
use Rattle.model.specs.Bounds.{agrees, least_of, bound_of}
use Rattle.model.specs.Search.{dead}
use Rattle.model.specs.Views.{kept}
use Rattle.model.specs.Suffixes.{suffix_sides, in_suffix, sharper, Gain, Gains}
use Rattle.model.proofs.Elements.{all_map}
use Rattle.model.proofs.Vectors.{AtMost}
use Rattle.model.proofs.Sums.{added_length}
use Rattle.model.proofs.Totals.{total_grows, total_plus}
use Rattle.model.proofs.Choices.{choice_length}
use Rattle.model.proofs.Prefixes.{agrees_length}
use Rattle.model.proofs.LeastEntry.{least_below}
use Rattle.model.proofs.Bounded.{bound_length}
use Rattle.model.proofs.Tree.{From, completes_agrees}
use Rattle.model.proofs.Search.{Sound}
use Rattle.model.proofs.Prune.{Lower, lower_sound}
use Rattle.model.proofs.Kept.{total_kept}
use Rattle.model.proofs.Narrowed.{within_all, within_more, least_same}

-- the variables of side 1 are those from k on
pub sides_length : (n k : ℕ) → k ≤ n → n ≡ length (suffix_sides n k)
sides_length n k l = simp (length-append, length-replicate) (omega arith)

ones_below : (m v : ℕ) → get_or {A = ℕ} (replicate m 1) v 0 ≡ 1 → v < m
ones_below zero v e = absurd (omega arith)
ones_below (suc m) zero e = omega arith
ones_below (suc m) (suc v) e = omega (arith, ones_below m v e)

side_from : (m k v : ℕ) → get_or {A = ℕ} (replicate k 0 ++ replicate m 1) v 0 ≡ 1 → (k ≤ v) × (v < k + m)
side_from m zero v e = (omega arith, omega (arith, ones_below m v e))
side_from m (suc k) zero e = absurd (omega arith)
side_from m (suc k) (suc v) e = let r = side_from m k v e in (omega (arith, r.0), omega (arith, r.1))

from_side : (m k v : ℕ) → k ≤ v → v < k + m → get_or {A = ℕ} (replicate k 0 ++ replicate m 1) v 0 ≡ 1
from_side m zero v h l = get_or-replicate m v 1 0 (omega arith)
from_side m (suc k) zero h l = absurd (omega arith)
from_side m (suc k) (suc v) h l = from_side m k v (omega arith) (omega arith)

-- a record over the variables from j on is one over those from an earlier k on
pub suffix_more : (n k j : ℕ) → k ≤ j → (t : Table) → in_suffix n j t ≡ true → in_suffix n k t ≡ true
suffix_more n k j l t =
    within_more 1 (suffix_sides n j) (suffix_sides n k)
    (λ v e. let r = side_from (n - j) j v e in from_side (n - k) k v (omega (arith, r.0)) (omega (arith, r.0, r.1)))
    t.scope

-- nothing may always be added
-- a smaller gain is undercut by no choice either
pub gain_less : (q : Problem) (o k g h : ℕ) → g ≤ h → Gain q o k h → Gain q o k g
gain_less q o k g h l gain y c = omega (arith, gain y c)

pub gain_none : (q : Problem) (o k : ℕ) → Gain q o k 0
unfolding agrees
gain_none q o k y c =
    let ds = q.domains in
    omega (
      arith,
      total_grows o (least_of ds []) (cost_of ds y) (λ t. least_below ds [] t y c refl)
          (kept (in_suffix (length ds) k) q.tables),
    )

-- a record over the variables after a prefix has the same least entry with the prefix as without
prefix_least : (ds pre : List ℕ) (n : ℕ) (t : Table) → in_suffix n (length pre) t ≡ true
    → least_of ds pre t ≡ least_of ds [] t
prefix_least ds pre n t h =
    let k = length pre in
    least_same ds ds pre t
    (all_map (λ v. get_or (suffix_sides n k) v 0 ≡ 1) (λ v. (k ≤ v) × (get_or ds v 0 ≡ get_or ds v 0))
    (λ v e. ((side_from (n - k) k v e).0, refl)) t.scope (within_all 1 (suffix_sides n k) t.scope h))

-- what some records cost more than their least entries b may be added to a sum of bounds f
total_gained : (o : ℕ) (inside : Table → Bool) (b f c : Table → ℕ) (ts : List Table) (g : ℕ)
    → ((t : Table) → inside t ≡ true → f t ≡ b t) → ((t : Table) → f t ≤ c t)
    → total o b (kept inside ts) + g ≤ total o c (kept inside ts) → total o f ts + g ≤ total o c ts
total_gained o inside b f c ts g same low gain =
    let lead : total o (λ t. f t + when (inside t) (c t)) ts ≤ total o (λ t. c t + when (inside t) (b t)) ts =
    total_grows o _ _ (λ t. go t (inside t) refl) ts in
    omega (
      arith,
      total_plus o f (λ t. when (inside t) (c t)) ts,
      total_plus o c (λ t. when (inside t) (b t)) ts,
      total_kept o b inside ts,
      total_kept o c inside ts,
    )
  where
    go : (t : Table) (i : Bool) → inside t ≡ i → f t + when i (c t) ≤ c t + when i (b t)
    go t true e = omega (arith, same t e)
    go t false e = omega (arith, low t)

totals_gained : (p o : ℕ) (f c : Table → ℕ) (ts : List Table) (gs : List ℕ)
    → ((i j : ℕ) → j ≡ i + o → i < p → total j f ts + get_or gs i 0 ≤ total j c ts)
    → AtMost (added (totals_from p o f ts) gs) (totals_from p o c ts)
unfolding totals_from added
totals_gained zero o f c ts gs h = tt
totals_gained (suc p) o f c ts [] h = tt
totals_gained (suc p) o f c ts (g ∷ gs) h = (
  h 0 o (omega arith) (omega arith),
  totals_gained p (suc o) f c ts gs (λ i j e l. h (suc i) j (omega arith) (omega arith)),
)

-- a prefix is at most as long as what goes on from it
from_length : (ds pre y : List ℕ) → From ds pre y → length pre ≤ length ds
from_length ds pre y t = omega (arith, agrees_length pre y (completes_agrees pre y t.1), choice_length ds y t.0)

-- the sharper bound is still below what every completion costs
module _ (q : Problem) (gains : ℕ → List ℕ) (known : Gains q gains) where
  sharper_total : (pre y : List ℕ) → From q.domains pre y → (o : ℕ) → o < q.objectives
      → total o (least_of q.domains pre) q.tables + get_or (gains (length pre)) o 0
      ≤ total o (cost_of q.domains y) q.tables
  sharper_total pre y t o l =
      let ds = q.domains in
      total_gained o (in_suffix (length ds) (length pre)) (least_of ds []) (least_of ds pre) (cost_of ds y) q.tables
      (get_or (gains (length pre)) o 0)
      (prefix_least ds pre (length ds))
      (λ r. least_below ds pre r y t.0 (completes_agrees pre y t.1))
      (known.sound o (length pre) l (from_length ds pre y t) y t.0)

  sharper_below : (pre y : List ℕ) → From q.domains pre y → AtMost (sharper q gains pre) (costs_of q y)
  unfolding bound_of costs_of totals
  sharper_below pre y t =
      totals_gained q.objectives 0 (least_of q.domains pre) (cost_of q.domains y) q.tables
      (gains (length pre))
      (λ i j e l. let same : j ≡ i = omega arith in rw same (sharper_total pre y t i l))

  pub gains_lower : Lower q (sharper q gains)
  gains_lower =
      record {
        width =
            λ pre y t. added_length (bound_of q pre) (gains (length pre))
            (bound_length q pre ∙ sym (known.width (length pre) (from_length q.domains pre y t)))
            ∙ bound_length q pre;
        below = sharper_below;
      }

  pub gains_sound : Sound q (λ ps pre h. dead q ps h (sharper q gains pre))
  gains_sound = lower_sound q (sharper q gains) gains_lower
