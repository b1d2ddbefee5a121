-- How long a list's flat forms and its records are, and that they fit the buffers that have room for it.
use mathlib.Core.Path.{◌≡◌, refl, sym, ap}
use mathlib.Core.List.{List, [], ◌∷◌}
use Prim.Native.Nat.{ℕ, zero, suc, ◌*◌, ◌≤◌}
use native.Mathlib.Omega.{arith}
use native.Mathlib.Nat.{suc-mul, zero-mul, mul-zero, le-div_iff_mul-le}
use lib.ListN.{length, length-append}
use Rattle.model.specs.Basics.{All}
use Rattle.model.specs.Limits.{max_points}
use Rattle.model.specs.Problems.{Problem}
use Rattle.model.specs.Frontiers.{Point, frontier}
use Rattle.model.specs.Calls.{divided, room_of, flat_costs, flat_choices, point_records}
use Rattle.model.proofs.Elements.{all_in}
use Rattle.model.proofs.Frontier.{frontier_best, reached_width, reached_length}

-- points of p costs and n choices
module _ (p n : ℕ) where
  abbrev pub Wide : Point → Type 0
  Wide t = (length t.costs ≡ p) × (length t.choice ≡ n)

  pub costs_long : (ts : List Point) → All Wide ts → length (flat_costs ts) ≡ length ts * p
  unfolding flat_costs
  costs_long [] h = sym (zero-mul p)
  costs_long (t ∷ ts) h =
      omega (arith, length-append t.costs (flat_costs ts), h.0.0, costs_long ts h.1, suc-mul (length ts) p)

  pub choices_long : (ts : List Point) → All Wide ts → length (flat_choices ts) ≡ length ts * n
  unfolding flat_choices
  choices_long [] h = sym (zero-mul n)
  choices_long (t ∷ ts) h =
      omega (arith, length-append t.choice (flat_choices ts), h.0.1, choices_long ts h.1, suc-mul (length ts) n)

pub records_count : (ts : List Point) → length (point_records ts) ≡ length ts
unfolding point_records
records_count [] = refl
records_count (t ∷ ts) = ap suc (records_count ts)

pub frontier_wide : (q : Problem) → All (Wide q.objectives (length q.domains)) (frontier q)
frontier_wide q =
    all_in (Wide q.objectives (length q.domains)) (frontier q) (λ t m.
    let h = (frontier_best q).listed.sound t m in
    (reached_width q t h, reached_length q t h))

-- as many points as the room fit the buffers
pub divided_fits : (k a b : ℕ) → k ≤ divided a b → k * b ≤ a
unfolding divided
divided_fits k a zero l = omega (arith, mul-zero k)
divided_fits k a (suc b) l =
    let some : 1 ≤ suc b = omega arith in
    (le-div_iff_mul-le some).0 l

fits_divided : (k a b : ℕ) → 1 ≤ b → k * b ≤ a → k ≤ divided a b
unfolding divided
fits_divided k a zero some l = absurd (omega (arith, some))
fits_divided k a (suc b) some l =
    let positive : 1 ≤ suc b = omega arith in
    (le-div_iff_mul-le positive).1 l

module _ (q : Problem) (costs choices : List ℕ) (k : ℕ) (few : k ≤ room_of q costs choices) where
  pub costs_fit : k * q.objectives ≤ length costs
  unfolding room_of
  costs_fit = divided_fits k (length costs) q.objectives (omega (arith, few))

  pub choices_fit : k * length q.domains ≤ length choices
  unfolding room_of
  choices_fit = divided_fits k (length choices) (length q.domains) (omega (arith, few))

-- buffers for as many points as a list may have
pub room_whole : (q : Problem) (costs choices : List ℕ) → 1 ≤ q.objectives → 1 ≤ length q.domains
    → max_points * q.objectives ≤ length costs → max_points * length q.domains ≤ length choices
    → room_of q costs choices ≡ max_points
unfolding room_of
room_whole q costs choices some_objective some_variable c x =
    omega (
      arith,
      fits_divided max_points (length costs) q.objectives some_objective c,
      fits_divided max_points (length choices) (length q.domains) some_variable x,
    )
