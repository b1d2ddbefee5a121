-- Room for points: in the caller's buffers, and in arrays for as many points as an answer may have.
use mathlib.Core.Path.{◌≡◌, refl}
use mathlib.Core.List.{List}
use Prim.Native.Nat.{ℕ, ◌*◌, ◌≤◌}
use native.Mathlib.Omega.{arith}
use lib.ListN.{length, replicate, length-replicate}
use Rattle.model.specs.Limits.{max_objectives, max_variables, max_points}
use Rattle.model.specs.Problems.{Problem}
use Rattle.model.specs.Calls.{room_of}
use Rattle.model.specs.declared.Header as DM
use Rattle.model.proofs.Numbers.{product_small}
use Rattle.model.proofs.Flat.{divided_fits, room_whole}
use Rattle.answers.specs.Says.{room_in}
use Rattle.cache_call.specs.Steps.{Counted}

-- the two arrays as they are made
abbrev pub no_costs : List ℕ
no_costs = replicate 256 0

abbrev pub no_choices : List ℕ
no_choices = replicate 1536 0

-- so many points as the caller has room for
module _ (h : DM.Header) (costs choices : List ℕ) (k room : ℕ)
    (room_as : room ≡ room_in h (length costs) (length choices)) (fits : k ≤ room) where
  pub costs_room : k * h.objectives ≤ length costs
  costs_room = divided_fits k (length costs) h.objectives (omega (arith, fits, room_as))

  pub choices_room : k * h.variables ≤ length choices
  choices_room = divided_fits k (length choices) h.variables (omega (arith, fits, room_as))

-- as many as an answer may have
module _ (h : DM.Header) (counted : Counted h) (k : ℕ) (few : k ≤ max_points) where
  pub costs_few : k * h.objectives ≤ 256
  costs_few = omega (arith, product_small max_points max_objectives k h.objectives few counted.objectives.1)

  pub choices_few : k * h.variables ≤ 1536
  choices_few = omega (arith, product_small max_points max_variables k h.variables few counted.variables.1)

-- the header is a problem's
module _ (q : Problem) (h : DM.Header) (p : h.objectives ≡ q.objectives)
    (n : h.variables ≡ length q.domains) where
  pub room_is : (costs choices : List ℕ) → room_in h (length costs) (length choices) ≡ room_of q costs choices
  unfolding room_of
  room_is costs choices = rw (p, n) refl

  pub array_room : Counted h → room_of q no_costs no_choices ≡ max_points
  array_room counted =
      room_whole q no_costs no_choices (omega (arith, p, counted.objectives)) (omega (arith, n, counted.variables))
      (rw (length-replicate {A = ℕ} 256 0) (omega (arith, p, counted.objectives)))
      (rw (length-replicate {A = ℕ} 1536 0) (omega (arith, n, counted.variables)))
