-- Demand 3: merging the halves' frontier lists gives the frontier list, for every problem and side list that no record
-- crosses. It is proved of any tests of choices and of sums that go together, since the core has its own.
use mathlib.Core.Path.{◌≡◌, refl, sym, ◌∙◌, subst, ap, ap₂}
use mathlib.Core.Logic.{⊎_elim}
use mathlib.Core.Bool.{Bool, true, false, ◌||◌}
use mathlib.Core.List.Memᴰ.{head as here}
use mathlib.Core.List.Memᴰ.{tail as there}
use mathlib.Core.List.{List, [], ◌∷◌, Memᴰ as In}
use mathlib.Core.List.Memᴰ.{cases_cons as in-cases}
use mathlib.Core.List.Memᴰ.{not-nil as in-none}
use mathlib.Core.List.Memᴰ.{append_cases as in-append}
use mathlib.Core.List.Memᴰ.{append_left as in_left}
use mathlib.Core.List.Memᴰ.{append_right as in_right}
use Prim.Native.Nat.{ℕ}
use lib.Dec.{eqb}
use lib.ListN.{length}
use borrow.Author.Tests.{eqb-true}
use Rattle.model.specs.Problems.{Problem}
use Rattle.model.specs.Vectors.{at_most, added}
use Rattle.model.specs.Costs.{is_choice, totals, costs_of}
use Rattle.model.specs.Frontiers.{consistent, Point, point, best, frontier_by, frontier, ReachedBy}
use Rattle.model.specs.Core.{with_ceilings}
use Rattle.model.specs.Cuts.{all_sides, sides_ok, uncrossed, on_side, half, merged, pair_of, pairs_with, all_pairs}
use Rattle.model.specs.Cuts.{cut_list}
use Rattle.model.proofs.Bits.{and_left, and_right, or-false, kept_cases, kept_here, kept_there}
use Rattle.model.proofs.Vectors.{AtMost, NotLater, at_most_test, at_most_trans}
use Rattle.model.proofs.Best.{AsGood, best_cover, best_good}
use Rattle.model.proofs.Sorting.{AllSized, best_right}
use Rattle.model.proofs.Choices.{choice_length}
use Rattle.model.proofs.Frontier.{costs_width, reached_width, reached_length, frontier_best, best_frontier}
use Rattle.model.proofs.Frontier.{Meets, consistent_free, consistent_within, consistent_test}
use Rattle.model.proofs.Sums.{added_length, added_left, added_right, added_mono, added_tie}
use Rattle.model.proofs.Sides.{Joined, joined, part_choice_lem, parts_order}
use Rattle.model.proofs.Halves.{costs_halves, meets_halves}

-- what stands among the pairs whose costs pass a test
abbrev Kept : (List ℕ → Bool) → Point → Point → Type 0
Kept keeps a b = keeps (added a.costs b.costs) ≡ true

module _ (keeps : List ℕ → Bool) (ss : List ℕ) where
  with_in : (a : Point) (bs : List Point) (p : Point) → In p (pairs_with keeps ss a bs)
      → (b : Point) × In b bs × (p ≡ pair_of ss a b) × Kept keeps a b
  unfolding pairs_with
  with_in a [] p m = absurd (in-none m)
  with_in a (b ∷ bs) p m =
      ⊎_elim
      (λ h. (b, here refl, h.0, h.1))
      (λ n. let (c, i, e, u) = with_in a bs p n in (c, there i, e, u))
      (kept_cases (keeps (added a.costs b.costs)) m)

  in_with : (a b : Point) (bs : List Point) → In b bs → Kept keeps a b → In (pair_of ss a b) (pairs_with keeps ss a bs)
  unfolding pairs_with
  in_with a b [] m u = absurd (in-none m)
  in_with a b (c ∷ bs) m u =
      ⊎_elim
      (λ (e : b ≡ c). subst (λ (t : Point). In (pair_of ss a t) (pairs_with keeps ss a (c ∷ bs))) (sym e)
      (kept_here (pair_of ss a c) (pairs_with keeps ss a bs) (subst (Kept keeps a) e u)))
      (λ n. kept_there (keeps (added a.costs c.costs)) (pair_of ss a c) (in_with a b bs n u))
      (in-cases m)

  pub pairs_in : (xs bs : List Point) (p : Point) → In p (all_pairs keeps ss xs bs)
      → (a : Point) × (b : Point) × In a xs × In b bs × (p ≡ pair_of ss a b) × Kept keeps a b
  unfolding all_pairs
  pairs_in [] bs p m = absurd (in-none m)
  pairs_in (a ∷ xs) bs p m =
      ⊎_elim
      (λ n. let (b, i, e, u) = with_in a bs p n in (a, b, here refl, i, e, u))
      (λ n. let (c, b, i, j, e, u) = pairs_in xs bs p n in (c, b, there i, j, e, u))
      (in-append (pairs_with keeps ss a bs) m)

  pub in_pairs : (a b : Point) (xs bs : List Point) → In a xs → In b bs → Kept keeps a b
      → In (pair_of ss a b) (all_pairs keeps ss xs bs)
  unfolding all_pairs
  in_pairs a b [] bs m n u = absurd (in-none m)
  in_pairs a b (c ∷ xs) bs m n u =
      ⊎_elim
      (λ (e : a ≡ c). in_left (all_pairs keeps ss xs bs)
      (subst (λ (t : Point). In (pair_of ss a b) (pairs_with keeps ss t bs)) e (in_with a b bs n u)))
      (λ i. in_right (pairs_with keeps ss c bs) (in_pairs a b xs bs i n u))
      (in-cases m)

pub sides_long : (q : Problem) (ss : List ℕ) → sides_ok q ss ≡ true → length q.domains ≡ length ss
unfolding sides_ok
sides_long q ss h =
    sym (eqb-true (length ss) (length q.domains) (and_left (eqb (length ss) (length q.domains)) (all_sides ss) h))

pub sides_all : (q : Problem) (ss : List ℕ) → sides_ok q ss ≡ true → all_sides ss ≡ true
unfolding sides_ok
sides_all q ss h = and_right (eqb (length ss) (length q.domains)) (all_sides ss) h

-- the sides and the costs do not depend on the ceilings
pub sides_with : (cs : List ℕ) (q : Problem) (ss : List ℕ) → sides_ok q ss ≡ true
    → sides_ok (with_ceilings cs q) ss ≡ true
unfolding sides_ok
sides_with cs q ss h = h

costs_with : (cs : List ℕ) (q : Problem) (x : List ℕ) → costs_of (with_ceilings cs q) x ≡ costs_of q x
unfolding costs_of totals
costs_with cs q x = refl

-- Tests that go together: of a problem's choices, of its halves' choices, and of the costs of pairs. The parts of a
-- choice that passes pass; parts that pass make one that passes if its costs do; and costs that are at most those of
-- a choice that passes do.
pub record Splits (q : Problem) (ss : List ℕ) (keeps whole : List ℕ → Bool) (part : ℕ → List ℕ → Bool) : Type 0 where
  pub apart : (z : List ℕ) → is_choice q.domains z ≡ true → whole z ≡ true
      → (part 0 (on_side 0 ss z) ≡ true) × (part 1 (on_side 1 ss z) ≡ true)
  pub together : (z : List ℕ) → is_choice q.domains z ≡ true → part 0 (on_side 0 ss z) ≡ true
      → part 1 (on_side 1 ss z) ≡ true → keeps (costs_of q z) ≡ true → whole z ≡ true
  pub lower : (c z : List ℕ) → length c ≡ q.objectives → AtMost c (costs_of q z) → whole z ≡ true → keeps c ≡ true

module _ (q : Problem) (ss : List ℕ) (sides : sides_ok q ss ≡ true) (free : uncrossed ss q.tables ≡ true) where
  all : all_sides ss ≡ true
  all = sides_all q ss sides

  long : length q.domains ≡ length ss
  long = sides_long q ss sides

  choice_long : (x : List ℕ) → is_choice q.domains x ≡ true → length x ≡ length ss
  choice_long x h = choice_length q.domains x h ∙ long

  -- the costs of a choice by its parts, whatever ceilings the halves have
  pub costs_parts : (hs z : List ℕ) → is_choice q.domains z ≡ true
      → costs_of q z
      ≡ added (costs_of (half 0 (with_ceilings hs q) ss) (on_side 0 ss z))
      (costs_of (half 1 (with_ceilings hs q) ss) (on_side 1 ss z))
  costs_parts hs z h =
      sym (costs_with hs q z) ∙ costs_halves (with_ceilings hs q) ss z all long (choice_long z h) free

  module _ (hs : List ℕ) (keeps whole : List ℕ → Bool) (test : ℕ → List ℕ → Bool) (split : Splits q ss keeps whole test)
    where
      abbrev half_of : ℕ → Problem
      half_of k = half k (with_ceilings hs q) ss

      abbrev ReachedIn : ℕ → Point → Type 0
      ReachedIn k = ReachedBy (test k) (half_of k)

      -- the list of a half
      abbrev list_of : ℕ → List Point
      list_of k = frontier_by (test k) (half_of k)

      listed : (k : ℕ) (a : Point) → In a (list_of k) → ReachedIn k a
      listed k a m = (frontier_best (half_of k)).listed.sound a m

      width : (k : ℕ) (a : Point) → ReachedIn k a → length a.costs ≡ q.objectives
      unfolding half
      width k a h = reached_width (half_of k) a h

      -- the choices of two halves' points make a choice
      join : (a b : Point) → ReachedIn 0 a → ReachedIn 1 b → Joined ss q.domains a.choice b.choice
      unfolding half
      join a b h k = joined ss q.domains a.choice b.choice all long h.complete k.complete

      -- points of the halves make a point of the problem
      pair_reached : (a b : Point) → ReachedIn 0 a → ReachedIn 1 b → Kept keeps a b → ReachedBy whole q (pair_of ss a b)
      pair_reached a b h k u =
          let j = join a b h k in
          let z = merged ss a.choice b.choice in
          let e : added a.costs b.costs ≡ costs_of q z = ap₂ added
          (h.exact ∙ sym (λ i. costs_of (half_of 0) (j.zero_part i)))
          (k.exact ∙ sym (λ i. costs_of (half_of 1) (j.one_part i)))
          ∙ sym (costs_parts hs z j.whole) in
          record {
            complete = j.whole;
            allowed =
                split.together z j.whole
                (ap (test 0) j.zero_part ∙ h.allowed) (ap (test 1) j.one_part ∙ k.allowed)
                (subst (λ (t : List ℕ). keeps t ≡ true) e u);
            exact = e;
          }

      -- the pairs of the halves' lists
      pairs : List Point
      pairs = all_pairs keeps ss (list_of 0) (list_of 1)

      pairs_reached : (p : Point) → In p pairs → ReachedBy whole q p
      unfolding pairs
      pairs_reached p m =
          let (a, b, i, j, e, u) = pairs_in keeps ss (list_of 0) (list_of 1) p m in
          subst (ReachedBy whole q) (sym e) (pair_reached a b (listed 0 a i) (listed 1 b j) u)

      pairs_sized : AllSized q.objectives (length q.domains) (all_pairs keeps ss (list_of 0) (list_of 1))
      unfolding pairs
      pairs_sized p m = let h = pairs_reached p m in (reached_width q p h, reached_length q p h)

      -- a point of the problem and its two parts
      module _ (p : Point) (h : ReachedBy whole q p) where
        abbrev part : ℕ → Point
        part k = let x = on_side k ss p.choice in point (costs_of (half_of k) x) x

        part_costs : p.costs ≡ added (part 0).costs (part 1).costs
        part_costs = h.exact ∙ costs_parts hs p.choice h.complete

        part_width : (k : ℕ) → length (part k).costs ≡ q.objectives
        unfolding half
        part_width k = costs_width (half_of k) (part k).choice

        part_reached : (k : ℕ) → test k (part k).choice ≡ true → ReachedIn k (part k)
        unfolding half
        part_reached k passes = record {
          complete = part_choice_lem k ss q.domains p.choice h.complete;
          allowed = passes;
          exact = refl;
        }

        -- the list of half k has a point as good as the part
        part_good : (k : ℕ) → test k (part k).choice ≡ true → (a : Point) × In a (list_of k) × AsGood a (part k)
        part_good k passes =
            best_good (ReachedIn k) (list_of k) (frontier_best (half_of k)) (part k) (part_reached k passes)

        pairs_cover : (r : Point) × In r pairs × AsGood r p
        unfolding pairs
        pairs_cover =
            let both = split.apart p.choice h.complete h.allowed in
            let (a, i, g) = part_good 0 both.0 in
            let (b, j, k) = part_good 1 both.1 in
            let wa : length a.costs ≡ q.objectives = width 0 a (listed 0 a i) in
            let wb : length b.costs ≡ q.objectives = width 1 b (listed 1 b j) in
            let less : AtMost (added a.costs b.costs) (added (part 0).costs (part 1).costs) =
            added_mono a.costs b.costs (part 0).costs (part 1).costs g.0 k.0 in
            let u : Kept keeps a b = split.lower (added a.costs b.costs) p.choice
            (added_length a.costs b.costs (wa ∙ sym wb) ∙ wa)
            (subst (AtMost (added a.costs b.costs)) (sym part_costs ∙ h.exact) less) h.allowed in
            let n = join a b (listed 0 a i) (listed 1 b j) in
            let order : added a.costs b.costs ≡ p.costs
            → NotLater (merged ss a.choice b.choice) p.choice =
            λ e. let (x, y) = added_tie q.objectives a.costs b.costs (part 0).costs (part 1).costs wa wb
            (part_width 0) (part_width 1) g.0 k.0 (e ∙ part_costs) in
            parts_order ss (merged ss a.choice b.choice) p.choice all
            (choice_long (merged ss a.choice b.choice) n.whole) (choice_long p.choice h.complete)
            (rw n.zero_part (g.1 x)) (rw n.one_part (k.1 y)) in (
              pair_of ss a b,
              in_pairs keeps ss a b (list_of 0) (list_of 1) i j u,
              (subst (AtMost (added a.costs b.costs)) (sym part_costs) less, order),
            )

      pub cut_best : best (all_pairs keeps ss (list_of 0) (list_of 1)) ≡ frontier_by whole q
      unfolding pairs
      cut_best =
          best_frontier q (best (all_pairs keeps ss (list_of 0) (list_of 1)))
          (best_cover q.objectives (λ p. In p pairs) (ReachedBy whole q)
          (best (all_pairs keeps ss (list_of 0) (list_of 1)))
          (reached_width q) pairs_reached pairs_cover
          (best_right q.objectives (length q.domains) pairs pairs_sized))

  -- The problem's own tests. Consistent parts meet no forbidden entry, so that of a pair the ceilings alone are asked.
  lower_within : (c z : List ℕ) → length c ≡ q.objectives → AtMost c (costs_of q z) → consistent q z ≡ true
      → at_most c q.ceilings ≡ true
  lower_within c z wide less h =
      at_most_test c q.ceilings
      (at_most_trans c (costs_of q z) q.ceilings (wide ∙ sym (costs_width q z)) less (consistent_within q z h))

  part_consistent : (k : ℕ) (z : List ℕ) → Meets (half k q ss) (on_side k ss z) ≡ false
      → AtMost (costs_of (half k q ss) (on_side k ss z)) (costs_of q z) → consistent q z ≡ true
      → consistent (half k q ss) (on_side k ss z) ≡ true
  unfolding half
  part_consistent k z none less h =
      let costs = costs_of (half k q ss) (on_side k ss z) in
      consistent_test (half k q ss) (on_side k ss z) none
      (lower_within costs z (costs_width (half k q ss) (on_side k ss z)) less h)

  consistent_parts : (z : List ℕ) → is_choice q.domains z ≡ true → consistent q z ≡ true
      → (consistent (half 0 q ss) (on_side 0 ss z) ≡ true) × (consistent (half 1 q ss) (on_side 1 ss z) ≡ true)
  consistent_parts z c h =
      let none = or-false (Meets (half 0 q ss) (on_side 0 ss z)) (Meets (half 1 q ss) (on_side 1 ss z))
      (sym (meets_halves q ss z all long (choice_long z c) free) ∙ consistent_free q z h) in
      let first = costs_of (half 0 q ss) (on_side 0 ss z) in
      let second = costs_of (half 1 q ss) (on_side 1 ss z) in
      let parts = sym (costs_parts q.ceilings z c) in (
        part_consistent 0 z none.0 (subst (AtMost first) parts (added_left first second)) h,
        part_consistent 1 z none.1 (subst (AtMost second) parts (added_right first second)) h,
      )

  consistent_splits : Splits q ss (λ c. at_most c q.ceilings) (consistent q) (λ k. consistent (half k q ss))
  consistent_splits =
      record {
        apart = consistent_parts;
        together =
            λ z c h k kept.
            consistent_test q z
            (meets_halves q ss z all long (choice_long z c) free
            ∙ ap₂ ◌||◌ (consistent_free (half 0 q ss) (on_side 0 ss z) h)
            (consistent_free (half 1 q ss) (on_side 1 ss z) k))
            kept;
        lower = lower_within;
      }

  -- demand 3
  pub cut_frontier : cut_list q ss ≡ frontier q
  unfolding cut_list
  cut_frontier =
      cut_best q.ceilings (λ c. at_most c q.ceilings) (consistent q) (λ k. consistent (half k q ss))
      consistent_splits
