-- The merge: the sums of the views' lists are the pairs of the halves' lists, and passes over any points list their
-- best ones.
use mathlib.Core.Path.{◌≡◌, refl, ap, ap₂, sym, ◌∙◌, subst}
use mathlib.Core.Logic.{◌⊎◌, inl, inr, ⊎_elim}
use mathlib.Core.Bool.{Bool, true, false}
use mathlib.Core.List.Memᴰ.{head as here}
use mathlib.Core.List.Memᴰ.{tail as there}
use mathlib.Core.List.{List, [], ◌∷◌, ◌++◌, Memᴰ as In}
use mathlib.Core.List.Memᴰ.{cases_cons as in-cases}
use mathlib.Core.List.Memᴰ.{not-nil as in-none}
use Prim.Native.Nat.{ℕ, ◌≤◌, ◌<◌}
use lib.ListN.{length}
use Rattle.model.specs.Basics.{pick, keep_if, All}
use Rattle.model.specs.Limits.{max_domain}
use Rattle.model.specs.Problems.{Problem, DomainSize}
use Rattle.model.specs.Vectors.{same, earlier, added}
use Rattle.model.specs.Costs.{is_choice}
use Rattle.model.specs.Frontiers.{Point, point, best}
use Rattle.model.specs.Core.{with_ceilings, under, core_frontier}
use Rattle.model.specs.Cuts.{sides_ok, uncrossed, on_side, half, merged, pairs_with, all_pairs}
use Rattle.model.specs.Search.{Held, nothing, just, matched}
use Rattle.model.specs.Views.{view, spread, spread_all}
use Rattle.model.specs.Merging.{sums_with, all_sums, ahead, nearer, least_left}
use Rattle.model.proofs.Bits.{true_false, not_true_false, and_left, and_right, and_both, or_cases, or_left}
use Rattle.model.proofs.Bits.{or_right, pick_both}
use Rattle.model.proofs.Vectors.{same_true, same_eq, earlier_true, not_earlier}
use Rattle.model.proofs.Points.{Within}
use Rattle.model.proofs.Best.{Pool, listed_count, best_unique}
use Rattle.model.proofs.Sorting.{Sized, AllSized, best_right}
use Rattle.model.proofs.Frontier.{frontier_best}
use Rattle.model.proofs.Spread.{spread_point, spread_merged, spread_small}
use Rattle.model.proofs.Cut.{sides_long, sides_all, sides_with}
use Rattle.model.proofs.CoreCut.{core_cut_best}
use Rattle.model.proofs.Views.{view_list, view_choice}
use Rattle.model.proofs.Passes.{NotAfter, not_after_refl, not_after_trans, Unmatched, matched_in}
use Rattle.model.proofs.Passes.{unmatched_false, Prefix, prefix_more, prefix_done}
use Rattle.model.proofs.Held.{Beyond}

-- sums of points spread out, where the choices' sum is the merged choice
module _ (q : Problem) (ss : List ℕ) where
  abbrev Adds : Point → Point → Type 0
  Adds a b = added (spread 0 ss a.choice) (spread 1 ss b.choice) ≡ merged ss a.choice b.choice

  -- the core's test of a sum
  abbrev keeps : List ℕ → Bool
  keeps c = under c q.ceilings

  sums_with_lem : (a : Point) (bs : List Point) → ((b : Point) → In b bs → Adds a b)
      → sums_with q.ceilings (spread_point 0 ss a) (spread_all 1 ss bs) ≡ pairs_with keeps ss a bs
  unfolding spread_all sums_with pairs_with
  sums_with_lem a [] h = refl
  sums_with_lem a (b ∷ bs) h =
      let c = added a.costs b.costs in
      ap₂ (λ z ps. keep_if (under c q.ceilings) (point c z) ps) (h b (here refl))
      (sums_with_lem a bs (λ r m. h r (there m)))

  sums_all : (xs bs : List Point) → ((a b : Point) → In a xs → In b bs → Adds a b)
      → all_sums q.ceilings (spread_all 0 ss xs) (spread_all 1 ss bs) ≡ all_pairs keeps ss xs bs
  unfolding spread_all all_sums all_pairs
  sums_all [] bs h = refl
  sums_all (a ∷ xs) bs h =
      ap₂ ◌++◌ (sums_with_lem a bs (λ b m. h a b (here refl) m)) (sums_all xs bs (λ c b m. h c b (there m)))

-- the sums of the views' lists, each under ceilings hs that the problem's own imply
module _ (q : Problem) (ss : List ℕ) (sides : sides_ok q ss ≡ true) (free : uncrossed ss q.tables ≡ true)
    (hs : List ℕ)
    (loose : (c : List ℕ) → under c q.ceilings ≡ true → under c hs ≡ true) where
  abbrev listed : ℕ → List Point
  listed k = core_frontier (half k (with_ceilings hs q) ss)

  abbrev seen : ℕ → List Point
  seen k = core_frontier (view k (with_ceilings hs q) ss)

  -- the sum of two halves' choices is the merged choice
  adds : (a b : Point) → In a (listed 0) → In b (listed 1) → Adds q ss a b
  unfolding half
  adds a b m n =
      let complete : (k : ℕ) (p : Point) → In p (listed k) → is_choice (on_side k ss q.domains) p.choice ≡ true =
      λ k p i. ((frontier_best (half k (with_ceilings hs q) ss)).listed.sound p i).complete in
      spread_merged ss q.domains a.choice b.choice (sides_all q ss sides) (sides_long q ss sides)
      (complete 0 a m) (complete 1 b n)

  pub sums_pairs : all_sums q.ceilings (seen 0) (seen 1) ≡ all_pairs (keeps q ss) ss (listed 0) (listed 1)
  sums_pairs =
      let each : (k : ℕ) → seen k ≡ spread_all k ss (listed k) =
      view_list (with_ceilings hs q) ss (sides_with hs q ss sides) free in
      ap₂ (all_sums q.ceilings) (each 0) (each 1) ∙ sums_all q ss (listed 0) (listed 1) adds

  pub sums_best : best (all_sums q.ceilings (seen 0) (seen 1)) ≡ core_frontier q
  sums_best = ap best sums_pairs ∙ core_cut_best q ss sides free hs loose

-- the values of a summed choice are values of domains, so they fit bytes
pub sums_bytes : (q : Problem) (ss : List ℕ) → All DomainSize q.domains → (a b : Point)
    → In a (core_frontier (view 0 q ss)) → In b (core_frontier (view 1 q ss))
    → All (λ v. v < max_domain) (added a.choice b.choice)
sums_bytes q ss w a b m n =
    spread_small ss q.domains a.choice b.choice w (view_choice q ss 0 a m) (view_choice q ss 1 b n)

-- list order, by its test
ahead_true : (x w : Point) → ahead x w ≡ true → NotAfter x w
ahead_true x w h =
    ⊎_elim
    (λ t. inl (earlier_true x.costs w.costs t))
    (λ t. inr (
      same_true x.costs w.costs (and_left (same x.costs w.costs) _ t),
      inr (earlier_true x.choice w.choice (and_right (same x.costs w.costs) _ t)),
    ))
    (or_cases (earlier x.costs w.costs) _ h)

ahead_false : (p n : ℕ) (x w : Point) → Sized p n x → Sized p n w → ahead x w ≡ false → NotAfter w x
ahead_false p n x w hx hw h =
    ⊎_elim
    (λ (e : w.costs ≡ x.costs). inr (
      e,
      not_earlier x.choice w.choice (hx.1 ∙ sym hw.1)
          (not_true_false (earlier x.choice w.choice)
          (λ t. true_false (or_right (earlier x.costs w.costs) (and_both (same_eq (sym e)) t)) h)),
    ))
    (λ l. inl l)
    (not_earlier x.costs w.costs (hx.0 ∙ sym hw.0)
    (not_true_false (earlier x.costs w.costs) (λ t. true_false (or_left _ t) h)))

-- passes over the points of a list
module _ (p n : ℕ) (xs : List Point) (sized : AllSized p n xs) where
  abbrev Among : Pool
  Among r = In r xs

  module _ (ps : List Point) where
    -- the points that the list ps does not match, and the one held as one of them
    abbrev Left : Pool
    Left = Unmatched Among ps

    abbrev Inside : Held → Type 0
    Inside nothing = Unit {0}
    Inside (just w) = Left w

    -- a pass with the points ys still to come: each unmatched point is one of them or beyond the one held
    record Pending (ys : List Point) (h : Held) : Type 0 where
      inside : Inside h
      others : (r : Point) → Left r → In r ys ⊎ Beyond h r

    -- the next point is held if it comes before the one held
    nearer_inside : (x : Point) → Left x → (h : Held) → Inside h → Inside (nearer x h)
    unfolding nearer
    nearer_inside x u nothing i = u
    nearer_inside x u (just w) i = pick_both Inside (ahead x w) u i

    nearer_self : (x : Point) → Left x → (h : Held) → Inside h → Beyond (nearer x h) x
    unfolding nearer
    nearer_self x u nothing i = not_after_refl x
    nearer_self x u (just w) i = go (ahead x w) refl
      where
        go : (b : Bool) → ahead x w ≡ b → Beyond (pick b (just x) (just w)) x
        go true e = not_after_refl x
        go false e = ahead_false p n x w (sized x u.0) (sized w i.0) e

    nearer_keeps : (x : Point) (h : Held) (r : Point) → Beyond h r → Beyond (nearer x h) r
    unfolding nearer
    nearer_keeps x nothing r k = absurd k
    nearer_keeps x (just w) r k = go (ahead x w) refl
      where
        go : (b : Bool) → ahead x w ≡ b → Beyond (pick b (just x) (just w)) r
        go true e = not_after_trans x w r (ahead_true x w e) k
        go false e = k

    -- one point: g is held after h, and x and all that was beyond h are beyond g
    next : (x : Point) (ys : List Point) (h g : Held) → Inside g → (Left x → Beyond g x)
        → ((r : Point) → Beyond h r → Beyond g r) → Pending (x ∷ ys) h → Pending ys g
    next x ys h g i self keeps k =
        record {
          inside = i;
          others =
              λ r u. ⊎_elim (λ m.
              ⊎_elim (λ (e : r ≡ x). inr (subst (Beyond g) (sym e) (self (subst Left e u)))) (λ j. inl j) (in-cases m))
              (λ b. inr (keeps r b)) (k.others r u);
        }

    point_met : (x : Point) (ys : List Point) → Among x → (h : Held) → Pending (x ∷ ys) h
        → Pending ys (pick (matched x.costs ps) h (nearer x h))
    point_met x ys m h k = go (matched x.costs ps) refl
      where
        go : (b : Bool) → matched x.costs ps ≡ b → Pending ys (pick b h (nearer x h))
        go true e = next x ys h h k.inside (λ u. absurd (u.1 (matched_in x ps e))) (λ r b. b) k
        go false e =
            let u : Left x = (m, unmatched_false x ps e) in
            next x ys h (nearer x h) (nearer_inside x u h k.inside) (λ v. nearer_self x v h k.inside)
            (nearer_keeps x h) k

    points_met : (ys : List Point) → Within ys xs → (h : Held) → Pending ys h → Pending [] (least_left ps ys h)
    unfolding least_left
    points_met [] w h k = k
    points_met (x ∷ ys) w h k =
        points_met ys (λ r m. w r (there m)) (pick (matched x.costs ps) h (nearer x h))
        (point_met x ys (w x (here refl)) h k)

    -- a whole pass
    pass_over : (h : Held) → least_left ps xs nothing ≡ h → Inside h × ((r : Point) → Left r → Beyond h r)
    pass_over h e =
        let k : Pending [] h = subst (Pending []) e
        (points_met xs (λ r m. m) nothing (record { inside = tt; others = λ r u. inl u.0 })) in
        (k.inside, λ r u. ⊎_elim (λ m. absurd (in-none m)) (λ b. b) (k.others r u))

    module _ (f : Prefix (λ r. In r xs) ps) where
      -- the one held at its end is the next of the best points
      pub merge_some : (x : Point) → least_left ps xs nothing ≡ just x → Prefix (λ r. In r xs) (ps ++ (x ∷ []))
      merge_some x e =
          let k = pass_over (just x) e in
          prefix_more p Among (λ r m. (sized r m).0) ps x f (record { inside = k.0; least = k.1 })

      -- nothing held: they are all listed
      pub merge_none : least_left ps xs nothing ≡ nothing → ps ≡ best xs
      merge_none e =
          best_unique Among ps (best xs) (prefix_done Among ps f (pass_over nothing e).1) (best_right p n xs sized)

      pub merge_count : length ps ≤ length (best xs)
      merge_count = listed_count Among ps (best xs) f.listed (best_right p n xs sized)
