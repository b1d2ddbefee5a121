-- Demand 2: the frontier is the one list that Is-frontier describes, for every problem; and its costs fit their
-- ceilings' type. What is said of lists and points holds for any test of choices.
use mathlib.Core.Path.{◌≡◌, refl, ap, ap₂, sym, ◌∙◌, subst}
use mathlib.Core.Logic.{inl}
use mathlib.Core.Bool.{Bool, true, false, not}
use mathlib.Core.List.Memᴰ.{head as here}
use mathlib.Core.List.Memᴰ.{tail as there}
use mathlib.Core.List.{List, [], ◌∷◌, Memᴰ as In}
use Prim.Native.Nat.{ℕ}
use native.Mathlib.Omega.{arith}
use lib.ListN.{length}
use borrow.Author.Tests.{not-true}
use Rattle.model.specs.Basics.{All}
use Rattle.model.specs.Problems.{Problem, Word, RecordRules}
use Rattle.model.specs.Vectors.{at_most, beats}
use Rattle.model.specs.Costs.{is_choice, cost_of, meets_forbidden, costs_of}
use Rattle.model.specs.Frontiers.{consistent, Point, point, best, choices, points_by, frontier_by, frontier}
use Rattle.model.specs.Frontiers.{ReachedBy, Reached, IsFrontier}
use Rattle.model.proofs.Bits.{not_true_false, and_left, and_right, and_both}
use Rattle.model.proofs.Vectors.{AtMost, at_most_true, at_most_test, at_most_refl, beats_true, beats_false}
use Rattle.model.proofs.Vectors.{not_earlier, later_false}
use Rattle.model.proofs.Points.{rising_true, rising_test}
use Rattle.model.proofs.Best.{Best, best_unique, best_cover}
use Rattle.model.proofs.Sorting.{AllSized, best_right}
use Rattle.model.proofs.Totals.{totals_length}
use Rattle.model.proofs.Choices.{in_choices, choices_in_lem, choice_length, in_points, points_in_lem}

pub costs_width : (q : Problem) (x : List ℕ) → length (costs_of q x) ≡ q.objectives
unfolding costs_of
costs_width q x = totals_length q (cost_of q.domains x)

-- the choices that pass a test: the list of all their points
abbrev all_by : (List ℕ → Bool) → Problem → List Point
all_by test q = points_by test q (choices q.domains)

module _ {test : List ℕ → Bool} (q : Problem) where
  pub reached_width : (p : Point) → ReachedBy test q p → length p.costs ≡ q.objectives
  reached_width p h = ap length h.exact ∙ costs_width q p.choice

  pub reached_length : (p : Point) → ReachedBy test q p → length p.choice ≡ length q.domains
  reached_length p h = choice_length q.domains p.choice h.complete

  -- a complete choice that passes is reached with its costs
  pub reached_choice : (x : List ℕ) → is_choice q.domains x ≡ true → test x ≡ true
      → ReachedBy test q (point (costs_of q x) x)
  reached_choice x h c = record { complete = h; allowed = c; exact = refl }

  all_reached : (p : Point) → In p (all_by test q) → ReachedBy test q p
  all_reached p m =
      let h = in_points test q (choices q.domains) p m in
      record { complete = choices_in_lem q.domains p.choice h.0; allowed = h.1; exact = h.2 }

  reached_all : (p : Point) → ReachedBy test q p → In p (all_by test q)
  reached_all p h =
      subst (λ (c : List ℕ). In (point c p.choice) (all_by test q)) (sym h.exact)
      (points_in_lem test q (choices q.domains) p.choice (in_choices q.domains p.choice h.complete)
      h.allowed)

  pub frontier_best : Best (ReachedBy test q) (frontier_by test q)
  unfolding frontier_by
  frontier_best =
      let sized : AllSized q.objectives (length q.domains) (all_by test q) =
      λ p m. let h = all_reached p m in (reached_width p h, reached_length p h) in
      best_cover q.objectives (λ p. In p (all_by test q)) (ReachedBy test q) (frontier_by test q) reached_width
      all_reached (λ p h. (p, reached_all p h, (at_most_refl p.costs, λ e. inl refl)))
      (best_right q.objectives (length q.domains) (all_by test q) sized)

  pub best_frontier : (ps : List Point) → Best (ReachedBy test q) ps → ps ≡ frontier_by test q
  best_frontier ps b = best_unique (ReachedBy test q) ps (frontier_by test q) b frontier_best

-- two problems over the same domains whose tests agree on all choices, and whose costs do on those that pass
module _ (f g : List ℕ → Bool) (q r : Problem) where
  points_agree : (xs : List (List ℕ)) → ((x : List ℕ) → In x xs → f x ≡ g x)
      → ((x : List ℕ) → In x xs → f x ≡ true → costs_of q x ≡ costs_of r x) → points_by f q xs ≡ points_by g r xs
  unfolding points_by
  points_agree [] same costs = refl
  points_agree (x ∷ xs) same costs =
      first (f x) refl (same x (here refl)) (points_agree xs (λ y m. same y (there m)) (λ y m. costs y (there m)))
    where
      first : (b : Bool) → f x ≡ b → f x ≡ g x → points_by f q xs ≡ points_by g r xs
          → points_by f q (x ∷ xs) ≡ points_by g r (x ∷ xs)
      first true e s rest =
          rw (← s, e) (ap₂ (λ c ps. point c x ∷ ps) (costs x (here refl) e) rest)
      first false e s rest = rw (← s, e) rest

  pub frontier_agrees : q.domains ≡ r.domains → ((x : List ℕ) → is_choice q.domains x ≡ true → f x ≡ g x)
      → ((x : List ℕ) → is_choice q.domains x ≡ true → f x ≡ true → costs_of q x ≡ costs_of r x)
      → frontier_by f q ≡ frontier_by g r
  unfolding frontier_by
  frontier_agrees sizes same costs =
      let ds = q.domains in
      ap best
      (points_agree (choices ds) (λ x m. same x (choices_in_lem ds x m)) (λ x m. costs x (choices_in_lem ds x m)))
      ∙ ap (λ (es : List ℕ). best (points_by g r (choices es))) sizes

-- what it is to be consistent: no forbidden entry is met, and the ceilings are kept
abbrev pub Meets : Problem → List ℕ → Bool
Meets q x = meets_forbidden (cost_of q.domains x) q.tables

module _ (q : Problem) (x : List ℕ) where
  pub consistent_free : consistent q x ≡ true → Meets q x ≡ false
  unfolding consistent
  consistent_free h = not-true (Meets q x) (and_left (not (Meets q x)) _ h)

  pub consistent_within : consistent q x ≡ true → AtMost (costs_of q x) q.ceilings
  unfolding consistent
  consistent_within h = at_most_true (costs_of q x) q.ceilings (and_right (not (Meets q x)) _ h)

  pub consistent_test : Meets q x ≡ false → at_most (costs_of q x) q.ceilings ≡ true → consistent q x ≡ true
  unfolding consistent
  consistent_test none kept = and_both (ap not none) kept

-- the consistent choices
module _ (q : Problem) where
  -- Is-frontier says Best, in tests
  pub best_is_frontier : (ps : List Point) → Best (Reached q) ps → IsFrontier q ps
  best_is_frontier ps b =
      record {
        reached = b.listed.sound;
        none_beats =
            λ p r m h. not_true_false (beats r.costs p.costs) (λ t.
            let d = beats_true r.costs p.costs t in
            d.1 (b.listed.unbeaten p r m h d.0));
        all_matched = λ r h. let (p, m, a) = b.matched r h in (p, m, at_most_test p.costs r.costs a);
        in_order = rising_test ps b.listed.order;
        earliest = λ p r m h e. later_false p.choice r.choice (b.listed.earliest p r m h e);
      }

  pub is_frontier_best : (ps : List Point) → IsFrontier q ps → Best (Reached q) ps
  is_frontier_best ps f =
      record {
        listed = record {
          sound = f.reached;
          unbeaten = λ p r m h a. beats_false r.costs p.costs (f.none_beats p r m h) a;
          order = rising_true ps f.in_order;
          earliest =
              λ p r m h e. not_earlier r.choice p.choice
              (reached_length q r h ∙ sym (reached_length q p (f.reached p m))) (f.earliest p r m h e);
        };
        matched = λ r h. let (p, m, a) = f.all_matched r h in (p, m, at_most_true p.costs r.costs a);
      }

  -- demand 2
  pub frontier_right : IsFrontier q (frontier q)
  frontier_right = best_is_frontier (frontier q) (frontier_best q)

  -- the frontier is the only such list
  pub frontier_unique : (ps rs : List Point) → IsFrontier q ps → IsFrontier q rs → ps ≡ rs
  frontier_unique ps rs f g = best_unique (Reached q) ps rs (is_frontier_best ps f) (is_frontier_best rs g)

  -- reached costs are at most their ceilings, listed ones among them
  pub reached_within : (p : Point) → Reached q p → AtMost p.costs q.ceilings
  reached_within p h =
      subst (λ (c : List ℕ). AtMost c q.ceilings) (sym h.exact) (consistent_within q p.choice h.allowed)

  pub listed_within : (p : Point) → In p (frontier q) → AtMost p.costs q.ceilings
  listed_within p m = reached_within p ((frontier_best q).listed.sound p m)

-- what is at most numbers of four bytes has four bytes
at_most_words : (xs cs : List ℕ) → length xs ≡ length cs → AtMost xs cs → All Word cs → All Word xs
at_most_words [] cs e u w = tt
at_most_words (x ∷ xs) [] e u w = absurd (omega arith)
at_most_words (x ∷ xs) (c ∷ cs) e u w = (omega (arith, u.0, w.0), at_most_words xs cs (omega arith) u.1 w.1)

-- so that listed costs fit 32 bits
pub listed_words : (q : Problem) → RecordRules q → (p : Point) → In p (frontier q) → All Word p.costs
listed_words q rules p m =
    at_most_words p.costs q.ceilings
    (reached_width q p ((frontier_best q).listed.sound p m) ∙ sym rules.ceiling_each) (listed_within q p m)
    rules.ceiling_words
