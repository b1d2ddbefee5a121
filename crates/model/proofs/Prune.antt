-- The bound is a sound rule: a branch may be left unopened, where its bound is over a ceiling, or matched, or not
-- earlier than the costs held.
use mathlib.Core.Path.{◌≡◌, refl, sym, ◌∙◌, subst}
use mathlib.Core.Logic.{inl, inr, ⊎_elim}
use mathlib.Core.Bool.{true, false, ◌||◌, not}
use mathlib.Core.List.{List, []}
use Prim.Native.Nat.{ℕ}
use lib.ListN.{length}
use borrow.Author.Tests.{not-true}
use Rattle.model.specs.Problems.{Problem}
use Rattle.model.specs.Vectors.{earlier}
use Rattle.model.specs.Costs.{costs_of}
use Rattle.model.specs.Frontiers.{Point, point}
use Rattle.model.specs.Core.{under, CoreReached}
use Rattle.model.specs.Bounds.{bound_of}
use Rattle.model.specs.Search.{Held, nothing, just, matched, late, dead, passes, solved}
use Rattle.model.proofs.Bits.{true_false, or_cases}
use Rattle.model.proofs.Vectors.{AtMost, Earlier, NotLater, not_earlier, not_later_trans, at_most_trans}
use Rattle.model.proofs.Vectors.{at_most_not_later}
use Rattle.model.proofs.Sums.{under_mono}
use Rattle.model.proofs.Frontier.{reached_width}
use Rattle.model.proofs.Core.{core_under}
use Rattle.model.proofs.Passes.{NotAfter, matched_in, Prefix}
use Rattle.model.proofs.Tree.{From, Completes, completes_agrees, earlier_completes}
use Rattle.model.proofs.Held.{Beyond}
use Rattle.model.proofs.Search.{Left, Before, Sound, search_right}
use Rattle.model.proofs.Bounded.{bound_length, bound_at_most}

-- a vector for each prefix that no choice that goes on from there undercuts
pub record Lower (q : Problem) (low : List ℕ → List ℕ) : Type 0 where
  pub width : (pre y : List ℕ) → From q.domains pre y → length (low pre) ≡ q.objectives
  pub below : (pre y : List ℕ) → From q.domains pre y → AtMost (low pre) (costs_of q y)

-- a vector b that the point r does not undercut
module _ (q : Problem) (ps : List Point) (f : Prefix (CoreReached q) ps) (b : List ℕ) (wide : length b ≡ q.objectives)
    (r : Point) (u : Left q ps r) (low : AtMost b r.costs) where
  same_width : length b ≡ length r.costs
  same_width = wide ∙ sym (reached_width q r u.0)

  over_none : under b q.ceilings ≡ false → ⊥
  over_none o = true_false (under_mono b r.costs q.ceilings same_width low (core_under q r u.0)) o

  matched_none : matched b ps ≡ true → ⊥
  matched_none m =
      let (p, i, a) = matched_in (point b []) ps m in
      u.1 (p, i, at_most_trans p.costs b r.costs (reached_width q p (f.listed.sound p i) ∙ sym wide) a low)

  late_beyond : (h : Held) → late h b ≡ true
      → ((x : Point) → h ≡ just x → (length x.costs ≡ q.objectives) × Earlier x.choice r.choice) → Beyond h r
  unfolding late
  late_beyond nothing t e = true_false t refl
  late_beyond (just x) t e =
      go (not_later_trans x.costs b r.costs
      (not_earlier b x.costs (wide ∙ sym (e x refl).0) (not-true (earlier b x.costs) t))
      (at_most_not_later b r.costs same_width low))
    where
      go : NotLater x.costs r.costs → NotAfter x r
      go (inl k) = inr (k, inr (e x refl).1)
      go (inr k) = inl k

  dead_beyond : (h : Held) → dead q ps h b ≡ true
      → ((x : Point) → h ≡ just x → (length x.costs ≡ q.objectives) × Earlier x.choice r.choice) → Beyond h r
  unfolding dead
  dead_beyond h d e =
      ⊎_elim
      (λ t. absurd (over_none (not-true (under b q.ceilings) t)))
      (λ t. ⊎_elim (λ m. absurd (matched_none m)) (λ m. late_beyond h m e) (or_cases (matched b ps) (late h b) t))
      (or_cases (not (under b q.ceilings)) (matched b ps || late h b) d)

-- the point held is reached, and its choice is before all that goes on from the prefix
held_earlier : (q : Problem) (ps : List Point) (pre : List ℕ) (h : Held) → Before q ps pre h → (y : List ℕ)
    → Completes pre y → (x : Point) → h ≡ just x → (length x.costs ≡ q.objectives) × Earlier x.choice y
held_earlier q ps pre h k y c x e = go (subst (Before q ps pre) e k)
  where
    go : Before q ps pre (just x) → (length x.costs ≡ q.objectives) × Earlier x.choice y
    go g = (reached_width q x g.inside.0.0, earlier_completes pre x.choice y g.inside.1.1 c)

-- such vectors make a sound rule
pub lower_sound : (q : Problem) (low : List ℕ → List ℕ) → Lower q low → Sound q (λ ps pre h. dead q ps h (low pre))
lower_sound q low l ps f pre h d k r s =
    dead_beyond q ps f (low pre) (l.width pre r.choice s.1) r s.0
    (subst (AtMost (low pre)) (sym s.0.0.exact) (l.below pre r.choice s.1))
    h d (held_earlier q ps pre h k r.choice s.1.1)

-- the bound of a prefix (reference, section 9) is such a vector
pub bound_lower : (q : Problem) → Lower q (bound_of q)
bound_lower q = record {
  width = λ pre y t. bound_length q pre;
  below = λ pre y t. bound_at_most q pre y t.0 (completes_agrees pre y t.1);
}

-- branch and bound gives the frontier, or finds it longer than the room
pub bounded_search_right : (q : Problem) (room : ℕ)
    → passes room q (λ ps pre h. dead q ps h (bound_of q pre)) [] ≡ solved q room
bounded_search_right q room =
    search_right q (λ ps pre h. dead q ps h (bound_of q pre)) (lower_sound q (bound_of q) (bound_lower q)) room
