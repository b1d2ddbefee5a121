-- Making the best points of a pool one by one: each pass adds the least point that the list does not match yet.
use mathlib.Core.Path.{◌≡◌, refl, sym, ◌∙◌, subst}
use mathlib.Core.Logic.{◌⊎◌, inl, inr, ⊎_elim}
use mathlib.Core.Bool.{true, false}
use mathlib.Core.List.Memᴰ.{head as here}
use mathlib.Core.List.Memᴰ.{tail as there}
use mathlib.Core.List.{List, [], ◌∷◌, ◌++◌, Memᴰ as In}
use mathlib.Core.List.Memᴰ.{cases_cons as in-cases}
use mathlib.Core.List.Memᴰ.{not-nil as in-none}
use mathlib.Core.List.Memᴰ.{append_cases as in-append}
use mathlib.Core.List.Memᴰ.{eq_of_singleton as in_one}
use mathlib.Core.List.Memᴰ.{append_left as in_left}
use mathlib.Core.List.Memᴰ.{append_right as in_right}
use Prim.Native.Nat.{ℕ, ◌≤◌}
use lib.ListN.{length}
use Rattle.model.specs.Problems.{Problem}
use Rattle.model.specs.Vectors.{at_most, same}
use Rattle.model.specs.Frontiers.{Point}
use Rattle.model.specs.Core.{core_frontier, CoreReached}
use Rattle.model.specs.Search.{matched}
use Rattle.model.proofs.Bits.{test, true_false, or_cases, or_left, or_right}
use Rattle.model.proofs.Vectors.{AtMost, Earlier, NotLater, same_true, same_eq, earlier_irrefl, earlier_trans}
use Rattle.model.proofs.Vectors.{not_later_trans, at_most_true, at_most_test, at_most_trans, at_most_refl}
use Rattle.model.proofs.Vectors.{at_most_earlier}
use Rattle.model.proofs.Points.{Rising}
use Rattle.model.proofs.Best.{Pool, Listed, Best, Matched, listed_count}
use Rattle.model.proofs.Frontier.{reached_width, frontier_best, best_frontier}

-- list order: costs first, then choice
abbrev pub NotAfter : Point → Point → Type 0
NotAfter x r = Earlier x.costs r.costs ⊎ ((x.costs ≡ r.costs) × NotLater x.choice r.choice)

pub not_after_refl : (x : Point) → NotAfter x x
not_after_refl x = inr (refl, inl refl)

pub not_after_trans : (x w r : Point) → NotAfter x w → NotAfter w r → NotAfter x r
not_after_trans x w r (inl h) (inl k) = inl (earlier_trans x.costs w.costs r.costs h k)
not_after_trans x w r (inl h) (inr k) = inl (subst (Earlier x.costs) k.0 h)
not_after_trans x w r (inr h) (inl k) = inl (subst (λ (c : List ℕ). Earlier c r.costs) (sym h.0) k)
not_after_trans x w r (inr h) (inr k) =
    inr (h.0 ∙ k.0, not_later_trans x.choice w.choice r.choice h.1 k.1)

not_after_costs : (x r : Point) → NotAfter x r → Earlier r.costs x.costs → ⊥
not_after_costs x r (inl h) k = earlier_irrefl x.costs (earlier_trans x.costs r.costs x.costs h k)
not_after_costs x r (inr h) k = earlier_irrefl x.costs (subst (λ (c : List ℕ). Earlier c x.costs) (sym h.0) k)

not_after_choice : (x r : Point) → NotAfter x r → r.costs ≡ x.costs → NotLater x.choice r.choice
not_after_choice x r (inl h) e = absurd (earlier_irrefl x.costs (subst (Earlier x.costs) e h))
not_after_choice x r (inr h) e = h.1

-- the points of a pool that a list does not match, and the least point of a pool in list order
abbrev pub Unmatched : Pool → List Point → Pool
Unmatched P ps r = P r × (Matched ps r → ⊥)

pub record Least (C : Pool) (x : Point) : Type 0 where
  pub inside : C x
  pub least : (r : Point) → C r → NotAfter x r

pub matched_in : (r : Point) (ps : List Point) → matched r.costs ps ≡ true → Matched ps r
unfolding matched
matched_in r [] h = absurd (true_false h refl)
matched_in r (p ∷ ps) h =
    ⊎_elim
    (λ t. (p, here refl, at_most_true p.costs r.costs t))
    (λ t. let (s, m, a) = matched_in r ps t in (s, there m, a))
    (or_cases (at_most p.costs r.costs) (matched r.costs ps) h)

pub in_matched : (r : Point) (ps : List Point) (p : Point) → In p ps → AtMost p.costs r.costs
    → matched r.costs ps ≡ true
unfolding matched
in_matched r [] p m a = absurd (in-none m)
in_matched r (s ∷ ps) p m a =
    ⊎_elim
    (λ (e : p ≡ s). or_left (matched r.costs ps)
    (at_most_test s.costs r.costs (subst (λ (t : Point). AtMost t.costs r.costs) e a)))
    (λ n. or_right (at_most s.costs r.costs) (in_matched r ps p n a))
    (in-cases m)

pub unmatched_false : (r : Point) (ps : List Point) → matched r.costs ps ≡ false → Matched ps r → ⊥
unmatched_false r ps h m = true_false (in_matched r ps m.0 m.1 m.2) h

-- the first few best points: what they do not match comes later
pub record Prefix (P : Pool) (ps : List Point) : Type 0 where
  pub listed : Listed P ps
  pub later : (p r : Point) → In p ps → Unmatched P ps r → Earlier p.costs r.costs

pub prefix_none : (P : Pool) → Prefix P []
prefix_none P = record {
  listed = record {
    sound = λ p m. absurd (in-none m);
    unbeaten = λ p r m h a. absurd (in-none m);
    order = tt;
    earliest = λ p r m h e. absurd (in-none m);
  };
  later = λ p r m u. absurd (in-none m);
}

rising_end : (ps : List Point) (x : Point) → Rising ps → ((p : Point) → In p ps → Earlier p.costs x.costs)
    → Rising (ps ++ (x ∷ []))
rising_end [] x h b = (λ r m. absurd (in-none m), tt)
rising_end (p ∷ ps) x h b = (
  λ r m. ⊎_elim (λ n. h.0 r n) (λ n. let e : r ≡ x = in_one n in rw e (b p (here refl))) (in-append ps m),
  rising_end ps x h.1 (λ r m. b r (there m)),
)

matched_left : (ps rs : List Point) (r : Point) → Matched ps r → Matched (ps ++ rs) r
matched_left ps rs r h = (h.0, in_left rs h.1, h.2)

-- the least unmatched point is the next one
module _ (n : ℕ) (P : Pool) (wide : (p : Point) → P p → length p.costs ≡ n) (ps : List Point) (x : Point)
    (f : Prefix P ps) (g : Least (Unmatched P ps) x) where
  cases : {p : Point} → In p (ps ++ (x ∷ [])) → In p ps ⊎ (p ≡ x)
  cases m = ⊎_elim (λ i. inl i) (λ i. inr (in_one i)) (in-append ps m)

  -- what is at most x is not matched before x, so it does not come before x
  fresh : (r : Point) → P r → AtMost r.costs x.costs → NotAfter x r
  fresh r h a =
      g.least r (
        h,
        λ t. g.inside.1 (
          t.0,
          t.1,
          at_most_trans t.0.costs r.costs x.costs
              (wide t.0 (f.listed.sound t.0 t.1) ∙ sym (wide r h)) t.2 a,
        ),
      )

  sound : (p : Point) → In p (ps ++ (x ∷ [])) → P p
  sound p m = ⊎_elim (λ i. f.listed.sound p i) (λ e. subst P (sym e) g.inside.0) (cases m)

  new_unbeaten : (r : Point) → P r → AtMost r.costs x.costs → r.costs ≡ x.costs
  new_unbeaten r h a =
      let e : length r.costs ≡ length x.costs = wide r h ∙ sym (wide x g.inside.0) in
      ⊎_elim (λ s. same_true r.costs x.costs s)
      (λ s. absurd
      (not_after_costs x r (fresh r h a) (at_most_earlier r.costs x.costs e a (λ d. true_false (same_eq d) s))))
      (test (same r.costs x.costs))

  unbeaten : (p r : Point) → In p (ps ++ (x ∷ [])) → P r → AtMost r.costs p.costs → r.costs ≡ p.costs
  unbeaten p r m h =
      ⊎_elim (λ i. f.listed.unbeaten p r i h)
      (λ e. subst (λ (t : Point). AtMost r.costs t.costs → r.costs ≡ t.costs) (sym e) (new_unbeaten r h))
      (cases m)

  new_earliest : (r : Point) → P r → r.costs ≡ x.costs → NotLater x.choice r.choice
  new_earliest r h e =
      not_after_choice x r (fresh r h (subst (λ (c : List ℕ). AtMost c x.costs) (sym e) (at_most_refl x.costs))) e

  earliest : (p r : Point) → In p (ps ++ (x ∷ [])) → P r → r.costs ≡ p.costs → NotLater p.choice r.choice
  earliest p r m h =
      ⊎_elim (λ i. f.listed.earliest p r i h)
      (λ e. subst (λ (t : Point). r.costs ≡ t.costs → NotLater t.choice r.choice) (sym e) (new_earliest r h))
      (cases m)

  still_unmatched : (r : Point) → Unmatched P (ps ++ (x ∷ [])) r → Unmatched P ps r
  still_unmatched r u = (u.0, λ t. u.1 (matched_left ps (x ∷ []) r t))

  new_later : (r : Point) → Unmatched P (ps ++ (x ∷ [])) r → Earlier x.costs r.costs
  new_later r u =
      ⊎_elim
      (λ k. k)
      (λ k. absurd (u.1 (x, in_right ps (here refl), subst (AtMost x.costs) k.0 (at_most_refl x.costs))))
      (g.least r (still_unmatched r u))

  later : (p r : Point) → In p (ps ++ (x ∷ [])) → Unmatched P (ps ++ (x ∷ [])) r → Earlier p.costs r.costs
  later p r m u =
      ⊎_elim (λ i. f.later p r i (still_unmatched r u))
      (λ e. subst (λ (t : Point). Earlier t.costs r.costs) (sym e) (new_later r u)) (cases m)

  pub prefix_more : Prefix P (ps ++ (x ∷ []))
  prefix_more = record {
    listed = record {
      sound = sound;
      unbeaten = unbeaten;
      order = rising_end ps x f.listed.order (λ p m. f.later p x m g.inside);
      earliest = earliest;
    };
    later = later;
  }

-- none left: the list has them all
pub prefix_done : (P : Pool) (ps : List Point) → Prefix P ps → ((r : Point) → Unmatched P ps r → ⊥) → Best P ps
prefix_done P ps f none = record {
  listed = f.listed;
  matched =
      λ r h.
      ⊎_elim (λ t. matched_in r ps t) (λ t. absurd (none r (h, unmatched_false r ps t))) (test (matched r.costs ps));
}

-- the laws of the search, of a problem's reached points
module _ (q : Problem) (ps : List Point) (f : Prefix (CoreReached q) ps) where
  -- the next point in list order is the least unmatched one
  pub next_point : (x : Point) → Least (Unmatched (CoreReached q) ps) x → Prefix (CoreReached q) (ps ++ (x ∷ []))
  next_point x g = prefix_more q.objectives (CoreReached q) (reached_width q) ps x f g

  -- none left means that the list is the frontier
  pub none_left : ((r : Point) → Unmatched (CoreReached q) ps r → ⊥) → ps ≡ core_frontier q
  none_left none = best_frontier q ps (prefix_done (CoreReached q) ps f none)

  -- a found prefix of k points means at least k points
  pub found_count : length ps ≤ length (core_frontier q)
  found_count = listed_count (CoreReached q) ps (core_frontier q) f.listed (frontier_best q)
