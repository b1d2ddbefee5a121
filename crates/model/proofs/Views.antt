-- A half solved as a view of the same problem: the view's frontier list is that of the half, with its choices spread
-- out.
use mathlib.Core.Path.{◌≡◌, refl, ap, ap₂, sym, ◌∙◌, subst}
use mathlib.Core.Bool.{Bool, true, false}
use mathlib.Core.List.Memᴰ.{head as here}
use mathlib.Core.List.Memᴰ.{tail as there}
use mathlib.Core.List.{List, [], ◌∷◌, Memᴰ as In}
use mathlib.Core.List.Memᴰ.{not-nil as in-none}
use Prim.Native.Nat.{ℕ, zero, suc}
use lib.ListN.{length, get_or}
use borrow.Author.Tests.{eqb-true, eq-eqb}
use Rattle.model.specs.Problems.{Table, Problem}
use Rattle.model.specs.Costs.{is_choice, cost_of, total, totals_from, totals, costs_of}
use Rattle.model.specs.Frontiers.{Point, point}
use Rattle.model.specs.Core.{under, core_consistent, core_frontier, CoreReached}
use Rattle.model.specs.Cuts.{all_sides, sides_ok, crosses, uncrossed, on_side, in_half, half_table, half_tables, half}
use Rattle.model.specs.Views.{narrowed, all_on, within, kept, view, spread, spread_all}
use Rattle.model.proofs.Bits.{and_both}
use Rattle.model.proofs.Vectors.{AtMost, NotLater}
use Rattle.model.proofs.Best.{Best}
use Rattle.model.proofs.Choices.{choice_length}
use Rattle.model.proofs.Frontier.{frontier_best, best_frontier}
use Rattle.model.proofs.Sides.{part_choice_lem}
use Rattle.model.proofs.Spread.{narrowed_length, narrowed_side, spread_choice, spread_part, spread_order}
use Rattle.model.proofs.Spread.{spread_point, spread_each, in_spread, spread_rising, spread_length}
use Rattle.model.proofs.Halves.{OnSide, InOne, in_zero, in_one, one_half, uncrossed_first, uncrossed_rest}
use Rattle.model.proofs.Halves.{table_half}
use Rattle.model.proofs.Cut.{sides_long, sides_all}

-- a record that does not cross is in the view exactly if it is in the half
all_on_lem : (k : ℕ) (ss vs : List ℕ) → OnSide k ss vs → all_on k ss vs ≡ true
unfolding all_on
all_on_lem k ss [] o = refl
all_on_lem k ss (v ∷ vs) o =
    and_both (eq-eqb (get_or ss v 0) k (o v (here refl))) (all_on_lem k ss vs (λ w m. o w (there m)))

half_side : (k : ℕ) (ss vs : List ℕ) → InOne ss vs → in_half k ss vs ≡ true → OnSide k ss vs
unfolding in_half
half_side k ss [] n h w m = absurd (in-none m)
half_side k ss (v ∷ vs) n h w m = go n ∙ eqb-true (get_or ss v 0) k h
  where
    go : InOne ss (v ∷ vs) → get_or ss w 0 ≡ get_or ss v 0
    go (in_zero a b o) = o w m ∙ sym (o v (here refl))
    go (in_one a b o) = o w m ∙ sym (o v (here refl))

-- the costs of a choice of the view
module _ (ss : List ℕ) (all : all_sides ss ≡ true) (ds zs : List ℕ) (long : length ds ≡ length ss)
    (wide : length zs ≡ length ss) (k : ℕ) where
  abbrev in_view : Table → ℕ
  in_view = cost_of (narrowed k ss ds) zs

  abbrev in_part : Table → ℕ
  in_part = cost_of (on_side k ss ds) (on_side k ss zs)

  table_view : (t : Table) → OnSide k ss t.scope → in_view t ≡ in_part (half_table k ss t)
  table_view t o =
      table_half ss all (narrowed k ss ds) zs (narrowed_length k ss ds long) wide k t o
      ∙ ap (λ (ns : List ℕ). cost_of ns (on_side k ss zs) (half_table k ss t)) (narrowed_side k ss ds)

  abbrev stays : Table → Bool
  stays t = within k ss t.scope

  total_view : (o : ℕ) (ts : List Table) → uncrossed ss ts ≡ true
      → total o in_view (kept stays ts) ≡ total o in_part (half_tables k ss ts)
  unfolding total kept half_tables crosses
  total_view o [] h = refl
  total_view o (t ∷ ts) h =
      go (in_half k ss t.scope) refl
      (half_side k ss t.scope (one_half ss all t.scope (uncrossed_first ss t ts h)))
      (total_view o ts (uncrossed_rest ss t ts h))
    where
      go : (b : Bool) → in_half k ss t.scope ≡ b → (in_half k ss t.scope ≡ true → OnSide k ss t.scope)
          → total o in_view (kept stays ts) ≡ total o in_part (half_tables k ss ts)
          → total o in_view (kept stays (t ∷ ts)) ≡ total o in_part (half_tables k ss (t ∷ ts))
      go true e n r = rw (e, all_on_lem k ss t.scope (n e), table_view t (n e), r) refl
      go false e n r = rw e r

  totals_view : (p o : ℕ) (ts : List Table) → uncrossed ss ts ≡ true
      → totals_from p o in_view (kept stays ts) ≡ totals_from p o in_part (half_tables k ss ts)
  unfolding totals_from
  totals_view zero o ts h = refl
  totals_view (suc p) o ts h = ap₂ ◌∷◌ (total_view o ts h) (totals_view p (suc o) ts h)

-- the points of the view and of the half
module _ (q : Problem) (ss : List ℕ) (sides : sides_ok q ss ≡ true) (free : uncrossed ss q.tables ≡ true)
    (k : ℕ) where
  long : length q.domains ≡ length ss
  long = sides_long q ss sides

  costs_view : (zs : List ℕ) → length zs ≡ length ss
      → costs_of (view k q ss) zs ≡ costs_of (half k q ss) (on_side k ss zs)
  unfolding costs_of totals view half
  costs_view zs wide =
      totals_view ss (sides_all q ss sides) q.domains zs long wide k q.objectives 0 q.tables free

  -- a point of the view and its part, a point of the half and what it gives
  abbrev part_point : Point → Point
  part_point p = point p.costs (on_side k ss p.choice)

  view_long : (z : List ℕ) → is_choice (narrowed k ss q.domains) z ≡ true → length z ≡ length ss
  view_long z h = choice_length (narrowed k ss q.domains) z h ∙ narrowed_length k ss q.domains long

  part_reached : (p : Point) → CoreReached (view k q ss) p → CoreReached (half k q ss) (part_point p)
  unfolding view half core_consistent
  part_reached p h =
      let e = costs_view p.choice (view_long p.choice h.complete) in
      record {
        complete =
            subst (λ (ds : List ℕ). is_choice ds (on_side k ss p.choice) ≡ true) (narrowed_side k ss q.domains)
            (part_choice_lem k ss (narrowed k ss q.domains) p.choice h.complete);
        allowed = subst (λ (c : List ℕ). under c q.ceilings ≡ true) e h.allowed;
        exact = h.exact ∙ e;
      }

  spread_reached : (p : Point) → CoreReached (half k q ss) p → CoreReached (view k q ss) (spread_point k ss p)
  unfolding view half core_consistent
  spread_reached p h =
      let s = spread_choice k ss q.domains p.choice long h.complete in
      let z = spread k ss p.choice in
      let e : costs_of (view k q ss) z ≡ costs_of (half k q ss) p.choice =
      costs_view z (view_long z s.whole) ∙ ap (costs_of (half k q ss)) s.part in
      record {
        complete = s.whole;
        allowed = subst (λ (c : List ℕ). under c q.ceilings ≡ true) (sym e) h.allowed;
        exact = h.exact ∙ sym e;
      }

  -- a point of the view is its part spread out
  spread_back : (p : Point) → CoreReached (view k q ss) p → spread k ss (on_side k ss p.choice) ≡ p.choice
  unfolding view
  spread_back p h = spread_part k ss q.domains p.choice long h.complete

  spread_best : Best (CoreReached (view k q ss)) (spread_all k ss (core_frontier (half k q ss)))
  spread_best =
      let fs = core_frontier (half k q ss) in
      let b : Best (CoreReached (half k q ss)) fs = frontier_best (half k q ss) in
      record {
        listed = record {
          sound = spread_each k ss (CoreReached (view k q ss)) fs (λ s i. spread_reached s (b.listed.sound s i));
          unbeaten =
              λ p r m h. spread_each k ss (λ p. AtMost r.costs p.costs → r.costs ≡ p.costs) fs
              (λ s i. b.listed.unbeaten s (part_point r) i (part_reached r h)) p m;
          order = spread_rising k ss fs b.listed.order;
          earliest =
              λ p r m h. spread_each k ss (λ p. r.costs ≡ p.costs → NotLater p.choice r.choice) fs
              (λ s i e. subst (NotLater (spread k ss s.choice)) (spread_back r h)
              (spread_order k ss s.choice (on_side k ss r.choice)
              (b.listed.earliest s (part_point r) i (part_reached r h) e)))
              p m;
        };
        matched =
            λ r h. let (s, i, a) = b.matched (part_point r) (part_reached r h) in
            (spread_point k ss s, in_spread k ss fs s i, a);
      }

  -- the view's list, and its length
  pub view_list : core_frontier (view k q ss) ≡ spread_all k ss (core_frontier (half k q ss))
  view_list = sym (best_frontier (view k q ss) (spread_all k ss (core_frontier (half k q ss))) spread_best)

  pub view_size : length (core_frontier (view k q ss)) ≡ length (core_frontier (half k q ss))
  view_size = ap length view_list ∙ spread_length k ss (core_frontier (half k q ss))

-- a listed choice of the view: 0 for the other side's variables, a value of its domain for each of its own
pub view_choice : (q : Problem) (ss : List ℕ) (k : ℕ) (p : Point) → In p (core_frontier (view k q ss))
    → is_choice (narrowed k ss q.domains) p.choice ≡ true
unfolding view
view_choice q ss k p m = ((frontier_best (view k q ss)).listed.sound p m).complete
