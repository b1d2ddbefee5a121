-- What is left in an archive once every consistent choice is covered: the frontier, or, below a limit, points of the
-- frontier.
use mathlib.Core.Path.{◌≡◌, refl, ap, sym, ◌∙◌, subst}
use mathlib.Core.Logic.{inl, ⊎_elim}
use mathlib.Core.List.Memᴰ.{head as here}
use mathlib.Core.List.Memᴰ.{tail as there}
use mathlib.Core.List.{List, [], ◌∷◌, Memᴰ as In}
use mathlib.Core.List.Memᴰ.{cases_cons as in-cases}
use mathlib.Core.List.Memᴰ.{not-nil as in-none}
use Prim.Native.Nat.{ℕ, suc, ◌≤◌, ◌<◌}
use native.Mathlib.Omega.{arith}
use lib.ListN.{length}
use Rattle.model.specs.Basics.{All}
use Rattle.model.specs.Problems.{Problem}
use Rattle.model.specs.Vectors.{same}
use Rattle.model.specs.Frontiers.{Point, sorted}
use Rattle.model.specs.Core.{core_frontier, CoreReached}
use Rattle.model.specs.Archive.{weighted, Covered, Archived, Distinct}
use Rattle.model.proofs.Bits.{test, true_false}
use Rattle.model.proofs.Vectors.{AtMost, same_true, same_eq, at_most_test, at_most_refl, at_most_trans}
use Rattle.model.proofs.Vectors.{at_most_antisym}
use Rattle.model.proofs.Points.{Rising, Within, rising_count}
use Rattle.model.proofs.Best.{Best, AsGood, best_cover}
use Rattle.model.proofs.Sorting.{AllSized, sorted_in, sorted_covers, sorted_rising}
use Rattle.model.proofs.Frontier.{reached_width, reached_length, frontier_best, best_frontier}
use Rattle.model.proofs.Weighted.{weighted_strict}
use Rattle.model.proofs.Distinct.{sorted_length}
use Rattle.model.proofs.Archive.{serves_as_good, archived_wide}

-- a rising list whose costs all stand in fs, as a list of points of fs
taken : (fs ps : List Point) → Rising ps → ((p : Point) → In p ps → (f : Point) × In f fs × (f.costs ≡ p.costs))
    → (rs : List Point) × Rising rs × Within rs fs × (length rs ≡ length ps)
    × ((r : Point) → In r rs → (p : Point) × In p ps × (r.costs ≡ p.costs))
taken fs [] h each = ([], tt, λ r m. absurd (in-none m), refl, λ r m. absurd (in-none m))
taken fs (p ∷ ps) h each =
    let (f, i, e) = each p (here refl) in
    let (rs, order, within, long, source) = taken fs ps h.1 (λ s m. each s (there m)) in (
      f ∷ rs,
      (λ r m. let (s, j, d) = source r m in rw (e, d) (h.0 s j), order),
      λ r m. ⊎_elim (λ (u : r ≡ f). rw u i) (λ n. within r n) (in-cases m),
      ap suc long,
      λ r m. ⊎_elim (λ (u : r ≡ f). (p, here refl, ap (λ (t : Point). t.costs) u ∙ e))
          (λ n. let (s, j, d) = source r n in (s, there j, d)) (in-cases m),
    )

costs_count : (fs ps : List Point) → Rising fs → Rising ps
    → ((p : Point) → In p ps → (f : Point) × In f fs × (f.costs ≡ p.costs)) → length ps ≤ length fs
costs_count fs ps hf hp each =
    let (rs, order, within, long, source) = taken fs ps hp each in
    omega (arith, rising_count fs rs hf order within, long)

module _ {q : Problem} {ws : List ℕ} {archive : List Point} {limit : ℕ} (h : Archived q ws archive limit) where
  sized : AllSized q.objectives (length q.domains) archive
  sized a m = (archived_wide h a m, reached_length q a (h.reached a m))

  in_archive : (a : Point) → In a (sorted archive) → In a archive
  in_archive = sorted_in q.objectives (length q.domains) archive sized

  apart : (a b : Point) → In a archive → In b archive → AtMost a.costs b.costs → a ≡ b
  apart a b m n t = h.apart a b m n (at_most_test a.costs b.costs t)

  -- none of its points matches another, so that sorting is all
  archive_best : Best (λ a. In a archive) (sorted archive)
  archive_best =
      record {
        listed = record {
          sound = in_archive;
          unbeaten = λ p r m n t. ap (λ (s : Point). s.costs) (apart r p n (in_archive p m) t);
          order = sorted_rising q.objectives (length q.domains) archive sized;
          earliest =
              λ p r m n e. inl (ap (λ (s : Point). s.choice)
              (apart p r (in_archive p m) n (subst (AtMost p.costs) (sym e) (at_most_refl p.costs))));
        };
        matched =
            λ r m. let (s, i, e, c) = sorted_covers q.objectives (length q.domains) archive sized r m in
            (s, i, subst (AtMost s.costs) e (at_most_refl s.costs));
      }

  module _ (covered : (y : Point) → CoreReached q y → Covered ws archive limit y) where
    -- a limit above every sum: the frontier
    pub archive_frontier : ((y : Point) → CoreReached q y → weighted ws y.costs < limit)
        → sorted archive ≡ core_frontier q
    archive_frontier below =
        best_frontier q (sorted archive)
        (best_cover q.objectives (λ a. In a archive) (CoreReached q) (sorted archive) (reached_width q) h.reached
        served archive_best)
      where
        served : (y : Point) → CoreReached q y → (a : Point) × In a archive × AsGood a y
        served y r =
            ⊎_elim (λ l. absurd (omega (arith, below y r))) (λ (a, m, s). (a, m, serves_as_good a y s)) (covered y r)

    -- any limit: what beats an archived point has a smaller sum, so an archived point matches it, and the first one too
    module _ (long : q.objectives ≤ length ws) (weights : All (λ w. 1 ≤ w) ws) where
      archive_unbeaten : (a r : Point) → In a archive → CoreReached q r → AtMost r.costs a.costs
          → r.costs ≡ a.costs
      archive_unbeaten a r m k t =
          ⊎_elim (λ s. same_true r.costs a.costs s) (λ s. beaten (λ e. true_false (same_eq e) s))
          (test (same r.costs a.costs))
        where
          width : length r.costs ≡ length a.costs
          width = reached_width q r k ∙ sym (archived_wide h a m)

          beaten : (r.costs ≡ a.costs → ⊥) → r.costs ≡ a.costs
          beaten n =
              let less : weighted ws r.costs < weighted ws a.costs = weighted_strict ws r.costs a.costs
              width (omega (arith, reached_width q r k)) weights t n in
              ⊎_elim
              (λ l. absurd (omega (arith, h.within a m)))
              (λ (b, i, s).
              let u = (serves_as_good b r s).0 in
              let one : b ≡ a = apart b a i m
              (at_most_trans b.costs r.costs a.costs (archived_wide h b i ∙ sym (reached_width q r k)) u t) in
              at_most_antisym r.costs a.costs width t (subst (λ (c : Point). AtMost c.costs r.costs) one u))
              (covered r k)

      pub archive_full : Distinct archive → length archive ≤ length (core_frontier q)
      archive_full d =
          omega (
            arith,
            sorted_length q.objectives (length q.domains) archive sized d,
            costs_count (core_frontier q) (sorted archive) (frontier_best q).listed.order archive_best.listed.order
                found,
          )
        where
          found : (a : Point) → In a (sorted archive) → (f : Point) × In f (core_frontier q) × (f.costs ≡ a.costs)
          found a m =
              let (f, n, t) = (frontier_best q).matched a (h.reached a (in_archive a m)) in
              (f, n, archive_unbeaten a f (in_archive a m) ((frontier_best q).listed.sound f n) t)
