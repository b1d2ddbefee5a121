-- What an archive covers stays covered as the archive changes.
use mathlib.Core.Path.{◌≡◌, refl, sym, ◌∙◌, subst}
use mathlib.Core.Logic.{inl, inr, ⊎_elim}
use mathlib.Core.List.Memᴰ.{not-nil as in-none}
use mathlib.Core.List.{List, [], Memᴰ as In}
use Prim.Native.Nat.{ℕ}
use native.Mathlib.Omega.{arith}
use lib.ListN.{length}
use Rattle.model.specs.Problems.{Problem}
use Rattle.model.specs.Frontiers.{Point}
use Rattle.model.specs.Archive.{Serves, Covered, Archived, Follows}
use Rattle.model.proofs.Vectors.{AtMost, at_most_true, at_most_test, at_most_refl, at_most_trans}
use Rattle.model.proofs.Vectors.{at_most_antisym, earlier_true, earlier_test, not_later_trans}
use Rattle.model.proofs.Best.{AsGood}
use Rattle.model.proofs.Frontier.{reached_width}
use Rattle.model.proofs.Weighted.{weighted_mono}

-- Serves says AsGood, in tests
pub serves_as_good : (a y : Point) → Serves a y → AsGood a y
serves_as_good a y s = (
  at_most_true a.costs y.costs s.0,
  λ e. ⊎_elim (λ c. inl c) (λ c. inr (earlier_true a.choice y.choice c)) (s.1 e),
)

pub as_good_serves : (a y : Point) → AsGood a y → Serves a y
as_good_serves a y g = (
  at_most_test a.costs y.costs g.0,
  λ e. ⊎_elim (λ c. inl c) (λ c. inr (earlier_test a.choice y.choice c)) (g.1 e),
)

pub serves_refl : (a : Point) → Serves a a
serves_refl a = as_good_serves a a (at_most_refl a.costs, λ e. inl refl)

-- where the first and the last have equal costs, so has the one between
as_good_trans : (a b y : Point) → length a.costs ≡ length b.costs → AsGood a b → AsGood b y → AsGood a y
as_good_trans a b y w g h = (
  at_most_trans a.costs b.costs y.costs w g.0 h.0,
  λ e.
      let d : a.costs ≡ b.costs = at_most_antisym a.costs b.costs w g.0
      (subst (AtMost b.costs) (sym e) h.0) in
      not_later_trans a.choice b.choice y.choice (g.1 d) (h.1 (sym d ∙ e)),
)

pub serves_trans : (a b y : Point) → length a.costs ≡ length b.costs → Serves a b → Serves b y → Serves a y
serves_trans a b y w s t = as_good_serves a y (as_good_trans a b y w (serves_as_good a b s) (serves_as_good b y t))

-- points with p costs each
abbrev pub Wide : ℕ → List Point → Type 0
Wide p archive = (a : Point) → In a archive → length a.costs ≡ p

pub archived_wide : {q : Problem} {ws : List ℕ} {archive : List Point} {limit : ℕ} → Archived q ws archive limit
    → Wide q.objectives archive
archived_wide {q} h a m = reached_width q a (h.reached a m)

pub archive_start : (q : Problem) (ws : List ℕ) (limit : ℕ) → Archived q ws [] limit
archive_start q ws limit = record {
  reached = λ a m. absurd (in-none m);
  apart = λ a b m n t. absurd (in-none m);
  within = λ a m. absurd (in-none m);
}

-- a point that an archived one serves: if that one went with the limit, so does the point
pub covered_follows : {ws : List ℕ} {archive : List Point} {limit : ℕ} {archive' : List Point} {limit' : ℕ} (p : ℕ)
    → Follows ws archive limit archive' limit' → Wide p archive → Wide p archive' → (y : Point) → length y.costs ≡ p
    → Covered ws archive limit y → Covered ws archive' limit' y
covered_follows p f w w' y e (inl h) = inl (omega (arith, f.lower))
covered_follows {ws} p f w w' y e (inr (a, m, s)) =
    ⊎_elim
    (λ h. inl (omega (arith, weighted_mono ws a.costs y.costs (w a m ∙ sym e) (serves_as_good a y s).0)))
    (λ (b, n, t). inr (b, n, serves_trans b a y (w' b n ∙ sym (w a m)) t s))
    (f.served a m)

pub follows_refl : (ws : List ℕ) (archive : List Point) (limit : ℕ) → Follows ws archive limit archive limit
follows_refl ws archive limit = record { lower = omega arith; served = λ a m. inr (a, m, serves_refl a) }

pub follows_trans : {ws : List ℕ} {archive : List Point} {limit : ℕ} {archive' : List Point} {limit' : ℕ}
    {archive'' : List Point} {limit'' : ℕ} (p : ℕ)
    → Wide p archive → Wide p archive' → Wide p archive'' → Follows ws archive limit archive' limit'
    → Follows ws archive' limit' archive'' limit'' → Follows ws archive limit archive'' limit''
follows_trans p w w' w'' f g = record {
  lower = omega (arith, f.lower, g.lower);
  served = λ a m. covered_follows p g w' w'' a (w a m) (f.served a m);
}
