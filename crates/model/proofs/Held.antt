-- What a search holds: the least of those points of a pool whose choices it has passed.
use mathlib.Core.Path.{◌≡◌, subst}
use mathlib.Core.Logic.{inl, inr, ⊎_elim}
use Rattle.model.specs.Frontiers.{Point}
use Rattle.model.specs.Search.{Held, nothing, just}
use Rattle.model.proofs.Best.{Pool}
use Rattle.model.proofs.Passes.{NotAfter, not_after_refl, Least}
use Rattle.model.proofs.Tree.{Choices, Either, Same}

-- what the one held makes superfluous
abbrev pub Beyond : Held → Point → Type 0
Beyond nothing r = ⊥
Beyond (just x) r = NotAfter x r

module _ (U : Pool) where
  -- the points of U whose choices are among S
  abbrev pub Seen : Choices → Pool
  Seen S r = U r × S r.choice

  abbrev pub Holds : Choices → Held → Type 0
  Holds S nothing = (r : Point) → Seen S r → ⊥
  Holds S (just x) = Least (Seen S) x

  pub holds_same : (S T : Choices) (h : Held) → Same S T → Holds S h → Holds T h
  holds_same S T nothing e k = λ r w. k r (w.0, e.1 r.choice w.1)
  holds_same S T (just x) e k = record {
    inside = (k.inside.0, e.0 x.choice k.inside.1);
    least = λ r w. k.least r (w.0, e.1 r.choice w.1);
  }

  -- a branch T may be left out, if all in it is beyond the one held
  pub holds_skip : (S T : Choices) (h : Held) → ((r : Point) → Seen T r → Beyond h r) → Holds S h → Holds (Either S T) h
  holds_skip S T nothing b k = λ r w. ⊎_elim (λ i. k r (w.0, i)) (λ i. b r (w.0, i)) w.1
  holds_skip S T (just x) b k = record {
    inside = (k.inside.0, inl k.inside.1);
    least = λ r w. ⊎_elim (λ i. k.least r (w.0, i)) (λ i. b r (w.0, i)) w.1;
  }

  -- a point x is taken, if it is the only one of T and comes before those of S
  pub holds_take : (S T : Choices) (x : Point) → Seen T x → ((r : Point) → Seen T r → x ≡ r)
      → ((r : Point) → Seen S r → NotAfter x r) → Holds (Either S T) (just x)
  holds_take S T x t one b =
      record {
        inside = (t.0, inr t.1);
        least =
            λ r w. ⊎_elim (λ i. b r (w.0, i)) (λ i. subst (NotAfter x) (one r (w.0, i)) (not_after_refl x)) w.1;
      }
