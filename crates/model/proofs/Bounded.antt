-- The bound of a prefix never falls as the prefix grows, is the cost at a choice, and is never above a completion's
-- cost.
use mathlib.Core.Path.{◌≡◌, ap, fun_ext}
use mathlib.Core.Bool.{true}
use mathlib.Core.List.{List, ◌++◌}
use Prim.Native.Nat.{ℕ}
use lib.ListN.{length}
use Rattle.model.specs.Problems.{Problem}
use Rattle.model.specs.Vectors.{at_most}
use Rattle.model.specs.Costs.{is_choice, totals, costs_of}
use Rattle.model.specs.Bounds.{prefix_ok, agrees, least_of, bound_of}
use Rattle.model.proofs.Vectors.{AtMost, at_most_test}
use Rattle.model.proofs.Prefixes.{choice_prefix, agrees_more}
use Rattle.model.proofs.LeastEntry.{least_grows, least_whole}
use Rattle.model.proofs.Totals.{totals_grow, totals_length}

pub bound_length : (q : Problem) (pre : List ℕ) → length (bound_of q pre) ≡ q.objectives
unfolding bound_of
bound_length q pre = totals_length q (least_of q.domains pre)

-- the bound of a prefix is at most that of a longer one that agrees with it
agreeing_grows : (q : Problem) (pre longer : List ℕ) → prefix_ok q.domains longer ≡ true → agrees pre longer ≡ true
    → AtMost (bound_of q pre) (bound_of q longer)
unfolding bound_of
agreeing_grows q pre longer ok ag =
    totals_grow q (least_of q.domains pre) (least_of q.domains longer)
    (λ t. least_grows q.domains pre longer t ok ag)

pub bound_grows : (q : Problem) (pre more : List ℕ) → prefix_ok q.domains (pre ++ more) ≡ true
    → at_most (bound_of q pre) (bound_of q (pre ++ more)) ≡ true
bound_grows q pre more ok = at_most_test _ _ (agreeing_grows q pre (pre ++ more) ok (agrees_more pre more))

pub bound_whole : (q : Problem) (x : List ℕ) → is_choice q.domains x ≡ true → bound_of q x ≡ costs_of q x
unfolding bound_of costs_of
bound_whole q x c = ap (totals q) (fun_ext (λ t. least_whole q.domains x t c))

pub bound_at_most : (q : Problem) (pre x : List ℕ) → is_choice q.domains x ≡ true → agrees pre x ≡ true
    → AtMost (bound_of q pre) (costs_of q x)
bound_at_most q pre x c ag = rw (← bound_whole q x c) (agreeing_grows q pre x (choice_prefix q.domains x c) ag)

pub bound_below : (q : Problem) (pre x : List ℕ) → is_choice q.domains x ≡ true → agrees pre x ≡ true
    → at_most (bound_of q pre) (costs_of q x) ≡ true
bound_below q pre x c ag = at_most_test _ _ (bound_at_most q pre x c ag)
