-- The loop of `to_entries`: the first entries are put anew, the others are kept.
use Rattle.std.proofs.Common.{◌≡◌, ℕ, ◌<◌, ◌≤◌, get_or}
use Rattle.text_checking.specs.Sizes.{size_held, domains_at}
use Rattle.text_checking.proofs.to_entries.Given as goal

abbrev pub invariant-loop-i : goal.invariant-loop-i
invariant-loop-i l =
    record {
      anew :
          (k : ℕ) → k < l.i
          → size_held l.s (get_or l.scope k 0) ≡ get_or (domains_at l.s l.declared) (get_or l.initial.scope k 0) 0;
      kept : (k : ℕ) → l.i ≤ k → get_or l.scope k 0 ≡ get_or l.initial.scope k 0;
    }
