-- Complete choices that are met: how many more may be, and that memory stays while none is.
use Rattle.std.proofs.Common.{◌≡◌, ℕ, ◌≤◌, List, refl, ◌∙◌, arith}
use Rattle.branch_pruning.specs.declared.Progress as DP
use Rattle.branch_search.specs.States.{met_with, Meeting}

pub meeting_refl : (work : List ℕ) (run : DP.Progress) → Meeting work run work run
meeting_refl work run = record { fewer = omega arith; idle = λ e. (refl, refl, refl) }

pub meeting_trans : {work : List ℕ} {run : DP.Progress} {work' : List ℕ} {run' : DP.Progress} {work'' : List ℕ}
    {run'' : DP.Progress} → Meeting work run work' run' → Meeting work' run' work'' run''
    → Meeting work run work'' run''
meeting_trans {work} {run} {work'} {run'} {work''} {run''} f g =
    record {
      fewer = omega (arith, f.fewer, g.fewer);
      idle = λ e.
          let second : run''.meets ≡ run'.meets = omega (arith, f.fewer, g.fewer) in
          let first : run'.meets ≡ run.meets = omega (arith, f.fewer, g.fewer) in
          let (w, p, z) = f.idle first in
          let (w', p', z') = g.idle second in
          (w' ∙ w, p' ∙ p, z' ∙ z);
    }

-- one is met
pub meeting_met : {work : List ℕ} {run : DP.Progress} {work' : List ℕ} {points zones limit : ℕ} → 1 ≤ run.meets
    → Meeting work run work' (met_with run points zones limit)
meeting_met some = record { fewer = omega arith; idle = λ e. absurd (omega arith) }
