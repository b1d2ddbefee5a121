-- The promises about the cached call, from the theorems.
use mathlib.Core.List.{[]}
use Prim.Native.Nat.{◌/◌, min}
use lib.ListN.{replicate}
use Rattle.cache_answers.specs.Stores.{slot_size, max_slots}
use Rattle.cache_answers.specs.Statements.{CacheLaws}
use Rattle.cache_answers.proofs.Cleared.{keeps_cleared}
use Rattle.cache_answers.proofs.Outcomes.{unasked, kept, numbers}
use Rattle.cache_answers.proofs.Runs.{run_from}

pub cache_laws : CacheLaws
cache_laws =
    record {
      run = λ n calls long bytes.
          run_from (min (n / slot_size) max_slots) [] (replicate n 0) calls (keeps_cleared n long) bytes;
      unasked = unasked;
      kept = kept;
      numbers = numbers;
    }
