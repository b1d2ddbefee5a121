-- What the calls that list the frontier refuse before they search.
use Rattle.std.specs.Prelude.{List, ℕ, ltb}
use Rattle.model.specs.Basics.{pick}
use Rattle.model.specs.Limits.{work_need}
use Rattle.model.specs.Refusals.{work_short, Verdict, verdict, accepted, first}
use Rattle.model.specs.Reading.{verdict_of}

-- 12, with k numbers of work memory
abbrev pub short_of : ℕ → Verdict
short_of k = pick (ltb k work_need) (verdict work_short 0) accepted

-- 1 to 11 of the bytes, and then 12
abbrev pub early_of : List ℕ → ℕ → Verdict
early_of s k = first (verdict_of s) (short_of k)
