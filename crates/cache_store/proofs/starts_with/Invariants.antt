-- The loop of `starts_with`: the bytes passed are the form's.
use Rattle.std.proofs.Common.{◌≡◌, ◌*◌, take}
use Rattle.cache_store.proofs.starts_with.Given as goal

abbrev pub invariant-loop-k : goal.invariant-loop-k
invariant-loop-k l = take (l.k * 512) l.slot ≡ take (l.k * 512) l.form
