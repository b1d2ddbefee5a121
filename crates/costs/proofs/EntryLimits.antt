-- The tables of a problem's bytes have numbers of four bytes, so that what an entry weighs is limited; a weight of the
-- core taken back is the number that was read.
use mathlib.Core.Path.{◌≡◌, ap, ◌∙◌}
use mathlib.Core.List.{List}
use Prim.Native.Nat.{ℕ, ◌+◌, ◌<◌}
use native.Mathlib.Omega.{arith}
use lib.ListN.{get_or, drop}
use Rattle.model.specs.Basics.{All}
use Rattle.model.specs.Limits.{byte_end, word_end}
use Rattle.model.specs.Problems.{Word, size_of}
use Rattle.model.specs.Encoding.{Byte}
use Rattle.model.specs.Reading.{table_arity, table_scope, table_of}
use Rattle.model.specs.Core.{entry_end, plain}
use Rattle.model.specs.Costs.{entry_from, cost_of}
use Rattle.model.specs.Bounds.{least_of}
use Rattle.model.proofs.Elements.{all_at, all_each, all_drop}
use Rattle.model.proofs.Words.{words_below}
use Rattle.model.proofs.LeastEntry.{least_limit}
use Rattle.model.proofs.Core.{plain_entry, core_least, weighed_limit}
use Rattle.costs.specs.Entries.{table_at, entry_at}

module _ (ds s : List ℕ) (at : ℕ) (bytes : (i : ℕ) → get_or s i 0 < byte_end) where
  table_words : All Word (table_of ds (drop at s)).costs
  unfolding table_of
  table_words =
      let t = drop at s in
      words_below (size_of ds (table_scope t)) (drop (4 + table_arity t) t)
      (all_drop Byte (4 + table_arity t) t (all_drop Byte at s (all_each Byte 0 s bytes)))

  word : (i : ℕ) → get_or (table_of ds (drop at s)).costs i 0 < word_end
  word i = all_at Word (table_of ds (drop at s)).costs table_words i 0 (omega arith)

  entry_small : (i : ℕ) → entry_at ds s at i < entry_end
  entry_small = weighed_limit (table_of ds (drop at s)).costs table_words

  -- in the core every cost and every least entry is below the entries' limit
  pub cost_small : (y : List ℕ) → cost_of ds y (table_at ds s at) < entry_end
  unfolding cost_of
  cost_small y = entry_small (entry_from 0 ds (table_of ds (drop at s)).scope y)

  pub least_small : (pre : List ℕ) → least_of ds pre (table_at ds s at) < entry_end
  least_small pre = least_limit entry_end ds pre (table_at ds s at) entry_small

  -- and a least entry taken back is the one of the table that was read
  pub plain_least : (pre : List ℕ)
      → plain (least_of ds pre (table_at ds s at)) ≡ least_of ds pre (table_of ds (drop at s))
  plain_least pre =
      ap plain (core_least ds pre (table_of ds (drop at s)))
      ∙ plain_entry _ (least_limit word_end ds pre (table_of ds (drop at s)) word)
