-- The loop of `is_matched`: the rows from i on match if any row does.
use Rattle.std.proofs.Common.{◌≡◌, take}
use Rattle.model.specs.Search.{matched}
use Rattle.rows.specs.Rows.{list_in}
use Rattle.pass_search.proofs.Matching.{matched_from}
use Rattle.pass_search.proofs.is_matched.Given as goal

abbrev pub invariant-loop-i : goal.invariant-loop-i
invariant-loop-i l = matched_from l.c l.n l.work l.k l.p l.i ≡ matched (take l.p l.c) (list_in l.p l.n l.work 0 l.k)
