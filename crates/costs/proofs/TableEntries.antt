-- Where the entries of a whole record's table stand: each is a four-byte number of the problem.
use mathlib.Core.Path.{◌≡◌, refl, ◌∙◌}
use mathlib.Core.List.{List}
use Prim.Native.Nat.{ℕ, zero, suc, ◌+◌, ◌*◌, ◌≤◌, ◌<◌}
use native.Mathlib.Omega.{arith}
use lib.ListN.{length, get_or, drop}
use lib.Seq.{drop-drop}
use Rattle.model.specs.Reading.{word4, words_in, table_arity, table_of}
use Rattle.problem.specs.Records.{Whole}
use Rattle.problem.proofs.Scopes.{whole_ends}
use Rattle.costs.specs.Entries.{number_at, entries_at}

word_at : (n i : ℕ) (s : List ℕ) → i < n → get_or (words_in n s) i 0 ≡ word4 (drop (4 * i) s)
unfolding words_in
word_at zero i s h = absurd (omega arith)
word_at (suc n) zero s h = refl
word_at (suc n) (suc i) s h =
    let k : 4 + 4 * i ≡ 4 * suc i = omega arith in
    word_at n i (drop 4 s) (omega arith) ∙ rw (drop-drop (4 * i) 4 s, k)

module _ (ds s : List ℕ) (at i : ℕ) (l : i < entries_at ds s at) where
  pub number_place : number_at ds s at i ≡ word4 (drop (at + 4 + table_arity (drop at s) + 4 * i) s)
  unfolding table_of
  number_place =
      let a = table_arity (drop at s) in
      let k : at + (4 + a) + 4 * i ≡ at + 4 + a + 4 * i = omega arith in
      word_at (entries_at ds s at) i _ l
      ∙ rw (drop-drop (4 + a) at s, drop-drop (4 * i) (at + (4 + a)) s, k)

  pub entry_inside : Whole ds s at → at + 4 + table_arity (drop at s) + 4 * i + 4 ≤ length s
  entry_inside w = omega (arith, whole_ends ds s at w)
