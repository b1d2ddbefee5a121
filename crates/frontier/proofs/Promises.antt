-- From what the crates below promise to what the public calls promise: the same equations, and that the elements of the
-- problem's slice are bytes; and what C is told of it.
use mathlib.Core.Path.{◌≡◌, ap, ◌∙◌}
use mathlib.Core.Bool.{Bool}
use mathlib.Core.List.{List}
use Prim.Native.Nat.{ℕ, ◌<◌}
use native.Mathlib.Omega.{arith}
use lib.ListN.{get_or, replicate}
use Rattle.std.specs.Prelude.{Result}
use Rattle.model.specs.Basics.{when}
use Rattle.model.specs.Limits.{max_objectives, byte_end, word_end}
use Rattle.model.specs.Refusals.{Verdict}
use Rattle.model.specs.Reasons.{told, value_or}
use Rattle.model.specs.declared.Refusal.{Refusal}
use Rattle.model.specs.Encoding.{Byte}
use Rattle.model.specs.Calls.{SolveOutcome, ListOutcome, CutOutcome, BoundOutcome, bound_outcome}
use Rattle.model.specs.declared.Point as DP
use Rattle.model.proofs.Elements.{all_each}
use Rattle.answers.specs.Says.{SolveSays}
use Rattle.answers.specs.declared.Halves as DH
use Rattle.answers.specs.Cuts.{no_halves, CutSays}
use Rattle.bound_call.specs.Says.{BoundSays}
use Rattle.text_networks.specs.Conversions.{ConvertOutcome}
use Rattle.text_networks.specs.Says.{ConvertSays}
use Rattle.form_canonical.specs.declared.Canonical as DF
use Rattle.form_canonical.specs.Canonical.{CanonicalOutcome}
use Rattle.form_canonical.specs.Says.{no_form, CanonicalSays}
use Rattle.cache_answers.specs.declared.Cached as DK
use Rattle.cache_answers.specs.Outcomes.{CachedOutcome}
use Rattle.cache_answers.specs.Says.{CachedSays}
use Rattle.batch_frames.specs.Outcomes.{BatchOutcome}
use Rattle.batch_call.specs.Says.{BatchSays}
use Rattle.frontier.specs.Says.{SolveExports, ListExports, CutExports, BoundExports, ConvertExports}
use Rattle.frontier.specs.Says.{CanonicalExports, CachedExports, BatchExports}

-- the number and the place of a verdict
numbered : {v w : Verdict} → v ≡ w → v.number ≡ w.number
numbered e = ap (λ (v : Verdict). v.number) e

placed : {v w : Verdict} → v ≡ w → v.place ≡ w.place
placed e = ap (λ (v : Verdict). v.place) e

-- C is told a place of four bytes as it is
at_place : (v w at : ℕ) → v ≡ w → w < word_end → (v < word_end → at ≡ v) → at ≡ w
at_place v w at e short is = is (omega (arith, e, short)) ∙ e

module _ (s : List ℕ) (bytes : (i : ℕ) → get_or s i 0 < byte_end) where
  pub solve_promise : (o : SolveOutcome) {c x w : List ℕ} (r : Result ℕ Refusal) → SolveSays o c x w r
      → SolveExports s o c x w (told r).number (told r).place (value_or 0 r)
  solve_promise o r says = record {
    bytes = all_each Byte 0 s bytes;
    number = numbered says.verdict;
    place = placed says.verdict;
    count = says.count;
    costs = says.costs;
    choices = says.choices;
    work = says.work;
  }

  pub cut_promise : (o : CutOutcome) {c x w : List ℕ} (r : Result DH.Halves Refusal) → CutSays o c x w r
      → CutExports s o c x w (told r).number (told r).place (value_or no_halves r).count
      (value_or no_halves r).first (value_or no_halves r).second
  cut_promise o r says = record {
    bytes = all_each Byte 0 s bytes;
    number = numbered says.verdict;
    place = placed says.verdict;
    count = says.count;
    first_half = says.first_half;
    second_half = says.second_half;
    costs = says.costs;
    choices = says.choices;
    work = says.work;
  }

  pub bound_promise : (prefix : List ℕ) (r : Result (List ℕ) Refusal) → BoundSays s prefix r
      → BoundExports s (bound_outcome s prefix) (told r).number (told r).place
      (value_or (replicate max_objectives 0) r)
  bound_promise prefix r says = record {
    bytes = all_each Byte 0 s bytes;
    number = numbered says.verdict;
    place = placed says.verdict;
    least = says.least;
  }

  pub convert_promise : (o : ConvertOutcome) {out : List ℕ} (r : Result ℕ Refusal) → ConvertSays o out r
      → ConvertExports s o out (told r).number (told r).place (value_or 0 r)
  convert_promise o r says = record {
    bytes = all_each Byte 0 s bytes;
    number = numbered says.verdict;
    place = placed says.verdict;
    count = says.count;
    output = says.output;
  }

  pub canonical_promise : (o : CanonicalOutcome) {f : List ℕ} (r : Result DF.Canonical Refusal) → CanonicalSays o f r
      → CanonicalExports s o f (told r).number (told r).place (value_or no_form r).count (value_or no_form r).key
  canonical_promise o r says = record {
    bytes = all_each Byte 0 s bytes;
    number = numbered says.verdict;
    place = placed says.verdict;
    count = says.count;
    key = says.key;
    form = says.form;
  }

  pub cached_promise : (o : CachedOutcome) {c x w m : List ℕ} (r : DK.Cached) → CachedSays o c x w m r
      → CachedExports s o c x w m (told r.answer).number (told r.answer).place (value_or 0 r.answer) (when r.hit 1)
  cached_promise o r says = record {
    bytes = all_each Byte 0 s bytes;
    number = numbered says.verdict;
    place = placed says.verdict;
    count = says.count;
    hit = ap (λ (b : Bool). when b 1) says.hit;
    costs = says.costs;
    choices = says.choices;
    work = says.work;
    store = says.store;
  }

  pub batch_promise : (o : BatchOutcome) {c x rs w : List ℕ} (r : Result ℕ Refusal) → BatchSays o c x rs w r
      → BatchExports s o c x rs w (told r).number (told r).place (value_or 0 r)
  batch_promise o r says = record {
    bytes = all_each Byte 0 s bytes;
    number = numbered says.verdict;
    place = placed says.verdict;
    count = says.count;
    costs = says.costs;
    choices = says.choices;
    results = says.results;
    work = says.work;
  }

-- the solve call's answer as C is told it
pub solve_export : {s : List ℕ} {o : SolveOutcome} {c x w : List ℕ} (r : Result ℕ Refusal)
    → SolveExports s o c x w (told r).number (told r).place (value_or 0 r)
    → o.verdict.place < word_end → (n at : ℕ) (k0 : ℕ) → n ≡ (told r).number
    → ((told r).place < word_end → at ≡ (told r).place)
    → k0 ≡ value_or 0 r
    → SolveExports s o c x w n at k0
solve_export r says short n at k0 e f g0 = record {
  bytes = says.bytes;
  number = e ∙ says.number;
  place = at_place (told r).place _ at says.place short f;
  count = g0 ∙ says.count;
  costs = says.costs;
  choices = says.choices;
  work = says.work;
}

-- the cut call's answer as C is told it
pub cut_export : {s : List ℕ} {o : CutOutcome} {c x w : List ℕ} (r : Result DH.Halves Refusal)
    → CutExports s o c x w (told r).number (told r).place (value_or no_halves r).count
    (value_or no_halves r).first (value_or no_halves r).second
    → o.verdict.place < word_end → (n at : ℕ) (k0 : ℕ) (k1 : ℕ) (k2 : ℕ) → n ≡ (told r).number
    → ((told r).place < word_end → at ≡ (told r).place)
    → k0 ≡ (value_or no_halves r).count → k1 ≡ (value_or no_halves r).first → k2 ≡ (value_or no_halves r).second
    → CutExports s o c x w n at k0 k1 k2
cut_export r says short n at k0 k1 k2 e f g0 g1 g2 = record {
  bytes = says.bytes;
  number = e ∙ says.number;
  place = at_place (told r).place _ at says.place short f;
  count = g0 ∙ says.count;
  first_half = g1 ∙ says.first_half;
  second_half = g2 ∙ says.second_half;
  costs = says.costs;
  choices = says.choices;
  work = says.work;
}

-- the converting call's answer as C is told it
pub convert_export : {s : List ℕ} {o : ConvertOutcome} {out : List ℕ} (r : Result ℕ Refusal)
    → ConvertExports s o out (told r).number (told r).place (value_or 0 r)
    → o.verdict.place < word_end → (n at : ℕ) (k0 : ℕ) → n ≡ (told r).number
    → ((told r).place < word_end → at ≡ (told r).place)
    → k0 ≡ value_or 0 r
    → ConvertExports s o out n at k0
convert_export r says short n at k0 e f g0 = record {
  bytes = says.bytes;
  number = e ∙ says.number;
  place = at_place (told r).place _ at says.place short f;
  count = g0 ∙ says.count;
  output = says.output;
}

-- the canonical call's answer as C is told it
pub canonical_export : {s : List ℕ} {o : CanonicalOutcome} {f : List ℕ} (r : Result DF.Canonical Refusal)
    → CanonicalExports s o f (told r).number (told r).place (value_or no_form r).count (value_or no_form r).key
    → o.verdict.place < word_end → (n at : ℕ) (k0 : ℕ) (k1 : ℕ) → n ≡ (told r).number
    → ((told r).place < word_end → at ≡ (told r).place)
    → k0 ≡ (value_or no_form r).count → k1 ≡ (value_or no_form r).key
    → CanonicalExports s o f n at k0 k1
canonical_export r says short n at k0 k1 e f g0 g1 = record {
  bytes = says.bytes;
  number = e ∙ says.number;
  place = at_place (told r).place _ at says.place short f;
  count = g0 ∙ says.count;
  key = g1 ∙ says.key;
  form = says.form;
}

-- the cached call's answer as C is told it
pub cached_export : {s : List ℕ} {o : CachedOutcome} {c x w m : List ℕ} (r : DK.Cached)
    → CachedExports s o c x w m (told r.answer).number (told r.answer).place (value_or 0 r.answer) (when r.hit 1)
    → o.verdict.place < word_end → (n at : ℕ) (k0 : ℕ) (k1 : ℕ) → n ≡ (told r.answer).number
    → ((told r.answer).place < word_end → at ≡ (told r.answer).place)
    → k0 ≡ value_or 0 r.answer → k1 ≡ when r.hit 1
    → CachedExports s o c x w m n at k0 k1
cached_export r says short n at k0 k1 e f g0 g1 = record {
  bytes = says.bytes;
  number = e ∙ says.number;
  place = at_place (told r.answer).place _ at says.place short f;
  count = g0 ∙ says.count;
  hit = g1 ∙ says.hit;
  costs = says.costs;
  choices = says.choices;
  work = says.work;
  store = says.store;
}

-- the batch call's answer as C is told it
pub batch_export : {s : List ℕ} {o : BatchOutcome} {c x rs w : List ℕ} (r : Result ℕ Refusal)
    → BatchExports s o c x rs w (told r).number (told r).place (value_or 0 r)
    → o.verdict.place < word_end → (n at : ℕ) (k0 : ℕ) → n ≡ (told r).number
    → ((told r).place < word_end → at ≡ (told r).place)
    → k0 ≡ value_or 0 r
    → BatchExports s o c x rs w n at k0
batch_export r says short n at k0 e f g0 = record {
  bytes = says.bytes;
  number = e ∙ says.number;
  place = at_place (told r).place _ at says.place short f;
  count = g0 ∙ says.count;
  costs = says.costs;
  choices = says.choices;
  results = says.results;
  work = says.work;
}

-- the point records call's answer as C is told it
pub list_export : {s : List ℕ} {o : ListOutcome} {new : List DP.Point} {w : List ℕ} (r : Result ℕ Refusal)
    → ListExports s o new w (told r).number (told r).place (value_or 0 r)
    → o.verdict.place < word_end → (n at : ℕ) (k0 : ℕ) → n ≡ (told r).number
    → ((told r).place < word_end → at ≡ (told r).place)
    → k0 ≡ value_or 0 r
    → ListExports s o new w n at k0
list_export r says short n at k0 e f g0 = record {
  bytes = says.bytes;
  number = e ∙ says.number;
  place = at_place (told r).place _ at says.place short f;
  count = g0 ∙ says.count;
  points = says.points;
  work = says.work;
}

-- the bound call's answer as C is told it
pub bound_export : {s : List ℕ} {o : BoundOutcome} (r : Result (List ℕ) Refusal)
    → BoundExports s o (told r).number (told r).place (value_or (replicate max_objectives 0) r)
    → o.verdict.place < word_end → (n at : ℕ) (k0 : List ℕ) → n ≡ (told r).number
    → ((told r).place < word_end → at ≡ (told r).place)
    → k0 ≡ value_or (replicate max_objectives 0) r
    → BoundExports s o n at k0
bound_export r says short n at k0 e f g0 = record {
  bytes = says.bytes;
  number = e ∙ says.number;
  place = at_place (told r).place _ at says.place short f;
  least = g0 ∙ says.least;
}
