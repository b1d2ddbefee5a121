-- An answer told by the caller's room: 15, or the answer in the buffers.
use mathlib.Core.Path.{◌≡◌, refl}
use mathlib.Core.Bool.{Bool}
use mathlib.Core.List.{List}
use Prim.Native.Nat.{ℕ, ◌≤◌, ◌<◌}
use lib.ListN.{length, replicate}
use borrow.Author.Tests.{lt-ltb, le-ltb}
use Rattle.std.specs.Prelude.{Ok, Err}
use Rattle.model.specs.Refusals.{full, verdict}
use Rattle.model.specs.Reasons.{number_of}
use Rattle.model.specs.declared.Refusal.{Refusal}
use Rattle.model.specs.Calls.{over}
use Rattle.cache_answers.specs.Stores.{Answer}
use Rattle.cache_answers.specs.Says.{CachedSays}
use Rattle.cache_call.specs.Steps.{cached, judged}

module _ (hit : Bool) (a : Answer) (room : ℕ) (costs choices work store : List ℕ) where
  pub judged_full : room < a.count → (f : Refusal) → verdict (number_of f.reason) f.place ≡ verdict full 0
      → {work' store' : List ℕ} → work' ≡ replicate (length work) 0 → store' ≡ store
      → CachedSays (judged hit a room costs choices work store) costs choices work' store' (cached (Err f) hit)
  unfolding judged
  judged_full h f is w s =
      let more = lt-ltb room a.count h in
      record {
        verdict = rw more is;
        count = rw more refl;
        hit = refl;
        costs = rw more refl;
        choices = rw more refl;
        work = w;
        store = s;
      }

  pub judged_fits : a.count ≤ room → {costs' choices' work' store' : List ℕ} → costs' ≡ over a.costs costs
      → choices' ≡ over a.choices choices → work' ≡ replicate (length work) 0 → store' ≡ store
      → CachedSays (judged hit a room costs choices work store) costs' choices' work' store' (cached (Ok a.count) hit)
  unfolding judged
  judged_fits h c x w s =
      let fits = le-ltb room a.count h in
      record {
        verdict = rw fits refl;
        count = rw fits refl;
        hit = refl;
        costs = rw fits c;
        choices = rw fits x;
        work = w;
        store = s;
      }
