-- What a save writes, part after part, is a form stored with its answer.
use mathlib.Core.Path.{◌≡◌, ◌∙◌, ap}
use mathlib.Core.List.{List}
use Prim.Native.Nat.{ℕ, ◌+◌, ◌*◌}
use lib.ListN.{length}
use Rattle.model.specs.Encoding.{four_bytes, word_bytes}
use Rattle.form_canonical.specs.Places.{over_at}
use Rattle.cache_answers.specs.Stores.{slot_size, costs_at, choices_at, length_at, count_at, next_at, slots_in, Answer}
use Rattle.cache_answers.specs.Stores.{next_slot, slot_after, filled, stored}

module _ (form : List ℕ) (a : Answer) (store : List ℕ) where
  pub slot_filled : (at : ℕ) {s₁ s₂ s₃ s₄ s₅ : List ℕ} → s₁ ≡ over_at at form store
      → s₂ ≡ over_at (at + costs_at) (word_bytes a.costs) s₁
      → s₃ ≡ over_at (at + choices_at) a.choices s₂
      → s₄ ≡ over_at (at + length_at) (four_bytes (length form)) s₃
      → s₅ ≡ over_at (at + count_at) (four_bytes a.count) s₄
      → s₅ ≡ filled at form a store
  unfolding filled
  slot_filled at e₁ e₂ e₃ e₄ e₅ =
      e₅ ∙ ap (over_at (at + count_at) (four_bytes a.count))
      (e₄ ∙ ap (over_at (at + length_at) (four_bytes (length form)))
      (e₃ ∙ ap (over_at (at + choices_at) a.choices)
      (e₂ ∙ ap (over_at (at + costs_at) (word_bytes a.costs)) e₁)))

  pub all_saved : {k after : ℕ} {s s' : List ℕ} → k ≡ next_slot store → after ≡ slot_after (slots_in store) k
      → s ≡ filled (slot_size * k) form a store → s' ≡ over_at next_at (four_bytes after) s → s' ≡ stored form a store
  unfolding stored
  all_saved {after = after} n m e e' = rw (← n, ← m) (e' ∙ ap (over_at next_at (four_bytes after)) e)
