-- A store that keeps the forms that were stored last: finding tells exactly those that it keeps, and storing adds one.
use mathlib.Core.Path.{◌≡◌, refl, sym, ap, ◌∙◌, subst}
use mathlib.Core.Bool.{Bool, true, false}
use mathlib.Core.List.{List, [], ◌∷◌, ◌++◌}
use Prim.Native.Nat.{ℕ, suc, ◌+◌, ◌*◌, ◌/◌, ◌≤◌, ◌<◌, min}
use native.Mathlib.Omega.{arith}
use native.Mathlib.Nat.{zero-add}
use lib.Dec.{ltb}
use lib.ListN.{length, length-append}
use lib.Seq.{append_snoc}
use borrow.Author.Tests.{lt-ltb, le-ltb}
use Rattle.model.specs.Encoding.{four_bytes}
use Rattle.cache_answers.specs.Stores.{slot_size, max_slots, next_at, slots_in}
use Rattle.cache_answers.specs.Stores.{find_form, next_slot, slot_after, stored}
use Rattle.cache_answers.specs.Runs.{is_among}
use Rattle.cache_answers.proofs.Ring.{is_one_of, round, newest_among, Ring, ring_length, ring_next, ring_turns}
use Rattle.cache_answers.proofs.Slots.{Stands, Fits, Holds}
use Rattle.cache_answers.proofs.Reading.{word_read}
use Rattle.cache_answers.proofs.Finding.{answer_of, SlotsHold, Found, find_none, find_some, slots_written}
use Rattle.cache_answers.proofs.Storing.{stored_length, stored_next, stored_holds, stored_others}

-- a store of m slots: what stands in those before the next one, and in those from it on
pub record Keeps (m : ℕ) (forms : List (List ℕ)) (store : List ℕ) : Type 0 where
  pub slots : slots_in store ≡ m
  pub before : List (List ℕ)
  pub after : List (List ℕ)
  pub some : 1 ≤ length after
  pub ring : Ring m forms before after
  pub next : Stands (four_bytes (length before)) next_at store
  pub held : SlotsHold store 0 (before ++ after)

-- ## finding

module _ (m : ℕ) (forms : List (List ℕ)) (store : List ℕ) (keeps : Keeps m forms store) (form : List ℕ)
    (some : 0 < length form) where
  abbrev all : List (List ℕ)
  all = keeps.before ++ keeps.after

  all_length : length all ≡ m
  all_length =
      omega (
        arith,
        length-append keeps.before keeps.after,
        ring_length m forms keeps.before keeps.after keeps.ring,
      )

  all_among : is_one_of form all ≡ is_among form m forms
  all_among =
      sym (round form keeps.before keeps.after)
      ∙ ap (is_one_of form) (sym keeps.ring)
      ∙ newest_among form some m forms

  many : slots_in store ≡ length all
  many = keeps.slots ∙ sym all_length

  pub found_held : is_among form m forms ≡ true
      → Found store (slots_in store) form (find_form (slots_in store) 0 form store)
  found_held e =
      rw many
      (subst (λ (n : ℕ). Found store n form (find_form (length all) 0 form store)) (zero-add (length all))
      (find_some store form 0 all keeps.held (all_among ∙ e)))

  pub found_among : ltb (find_form (slots_in store) 0 form store) (slots_in store) ≡ is_among form m forms
  found_among = go (is_among form m forms) refl
    where
      go : (b : Bool) → is_among form m forms ≡ b → ltb (find_form (slots_in store) 0 form store) (slots_in store) ≡ b
      go true e = lt-ltb _ _ (found_held e).inside
      go false e =
          rw many
          (le-ltb (find_form (length all) 0 form store) (length all)
          (omega (arith, find_none store form 0 all keeps.held (all_among ∙ e))))

-- ## storing

module _ (m : ℕ) (forms : List (List ℕ)) (store form : List ℕ) (slots : slots_in store ≡ m)
    (fits : Fits form (answer_of form)) where
  abbrev after_store : List ℕ
  after_store = stored form (answer_of form) store

  module _ (before : List (List ℕ)) (old : List ℕ) (after : List (List ℕ)) (ring : Ring m forms before (old ∷ after))
      (next : Stands (four_bytes (length before)) next_at store)
      (held : SlotsHold store 0 (before ++ (old ∷ after))) where
    all_slots : length before + suc (length after) ≡ slots_in store
    all_slots = ring_length m forms before (old ∷ after) ring ∙ sym slots

    some : 1 ≤ slots_in store
    some = omega (arith, all_slots)

    next_is : next_slot store ≡ length before
    unfolding next_slot
    next_is =
        let inside : length before < slots_in store = omega (arith, all_slots) in
        rw (word_read store next_at (length before) next, lt-ltb (length before) (slots_in store) inside) refl

    kept_slots : slots_in after_store ≡ m
    unfolding slots_in
    kept_slots =
        ap (λ (l : ℕ). min (l / slot_size) max_slots) (stored_length form (answer_of form) store fits some) ∙ slots

    held_after : SlotsHold after_store 0 (before ++ (form ∷ after))
    held_after =
        let here : next_slot store ≡ 0 + length before = next_is ∙ sym (zero-add (length before)) in
        slots_written store after_store 0 before old form after
        (λ j n. stored_others form (answer_of form) store fits some j (λ e. n (e ∙ here)))
        (subst (λ (j : ℕ). Holds after_store (slot_size * j) form (answer_of form)) here
        (stored_holds form (answer_of form) store fits some)) held

    next_after : (k : ℕ) → slot_after (slots_in store) (length before) ≡ k → Stands (four_bytes k) next_at after_store
    next_after k e =
        subst (λ (j : ℕ). Stands (four_bytes j) next_at after_store) (ap (slot_after (slots_in store)) next_is ∙ e)
        (stored_next form (answer_of form) store fits some)

  stored_kept : (before after : List (List ℕ)) → 1 ≤ length after → Ring m forms before after
      → Stands (four_bytes (length before)) next_at store → SlotsHold store 0 (before ++ after)
      → Keeps m (form ∷ forms) after_store
  unfolding slot_after
  stored_kept before [] some ring next held = absurd (omega arith)
  stored_kept before (old ∷ []) some ring next held =
      let end : slots_in store ≤ suc (length before) = omega (arith, all_slots before old [] ring next held) in
      record {
        slots = kept_slots before old [] ring next held;
        before = [];
        after = before ++ (form ∷ []);
        some = omega (arith, length-append before (form ∷ []));
        ring = ring_turns m (form ∷ forms) (before ++ (form ∷ [])) (ring_next m forms before old [] form ring);
        next = next_after before old [] ring next held 0 (rw (le-ltb (suc (length before)) (slots_in store) end) refl);
        held = held_after before old [] ring next held;
      }
  stored_kept before (old ∷ (y ∷ ys)) some ring next held =
      let more : suc (length before) < slots_in store = omega (arith, all_slots before old (y ∷ ys) ring next held) in
      let one : suc (length before) ≡ length (before ++ (form ∷ [])) =
      omega (arith, length-append before (form ∷ [])) in
      record {
        slots = kept_slots before old (y ∷ ys) ring next held;
        before = before ++ (form ∷ []);
        after = y ∷ ys;
        some = omega arith;
        ring = ring_next m forms before old (y ∷ ys) form ring;
        next =
            next_after before old (y ∷ ys) ring next held (length (before ++ (form ∷ [])))
            (rw (lt-ltb (suc (length before)) (slots_in store) more) one);
        held = rw (append_snoc before form (y ∷ ys)) (held_after before old (y ∷ ys) ring next held);
      }

pub keeps_stored : (m : ℕ) (forms : List (List ℕ)) (store form : List ℕ) → Keeps m forms store
    → Fits form (answer_of form) → Keeps m (form ∷ forms) (stored form (answer_of form) store)
keeps_stored m forms store form keeps fits =
    stored_kept m forms store form keeps.slots fits keeps.before keeps.after keeps.some keeps.ring
    keeps.next keeps.held
