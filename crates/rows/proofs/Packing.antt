-- Costs and values as they are written, number by number: a cost by its two numbers, four values to a number.
use mathlib.Core.Path.{◌≡◌, ap₂, ◌∙◌}
use mathlib.Core.Logic.{⊎_elim}
use mathlib.Core.List.{List}
use Prim.Native.Nat.{ℕ, zero, suc, ◌+◌, ◌-◌, ◌*◌, ◌/◌, ◌%◌, ◌^◌, ◌≤◌, ◌<◌}
use native.Mathlib.Omega.{arith}
use native.Mathlib.Nat.{add-zero}
use borrow.Author.Count.{below_more}
use borrow.Author.Tests.{ltb-true, ltb-false}
use lib.Dec.{ltb}
use lib.ListN.{length, get_or, set, length-set}
use lib.Seq.{get_or-set_same, get_or-set_other}
use Rattle.model.specs.Limits.{word_end}
use Rattle.model.proofs.Bits.{test}
use Rattle.model.proofs.Numbers.{bytes_of}
use Rattle.rows.specs.Rows.{cost_at, value_at, Changed}
use Rattle.rows.proofs.Changing.{changed_none, changed_set}

-- the first i costs are written
pub record CostsTo (at : ℕ) (costs work work' : List ℕ) (i : ℕ) : Type 0 where
  pub changed : Changed at 8 work work'
  pub written : (j : ℕ) → j < i → cost_at work' (at + 2 * j) ≡ get_or costs j 0

pub costs_none : (at : ℕ) (costs work : List ℕ) → CostsTo at costs work work 0
costs_none at costs work = record { changed = changed_none at 8 work; written = λ j l. absurd (omega arith) }

module _ {at : ℕ} {costs work work' : List ℕ} {i : ℕ} (u : CostsTo at costs work work' i)
    (more : i < 4) (inside : at + 8 ≤ length work) (cost : ℕ) (is : cost ≡ get_or costs i 0) where
  abbrev low : List ℕ
  low = set work' (at + 2 * i) (cost % word_end)

  abbrev both : List ℕ
  both = set low (at + 2 * i + 1) (cost / word_end)

  elsewhere : (j : ℕ) → (j ≡ at + 2 * i → ⊥) → (j ≡ at + 2 * i + 1 → ⊥) → get_or both j 0 ≡ get_or work' j 0
  elsewhere j a b =
      get_or-set_other low (at + 2 * i + 1) j (cost / word_end) 0 b
      ∙ get_or-set_other work' (at + 2 * i) j (cost % word_end) 0 a

  low_there : get_or both (at + 2 * i) 0 ≡ cost % word_end
  low_there =
      get_or-set_other low (at + 2 * i + 1) (at + 2 * i) (cost / word_end) 0 (λ e. omega arith)
      ∙ get_or-set_same work' (at + 2 * i) (cost % word_end) 0 (omega (arith, u.changed.long))

  high_there : get_or both (at + 2 * i + 1) 0 ≡ cost / word_end
  high_there =
      get_or-set_same low (at + 2 * i + 1) (cost / word_end) 0
      (omega (arith, u.changed.long, length-set work' (at + 2 * i) (cost % word_end)))

  new : cost_at both (at + 2 * i) ≡ get_or costs i 0
  unfolding cost_at
  new =
      let whole : cost % word_end + word_end * (cost / word_end) ≡ cost = omega arith in
      ap₂ (λ (a b : ℕ). a + word_end * b) low_there high_there ∙ whole ∙ is

  old : (j : ℕ) → j < i → cost_at both (at + 2 * j) ≡ get_or costs j 0
  unfolding cost_at
  old j l =
      ap₂ (λ (a b : ℕ). a + word_end * b) (elsewhere (at + 2 * j) (λ e. omega arith) (λ e. omega arith))
      (elsewhere (at + 2 * j + 1) (λ e. omega arith) (λ e. omega arith))
      ∙ u.written j l

  pub costs_more : CostsTo at costs work both (i + 1)
  costs_more =
      record {
        changed = changed_set (changed_set u.changed (at + 2 * i) (cost % word_end) (omega arith) (omega arith))
            (at + 2 * i + 1) (cost / word_end) (omega arith) (omega arith);
        written = below_more (λ j. cost_at both (at + 2 * j) ≡ get_or costs j 0) i old new;
      }

-- the values of the first k numbers are written
pub record ValuesTo (at : ℕ) (choice work work' : List ℕ) (k : ℕ) : Type 0 where
  pub changed : Changed at 6 work work'
  pub written : (v : ℕ) → v < 4 * k → value_at work' at v ≡ get_or choice v 0

pub values_none : (at : ℕ) (choice work : List ℕ) → ValuesTo at choice work work 0
values_none at choice work = record { changed = changed_none at 6 work; written = λ v l. absurd (omega arith) }

module _ {at : ℕ} {choice work work' : List ℕ} {k : ℕ} (u : ValuesTo at choice work work' k)
    (more : k < 6) (inside : at + 6 ≤ length work) (bytes : (j : ℕ) → j < 4 → get_or choice (4 * k + j) 0 < 256)
    (number : ℕ)
    (is : number
    ≡ get_or choice (4 * k) 0 + 256 * get_or choice (4 * k + 1) 0 + 65536 * get_or choice (4 * k + 2) 0
    + 16777216 * get_or choice (4 * k + 3) 0) where
  abbrev next : List ℕ
  next = set work' (at + k) number

  there : get_or next (at + k) 0 ≡ number
  there = get_or-set_same work' (at + k) number 0 (omega (arith, u.changed.long))

  abbrev byte : ℕ → ℕ
  byte j = get_or choice (4 * k + j) 0

  the_bytes : (number / 1 % 256 ≡ get_or choice (4 * k) 0) × (number / 256 % 256 ≡ byte 1)
      × (number / 65536 % 256 ≡ byte 2) × (number / 16777216 % 256 ≡ byte 3)
  the_bytes =
      bytes_of (get_or choice (4 * k) 0) (byte 1) (byte 2) (byte 3) number (rw add-zero at (bytes 0 (omega arith)))
      (bytes 1 (omega arith)) (bytes 2 (omega arith)) (bytes 3 (omega arith)) is

  -- byte j of the number that is written
  byte_there : (j : ℕ) → j < 4 → value_at next at (4 * k + j) ≡ number / 256 ^ j % 256
  unfolding value_at
  byte_there j l =
      let place : (4 * k + j) / 4 ≡ k = omega arith in
      let left : (4 * k + j) % 4 ≡ j = omega arith in
      rw (place, left, there)

  new_values : (j : ℕ) → j < 4 → number / 256 ^ j % 256 ≡ get_or choice (4 * k + j) 0
  new_values zero l = rw add-zero the_bytes.0
  new_values (suc zero) l = the_bytes.1
  new_values (suc (suc zero)) l = the_bytes.2
  new_values (suc (suc (suc zero))) l = the_bytes.3
  new_values (suc (suc (suc (suc j)))) l = absurd (omega arith)

  old_values : (v : ℕ) → v < 4 * k → value_at next at v ≡ get_or choice v 0
  unfolding value_at
  old_values v l =
      let kept : get_or next (at + v / 4) 0 ≡ get_or work' (at + v / 4) 0 =
      get_or-set_other work' (at + k) (at + v / 4) number 0 (λ e. omega arith) in
      rw kept (u.written v l)

  pub values_more : ValuesTo at choice work next (k + 1)
  values_more =
      record {
        changed = changed_set u.changed (at + k) number (omega arith) (omega arith);
        written = λ v l. ⊎_elim
            (λ t. old_values v (ltb-true v (4 * k) t))
            (λ t.
            let high : 4 * k ≤ v = ltb-false v (4 * k) t in
            let is : 4 * k + (v - 4 * k) ≡ v = omega arith in
            rw is at (byte_there (v - 4 * k) (omega arith) ∙ new_values (v - 4 * k) (omega arith)))
            (test (ltb v (4 * k)));
      }
