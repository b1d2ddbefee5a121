-- Strings in even steps: how long they are together, and those of entries by the bytes of the entries.
use mathlib.Core.Path.{◌≡◌, refl, ap, ◌∙◌}
use mathlib.Core.List.{List, [], ◌++◌, append-nil}
use Prim.Native.Nat.{ℕ, zero, suc, ◌+◌, ◌-◌, ◌*◌, ◌≤◌, ◌<◌}
use native.Mathlib.Omega.{arith}
use native.Mathlib.Nat.{le_refl}
use lib.ListN.{length, drop, length-append, length-drop}
use lib.Seq.{length-take-le}
use Rattle.form_turning.specs.Steps.{steps, entry_bytes}

-- a single step goes nowhere
pub steps_one : (stride i : ℕ) (f : ℕ → List ℕ) → steps 1 stride f i ≡ f i
unfolding steps
steps_one stride i f = append-nil (f i)

-- one step less
last_step : (n stride : ℕ) → (suc (suc n) - 1) * stride ≡ (suc n - 1) * stride + stride
last_step n stride =
    let less : suc (suc n) - 1 ≡ suc n = omega arith in
    let none : suc n - 1 ≡ n = omega arith in
    rw (less, none) (omega arith)

-- the lengths are known of strings that start inside
pub steps_length : (f : ℕ → List ℕ) (wide span end n stride i : ℕ)
    → ((j : ℕ) → j + span ≤ end → length (f j) ≡ wide) → (0 < n → i + ((n - 1) * stride + span) ≤ end)
    → length (steps n stride f i) ≡ n * wide
unfolding steps
steps_length f wide span end zero stride i long h = omega arith
steps_length f wide span end (suc zero) stride i long h =
    omega (arith, long i (omega (arith, h (omega arith))), length-append (f i) [])
steps_length f wide span end (suc (suc n)) stride i long h =
    let last = last_step n stride in
    let inside : i + ((suc (suc n) - 1) * stride + span) ≤ end = h (omega arith) in
    let rest = steps_length f wide span end (suc n) stride (i + stride) long (λ _. omega arith) in
    omega (arith, long i (omega arith), rest, length-append (f i) (steps (suc n) stride f (i + stride)))

-- and of strings that have one length anywhere
pub steps_each : (f : ℕ → List ℕ) (wide n stride i : ℕ) → ((j : ℕ) → length (f j) ≡ wide)
    → length (steps n stride f i) ≡ n * wide
steps_each f wide n stride i long =
    let end : ℕ = i + ((n - 1) * stride + 0) in
    steps_length f wide 0 end n stride i (λ j h. long j) (λ _. le_refl end)

pub entry_length : (s : List ℕ) (i : ℕ) → i + 4 ≤ length s → length (entry_bytes s i) ≡ 4
unfolding entry_bytes
entry_length s i h = length-take-le 4 (drop i s) (omega (arith, length-drop i s))

-- steps of entries are steps of four times as many bytes
pub steps_bytes : (f g : ℕ → List ℕ) (span end n stride i : ℕ) → ((j : ℕ) → j + span < end → f j ≡ g (4 * j))
    → i + ((n - 1) * stride + span) < end → steps n stride f i ≡ steps n (4 * stride) g (4 * i)
unfolding steps
steps_bytes f g span end zero stride i same h = refl
steps_bytes f g span end (suc zero) stride i same h = ap (λ (l : List ℕ). l ++ []) (same i (omega arith))
steps_bytes f g span end (suc (suc n)) stride i same h =
    let last = last_step n stride in
    let rest = steps_bytes f g span end (suc n) stride (i + stride) same (omega arith) in
    let place : 4 * (i + stride) ≡ 4 * i + 4 * stride = omega arith in
    λ k. same i (omega arith) k ++ (rest ∙ ap (steps (suc n) (4 * stride) g) place) k
