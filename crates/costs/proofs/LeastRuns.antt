-- The least of a run of numbers: the least over runs that follow each other is the least of one run. And rows in even
-- steps: where the next one starts, and that it ends with the last one or before.
use mathlib.Core.Path.{◌≡◌}
use Prim.Native.Nat.{ℕ, zero, suc, ◌+◌, ◌-◌, ◌*◌, ◌≤◌, ◌<◌, min}
use native.Mathlib.Omega.{arith}
use native.Mathlib.Nat.{add-zero, zero-add, zero-mul, suc-mul, mul-le-mul_right}
use Rattle.model.specs.Bounds.{least_to}

pub least_same : (n : ℕ) (f g : ℕ → ℕ) → ((a : ℕ) → f a ≡ g a) → least_to n f ≡ least_to n g
unfolding least_to
least_same zero f g h = h 0
least_same (suc n) f g h = rw (least_same n f g h, h (suc n))

-- a run of n + 1, then one of m + 1
least_join : (n m : ℕ) (f : ℕ → ℕ) → least_to (n + suc m) f ≡ min (least_to n f) (least_to m (λ b. f (suc n + b)))
unfolding least_to
least_join n zero f =
    let k : n + 1 ≡ suc n = omega arith in
    rw (k, add-zero)
least_join n (suc m) f =
    let k : n + suc (suc m) ≡ suc (n + suc m) = omega arith in
    let l : suc n + suc m ≡ suc (n + suc m) = omega arith in
    rw (k, l) (omega (arith, least_join n m f))

-- n + 1 runs of m + 1
least_rows : (n m : ℕ) (f : ℕ → ℕ) → least_to n (λ a. least_to m (λ b. f (a * suc m + b))) ≡ least_to (n * suc m + m) f
unfolding least_to
least_rows zero m f = simp (zero-mul, zero-add)
least_rows (suc n) m f =
    let here : suc n * suc m ≡ suc (n * suc m + m) = omega (arith, suc-mul n (suc m)) in
    let end : suc n * suc m + m ≡ n * suc m + m + suc m = omega (arith, here) in
    rw (least_rows n m f, end, here, least_join (n * suc m + m) m f)

-- r runs of d
pub least_run : (r d : ℕ) (f : ℕ → ℕ) → 1 ≤ r → 1 ≤ d
    → least_to (r - 1) (λ a. least_to (d - 1) (λ b. f (a * d + b))) ≡ least_to (r * d - 1) f
least_run zero d f h l = absurd (omega arith)
least_run (suc r) zero f h l = absurd (omega arith)
least_run (suc r) (suc d) f h l =
    let end : suc r * suc d - 1 ≡ r * suc d + d = omega (arith, suc-mul r (suc d)) in
    let a : suc r - 1 ≡ r = omega arith in
    let b : suc d - 1 ≡ d = omega arith in
    rw (end, a, b) (least_rows r d f)

pub row_next : (first stride i : ℕ) → 1 ≤ i → first + (i - 1) * stride + stride ≡ first + i * stride
row_next first stride zero h = absurd (omega arith)
row_next first stride (suc i) h =
    let e : suc i - 1 ≡ i = omega arith in
    rw e (omega (arith, suc-mul i stride))

pub row_inside : (first stride count rows i : ℕ) → i < rows
    → first + i * stride + count ≤ first + (rows - 1) * stride + count
row_inside first stride count rows i h =
    let l : i ≤ rows - 1 = omega arith in
    omega (arith, mul-le-mul_right stride l)
