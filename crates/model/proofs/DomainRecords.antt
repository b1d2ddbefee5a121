-- The domain records, in both directions: from sizes to bytes and back.
use mathlib.Core.Path.{◌≡◌, refl, ap, sym, ◌∙◌}
use mathlib.Core.List.{List, [], ◌∷◌, ◌++◌}
use Prim.Native.Nat.{ℕ, zero, suc, ◌+◌, ◌*◌, ◌≤◌}
use native.Mathlib.Omega.{arith}
use native.Mathlib.Nat.{add-zero}
use lib.ListN.{length, drop, length-drop}
use lib.Seq.{drop-drop, drop-cons}
use Rattle.model.specs.Basics.{All}
use Rattle.model.specs.Limits.{max_domain}
use Rattle.model.specs.Refusals.{bad_domain, accepted}
use Rattle.model.specs.Problems.{DomainSize}
use Rattle.model.specs.Encoding.{letter_d, letter_o, domain_bytes}
use Rattle.model.specs.Reading.{domain_size, domain_number, domains_verdict, domains_at}
use Rattle.model.proofs.Verdicts.{first_none, none_first, when_none, none_when, record_accepts, accepts_record}
use Rattle.model.proofs.Marks.{Marked, start_marked, marked_start, marked_list, not_outside, inside}

-- what number 0 says of a domain record
pub record GoodDomain (s : List ℕ) : Type 0 where
  pub start : Marked letter_d letter_o 1 s
  pub size : DomainSize (domain_size s)

pub domain_good : (s : List ℕ) → domain_number s ≡ 0 → GoodDomain s
unfolding domain_number
domain_good s h =
    let both = first_none _ _ h in
    record {
      start = start_marked letter_d letter_o 1 s both.0;
      size = not_outside max_domain (domain_size s) (when_none _ bad_domain refl both.1);
    }

good_domain : (s : List ℕ) → GoodDomain s → domain_number s ≡ 0
unfolding domain_number
good_domain s g =
    none_first _ (marked_start letter_d letter_o 1 s g.start)
    (none_when bad_domain (inside max_domain (domain_size s) g.size))

-- ## from sizes to bytes

pub domains_read : (ds rest s : List ℕ) (at : ℕ) → All DomainSize ds → drop at s ≡ domain_bytes ds ++ rest
    → (domains_verdict (length ds) s at ≡ accepted) × (domains_at (length ds) s at ≡ ds)
unfolding domain_bytes domains_verdict domains_at
domains_read [] rest s at k h = (refl, refl)
domains_read (d ∷ ds) rest s at k h =
    let l = domain_bytes ds ++ rest in
    let after : drop (at + 3) s ≡ l = sym (drop-drop 3 at s) ∙ ap (drop 3) h in
    let start : Marked letter_d letter_o 1 (letter_d ∷ letter_o ∷ d ∷ l) = record {
      letter = refl;
      next = refl;
      long = omega arith;
    } in
    let good : GoodDomain (drop at s) = rw h (record { start = start; size = k.0 }) in
    let more = domains_read ds rest s (at + 3) k.1 after in (
      accepts_record at (domain_number (drop at s)) (good_domain (drop at s) good) more.0,
      λ i. domain_size (h i) ∷ more.1 i,
    )

pub length_domain_bytes : (ds : List ℕ) → length (domain_bytes ds) ≡ 3 * length ds
unfolding domain_bytes
length_domain_bytes [] = refl
length_domain_bytes (d ∷ ds) =
    let k : length (domain_bytes ds) ≡ 3 * length ds = length_domain_bytes ds in
    omega arith

-- ## from bytes to sizes

pub length_domains_at : (n : ℕ) (s : List ℕ) (at : ℕ) → length (domains_at n s at) ≡ n
unfolding domains_at
length_domains_at zero s at = refl
length_domains_at (suc n) s at = ap suc (length_domains_at n s (at + 3))

pub domains_written : (n : ℕ) (s : List ℕ) (at : ℕ) → (domains_verdict n s at).number ≡ 0
    → domain_bytes (domains_at n s at) ++ drop (at + 3 * n) s ≡ drop at s
unfolding domains_verdict domains_at domain_bytes
domains_written zero s at h = rw add-zero
domains_written (suc n) s at h =
    let both = record_accepts at (domain_number (drop at s)) (domains_verdict n s (at + 3)) h in
    let l = drop at s in
    let start : Marked letter_d letter_o 1 l = (domain_good l both.0).start in
    let place : at + 3 * suc n ≡ at + 3 + 3 * n = omega arith in
    rw (place, domains_written n s (at + 3) both.1, ← drop-drop 3 at s, ← drop-cons l 2 0 start.long)
    (sym (marked_list letter_d letter_o 1 l start))

-- records that are not refused lie in the bytes
pub domains_end : (n : ℕ) (s : List ℕ) (at : ℕ) → at ≤ length s → (domains_verdict n s at).number ≡ 0
    → at + 3 * n ≤ length s
unfolding domains_verdict
domains_end zero s at h e = omega arith
domains_end (suc n) s at h e =
    let both = record_accepts at (domain_number (drop at s)) (domains_verdict n s (at + 3)) e in
    omega (
      arith,
      domains_end n s (at + 3) (omega (arith, (domain_good (drop at s) both.0).start.long, length-drop at s))
          both.1,
    )

pub domain_sizes : (n : ℕ) (s : List ℕ) (at : ℕ) → (domains_verdict n s at).number ≡ 0
    → All DomainSize (domains_at n s at)
unfolding domains_verdict domains_at
domain_sizes zero s at h = tt
domain_sizes (suc n) s at h =
    let both = record_accepts at (domain_number (drop at s)) (domains_verdict n s (at + 3)) h in
    ((domain_good (drop at s) both.0).size, domain_sizes n s (at + 3) both.1)
