-- The tuples of a function: something is found, or nothing and there are three small sizes at most.
use mathlib.Core.Path.{◌≡◌, refl, sym, ap, subst, ◌∙◌}
use mathlib.Core.Bool.{Bool}
use mathlib.Core.List.{List, [], ◌∷◌, append-nil}
use Prim.Native.Nat.{ℕ, zero, suc, ◌+◌, ◌*◌, ◌≤◌, ◌<◌}
use native.Mathlib.Omega.{arith}
use lib.ListN.{length, get_or, take, length-append, length-map}
use Rattle.model.specs.Basics.{All, pick}
use Rattle.model.specs.Problems.{DomainSize}
use Rattle.text_words.specs.Reads.{words_at}
use Rattle.text_networks.specs.Findings.{Words, fine, dialect, find_if, runs, values_in}
use Rattle.text_networks.specs.Networks.{repeated_tuple, tuples_of, tuple_finding}
use Rattle.text_networks.proofs.Entries.{product}
use Rattle.text_checking.specs.declared.Found.{Found}
use Rattle.text_checking.specs.declared.Found.TheVariants.{Nothing, Dialect}
use Rattle.text_checking.specs.Codes.{found_of, both}
use Rattle.text_checking.specs.Sizes.{size_held, sizes_held, scope_sizes}
use Rattle.text_checking.specs.Steps.{Checked, Plain, TableSays, tuples_finding, record_bytes}
use Rattle.text_checking.specs.declared.Step as DS
use Rattle.text_checking.specs.declared.Declared as DD
use Rattle.text_checking.specs.declared.Far as DF
use Rattle.text_checking.specs.declared.Counted as DC
use Rattle.text_checking.proofs.Codes.{both_none, both_more, both_assoc, both_second, both_zero, found_both}
use Rattle.text_checking.proofs.Codes.{found_fine, test_code, test_light, some_rank, none_light}
use Rattle.text_checking.proofs.Entries.{small_held}
use Rattle.text_checking.proofs.Scopes.{far_count}

-- ## three numbers at most

pub three_taken : (l : List ℕ) → length l ≤ 3
    → take (length l) (get_or l 0 0 ∷ get_or l 1 0 ∷ get_or l 2 0 ∷ []) ≡ l
three_taken [] h = refl
three_taken (a ∷ []) h = refl
three_taken (a ∷ b ∷ []) h = refl
three_taken (a ∷ b ∷ c ∷ []) h = refl
three_taken (a ∷ b ∷ c ∷ d ∷ l) h = absurd (omega arith)

pub at_any : (l : List ℕ) (i a b : ℕ) → i < length l → get_or l i a ≡ get_or l i b
at_any [] i a b h = absurd (omega arith)
at_any (x ∷ l) zero a b h = refl
at_any (x ∷ l) (suc i) a b h = at_any l i a b (omega arith)

pub three_product : (l : List ℕ) → length l ≤ 3 → product l ≡ get_or l 0 1 * (get_or l 1 1 * get_or l 2 1)
three_product [] h = refl
three_product (a ∷ []) h = refl
three_product (a ∷ b ∷ []) h = refl
three_product (a ∷ b ∷ c ∷ []) h = omega arith
three_product (a ∷ b ∷ c ∷ d ∷ l) h = absurd (omega arith)

-- ## small sizes

pub small_sizes : (s entries : List ℕ) → All DomainSize (sizes_held s entries) → sizes_held s entries ≡ entries
small_sizes s [] h = refl
small_sizes s (e ∷ es) h =
    let first : size_held s e ≡ e = small_held s e (omega (arith, h.0)) in
    rw (first, small_sizes s es h.1)

pub plain_sizes : {s : List ℕ} {start : DC.Counted} {entries : List ℕ} {far : DF.Far} (d : DD.Declared)
    → Plain s start entries far → scope_sizes s entries far d ≡ entries
unfolding values_in
plain_sizes {s} {start} {entries} {far} d p =
    rw p.near (append-nil (sizes_held s entries) ∙ small_sizes s entries p.sizes)

-- nothing is found yet, behind what is to hold then
pub plain_before : (s : List ℕ) (start : DC.Counted) (entries : List ℕ) (far : DF.Far)
    → (start.finding ≡ Nothing → Plain s start entries far) → (g : Found) → Nothing ≡ both start.finding g
    → Plain s start entries far
plain_before s start entries far h g none = h (both_zero start.finding g (sym none)).0

pub small_plain : {s : List ℕ} {start : DC.Counted} {entries : List ℕ} {far : DF.Far} → Plain s start entries far
    → All DomainSize entries
small_plain {s} {start} {entries} {far} p =
    subst (λ (l : List ℕ). All DomainSize l) (small_sizes s entries p.sizes) p.sizes

-- ## the tuples

pub tuples_code : (es : List ℕ) (a k : ℕ) (ws : Words)
    → found_of (tuples_finding es a k ws)
    ≡ both (found_of (runs k (tuple_finding es) (suc a) ws))
    (found_of (find_if (repeated_tuple (tuples_of k a ws)) dialect))
unfolding tuples_finding
tuples_code es a k ws =
    found_both (runs k (tuple_finding es) (suc a) ws) (find_if (repeated_tuple (tuples_of k a ws)) dialect)

module _ (s : List ℕ) (start : DC.Counted) (entries : List ℕ) (far : DF.Far) (d : DD.Declared) where
  abbrev es : List ℕ
  es = scope_sizes s entries far d

  abbrev ws : Words
  ws = words_at s start.next

  wide : length es ≡ length entries + far.count
  wide =
      length-append (sizes_held s entries) (scope_sizes s [] far d)
      ∙ omega (arith, length-map entries (size_held s), far_count s far d)

  module _ (tuples : DS.Step)
      (read :
      Checked s (found_of (runs start.count (tuple_finding es) (suc (length entries + far.count)) ws))
      (start.count * suc (length entries + far.count)) start.next tuples) where
    read_all : Checked s (found_of (runs start.count (tuple_finding es) (suc (length es)) ws))
        (start.count * suc (length es)) start.next tuples
    read_all =
        subst (λ (n : ℕ). Checked s (found_of (runs start.count (tuple_finding es) (suc n) ws)) (start.count * suc n)
        start.next tuples) (sym wide) read

    pub table_found : (found : Found) → found ≡ both start.finding tuples.finding → (found ≡ Nothing → ⊥)
        → TableSays s start es (record { finding = found; next = tuples.next; bytes = 0 })
    table_found found e some =
        let twice : Bool = repeated_tuple (tuples_of start.count (length es) ws) in
        let w : Found = found_of (find_if twice dialect) in
        let more : both (both start.finding tuples.finding) w ≡ found =
        rw (← e) (both_more found w (some_rank found some) (test_light twice)) in
        let all : found_of (tuples_finding es (length es) start.count ws) ≡ both tuples.finding w =
        rw read_all.finding (tuples_code es (length es) start.count ws) in
        record {
          finding =
              sym (ap (both start.finding) all ∙ sym (both_assoc start.finding tuples.finding w) ∙ more);
          within = read.within;
          words = λ l. read_all.words (both_second start.finding tuples.finding (rw e at l));
          bytes = λ z. absurd (some z);
          small = omega arith;
        }

    module _ (none : Nothing ≡ both start.finding tuples.finding) where
      pub start_none : start.finding ≡ Nothing
      start_none = (both_zero _ _ (sym none)).0

      tuples_none : tuples.finding ≡ Nothing
      tuples_none = (both_zero start.finding _ (sym none)).1

      pub runs_fine : Plain s start entries far
          → runs start.count (tuple_finding entries) (suc (length entries)) ws ≡ fine
      runs_fine p =
          let all : runs start.count (tuple_finding es) (suc (length es)) ws ≡ fine =
          found_fine _ (sym read_all.finding ∙ tuples_none) in
          rw (plain_sizes d p) at all

      pub table_fine : (twice : Bool) → twice ≡ repeated_tuple (tuples_of start.count (length entries) ws)
          → Plain s start entries far → (n : ℕ) → n ≡ record_bytes entries → n ≤ 2055
          → TableSays s start es (record { finding = pick twice Dialect Nothing; next = tuples.next; bytes = n })
      table_fine twice t p n e few =
          let same = plain_sizes d p in
          let last : found_of (find_if (repeated_tuple (tuples_of start.count (length es) ws)) dialect)
          ≡ pick twice Dialect Nothing =
          rw (same, ← t) (test_code twice) in
          record {
            finding =
                sym (ap (both start.finding) (tuples_code es (length es) start.count ws)
                ∙ rw (← read_all.finding, tuples_none, start_none, last) (both_none _ ∙ both_none _));
            within = read.within;
            words = λ _. read_all.words (none_light tuples.finding tuples_none);
            bytes = λ _. e ∙ sym (ap record_bytes same);
            small = few;
          }
