-- Candidates: all rows, fewer of them one after another, and what follows for the rows that are left out.
use mathlib.Core.Path.{◌≡◌, ◌∙◌, subst}
use mathlib.Core.Logic.{◌⊎◌, inl, inr, ⊎_elim}
use mathlib.Core.List.{List}
use Prim.Native.Nat.{ℕ, ◌≤◌, ◌<◌}
use native.Mathlib.Omega.{arith}
use lib.ListN.{length, get_or, set, length-set}
use lib.Seq.{get_or-set_same, get_or-set_other}
use Rattle.branch_candidates.specs.Sifted.{max_rows, list_width, count_in, Among, Sifted, Sifting}

-- what is out by one reason is out by another that follows from it
pub sifted_map : {m : ℕ} {out out' : ℕ → Type 0} {c : List ℕ} → ((i : ℕ) → i < m → out i → out' i)
    → Sifted m out c → Sifted m out' c
sifted_map {m} {out} {out'} {c} f h =
    record {
      long = h.long;
      few = h.few;
      inside = h.inside;
      rest = λ i l. ⊎_elim (λ (a : Among c (count_in c) i). inl a) (λ (o : out i). inr (f i l o)) (h.rest i l);
    }

-- where every candidate is out, every row is
pub sifted_none : {m : ℕ} {out : ℕ → Type 0} {c : List ℕ} → Sifted m out c
    → ((j : ℕ) → j < count_in c → out (get_or c j 0)) → (i : ℕ) → i < m → out i
sifted_none {m} {out} {c} h none i l =
    ⊎_elim (λ (a : Among c (count_in c) i). subst out a.2 (none a.0 a.1)) (λ (o : out i). o) (h.rest i l)

-- the count is written behind the numbers of rows, which stay
module _ (rows : List ℕ) (long : length rows ≡ list_width) {kept : ℕ} (few : kept ≤ max_rows) where
  counted : count_in (set rows max_rows kept) ≡ kept
  counted = get_or-set_same rows max_rows kept 0 (omega (arith, long))

  stays : (j : ℕ) → j < kept → get_or (set rows max_rows kept) j 0 ≡ get_or rows j 0
  stays j l = get_or-set_other rows max_rows j kept 0 (λ e. omega (arith, few))

  among : {i : ℕ} → Among rows kept i → Among (set rows max_rows kept) (count_in (set rows max_rows kept)) i
  among a = (a.0, omega (arith, counted, a.1), stays a.0 a.1 ∙ a.2)

  -- the first so many rows are the candidates, and the others are out
  pub counted_sifted : {m : ℕ} {out : ℕ → Type 0} → ((j : ℕ) → j < kept → get_or rows j 0 < m)
      → ((i : ℕ) → i < m → Among rows kept i ⊎ out i) → Sifted m out (set rows max_rows kept)
  counted_sifted {m} {out} inside rest =
      record {
        long = length-set rows max_rows kept ∙ long;
        few = omega (arith, counted);
        inside = λ j l.
            let below : j < kept = omega (arith, counted) in
            omega (arith, stays j below, inside j below);
        rest = λ i l. ⊎_elim (λ (a : Among rows kept i). inl (among a)) (λ (o : out i). inr o) (rest i l);
      }

-- each row has its own number
pub sifted_all : {m : ℕ} (rows : List ℕ) → m ≤ max_rows → length rows ≡ list_width
    → ((j : ℕ) → j < m → get_or rows j 0 ≡ j) → Sifted m (λ _. ⊥) (set rows max_rows m)
sifted_all rows few long own =
    counted_sifted rows long few (λ j l. omega (arith, own j l)) (λ i l. inl (i, l, own i l))

-- all candidates were looked at, and those that are left out are out for a reason that suffices
pub sifting_end : {m : ℕ} {out out' : ℕ → Type 0} {old rows : List ℕ} {kept : ℕ} → Sifted m out' old
    → ((i : ℕ) → i < m → out i → out' i) → Sifting m out old (count_in old) rows kept
    → Sifted m out' (set rows max_rows kept)
sifting_end {m} {out} {out'} {old} {rows} {kept} before f h =
    counted_sifted rows h.long (omega (arith, before.few, h.fewer)) h.inside (λ i l. ⊎_elim
    (λ (a : Among old (count_in old) i). subst (λ (u : ℕ). Among rows kept u ⊎ out' u) a.2 (kept_or a))
    (λ (o : out' i). inr o) (before.rest i l))
  where
    kept_or : {i : ℕ} → (a : Among old (count_in old) i)
        → Among rows kept (get_or old a.0 0) ⊎ out' (get_or old a.0 0)
    kept_or a =
        ⊎_elim
        (λ (b : Among rows kept (get_or old a.0 0)). inl b)
        (λ (o : out (get_or old a.0 0)). inr (f _ (before.inside a.0 a.1) o))
        (h.rest a.0 a.1)
