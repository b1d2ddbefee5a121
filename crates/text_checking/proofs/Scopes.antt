-- Scopes: a variable twice among at most three, and the sizes of variables by their words.
use mathlib.Core.Path.{◌≡◌, refl, sym, ap, ◌∙◌}
use mathlib.Core.Bool.{Bool, true, false, ◌||◌}
use mathlib.Core.List.{List, [], ◌∷◌}
use Prim.Native.Nat.{ℕ, zero, suc, ◌≤◌, ◌<◌}
use native.Mathlib.Omega.{arith}
use lib.Dec.{eqb}
use lib.ListN.{length, get_or, take, drop, length-map}
use borrow.Author.Tests.{eq-eqb, ne_eqb}
use Rattle.model.specs.Problems.{has_variable}
use Rattle.model.proofs.Lists.{get_d_first}
use Rattle.text_words.specs.Texts.{term_of, value_of}
use Rattle.text_words.specs.Reads.{words_at, cap_end, NumberSays}
use Rattle.text_words.specs.declared.Number as DN
use Rattle.text_networks.specs.Findings.{Words, values_in}
use Rattle.text_networks.specs.Networks.{repeated, sizes_over}
use Rattle.text_networks.proofs.FineTables.{values_count}
use Rattle.text_checking.specs.Sizes.{domains_at, scope_sizes}
use Rattle.text_checking.specs.declared.Declared as DD
use Rattle.text_checking.specs.declared.Far as DF
use Rattle.text_checking.proofs.Filling.{values_at, values_capped, map_at}

-- ## a variable twice

pub repeats_none : (n : ℕ) (l : List ℕ) → n < 2 → repeated (take n l) ≡ false
unfolding repeated has_variable
repeats_none zero l h = refl
repeats_none (suc zero) [] h = refl
repeats_none (suc zero) (a ∷ l) h = refl
repeats_none (suc (suc n)) l h = absurd (omega arith)

pub repeats_first : (n : ℕ) (l : List ℕ) → 2 ≤ n → n ≤ length l → get_or l 1 0 ≡ get_or l 0 0
    → repeated (take n l) ≡ true
unfolding repeated has_variable
repeats_first zero l h k e = absurd (omega arith)
repeats_first (suc zero) l h k e = absurd (omega arith)
repeats_first (suc (suc n)) [] h k e = absurd (omega arith)
repeats_first (suc (suc n)) (a ∷ []) h k e = absurd (omega arith)
repeats_first (suc (suc n)) (a ∷ b ∷ l) h k e = rw (eq-eqb b a e)

pub repeats_two : (n : ℕ) (l : List ℕ) → n ≡ 2 → n ≤ length l → (get_or l 1 0 ≡ get_or l 0 0 → ⊥)
    → repeated (take n l) ≡ false
unfolding repeated has_variable
repeats_two n [] h k e = absurd (omega arith)
repeats_two n (a ∷ []) h k e = absurd (omega arith)
repeats_two n (a ∷ b ∷ l) h k e = rw (h, ne_eqb b a e)

pub repeats_three : (n : ℕ) (l : List ℕ) → n ≡ 3 → n ≤ length l → (get_or l 1 0 ≡ get_or l 0 0 → ⊥)
    → repeated (take n l) ≡ (eqb (get_or l 2 0) (get_or l 0 0) || eqb (get_or l 2 0) (get_or l 1 0))
unfolding repeated has_variable
repeats_three n [] h k e = absurd (omega arith)
repeats_three n (a ∷ []) h k e = absurd (omega arith)
repeats_three n (a ∷ b ∷ []) h k e = absurd (omega arith)
repeats_three n (a ∷ b ∷ c ∷ l) h k e = rw (h, ne_eqb b a e) (go (eqb c a) (eqb c b))
  where
    go : (p q : Bool) → ((p || false) || ((q || false) || false)) ≡ (p || q)
    go true q = refl
    go false true = refl
    go false false = refl

-- ## sizes by words

-- a variable that was read at a place
pub variable_size : (s : List ℕ) (d : DD.Declared) (at count i word : ℕ) (v : DN.Number) → NumberSays s word v
    → words_at s word ≡ drop i (words_at s at) → i < count → d.variables ≤ cap_end
    → get_or (domains_at s d) v.value 0 ≡ get_or (sizes_over (domains_at s d) (values_in count (words_at s at))) i 0
variable_size s d at count i word v says e h few =
    let ds = domains_at s d in
    let ws = words_at s at in
    let variable : value_of (term_of (get_or (words_at s word) 0 [])) ≡ get_or (values_in count ws) i 0 =
    ap (λ (us : Words). value_of (term_of (get_or us 0 []))) e
    ∙ ap (λ w. value_of (term_of w)) (get_d_first [] i ws)
    ∙ sym (values_at count ws i h) in
    ap (λ (n : ℕ). get_or ds n 0) says.value
    ∙ values_capped d.variables (words_at s d.sizes) _ few
    ∙ ap (λ (n : ℕ). get_or ds n 0) variable
    ∙ sym (map_at (λ u. get_or ds u 0) (values_in count ws) i (omega (arith, values_count count ws)))

pub far_count : (s : List ℕ) (far : DF.Far) (d : DD.Declared) → length (scope_sizes s [] far d) ≡ far.count
far_count s far d =
    let vs = values_in far.count (words_at s far.at) in
    length-map vs (λ v. get_or (domains_at s d) v 0) ∙ values_count far.count (words_at s far.at)
