-- The values at an entry, from the last one to the first.
use mathlib.Core.Path.{◌≡◌, refl, sym, ◌∙◌, ap}
use mathlib.Core.List.{List, [], ◌∷◌, ◌++◌, append_assoc}
use Prim.Native.Nat.{ℕ, zero, suc, ◌/◌, ◌%◌, ◌≤◌, ◌<◌}
use native.Mathlib.Omega.{arith}
use lib.ListN.{length, get_or, take, drop}
use lib.Seq.{take-suc, take_at, take-length}
use Rattle.text_networks.specs.Networks.{sizes_over}
use Rattle.text_networks.specs.NetworkTexts.{values_from, reversed, entry_values}
use Rattle.text_networks.proofs.Entries.{entry_length}

pub values_behind : (ds : List ℕ) (i : ℕ) (behind : List ℕ) → values_from ds i behind ≡ values_from ds i [] ++ behind
unfolding values_from
values_behind [] i behind = refl
values_behind (d ∷ ds) i behind =
    values_behind ds (i / d) ((i % d) ∷ behind)
    ∙ sym (append_assoc (values_from ds (i / d) []) ((i % d) ∷ []) behind)
    ∙ ap (λ (l : List ℕ). l ++ behind) (sym (values_behind ds (i / d) ((i % d) ∷ [])))

reversed_behind : (xs : List ℕ) (y : ℕ) (ys : List ℕ) → reversed (xs ++ (y ∷ [])) ys ≡ y ∷ reversed xs ys
unfolding reversed
reversed_behind [] y ys = refl
reversed_behind (x ∷ xs) y ys = reversed_behind xs y (x ∷ ys)

-- the last of the first k + 1 sizes comes first
pub reversed_last : (ds : List ℕ) (k : ℕ) → k < length ds
    → reversed (take (suc k) ds) [] ≡ get_or ds k 0 ∷ reversed (take k ds) []
reversed_last ds k h = rw (take-suc ds k 0 h) (reversed_behind (take k ds) (get_or ds k 0) [])

-- size k of a scope is the size of its variable k
pub size_over : (ds vs : List ℕ) (k : ℕ) → k < length vs → get_or (sizes_over ds vs) k 0 ≡ get_or ds (get_or vs k 0) 0
size_over ds [] k h = absurd (omega arith)
size_over ds (v ∷ vs) zero h = refl
size_over ds (v ∷ vs) (suc k) h = size_over ds vs k (omega arith)

-- Finding values: those of the first k sizes, for what is left of the entry's number, stand before the others.
module _ (ds : List ℕ) (i : ℕ) where
  pub record Finding (values : List ℕ) (left k : ℕ) : Type 0 where
    pub some : k ≤ length ds
    pub found : take (length ds) (values_from (reversed (take k ds) []) left (drop k values)) ≡ entry_values ds i

  pub find_begin : (values : List ℕ) → Finding values i (length ds)
  find_begin values =
      record {
        some = omega arith;
        found =
            rw (take-length ds, values_behind)
            (take_at (entry_values ds i) (drop (length ds) values) (length ds) (entry_length ds i));
      }

  pub find_next : (values values' : List ℕ) (left k m d : ℕ) → k < length ds → m ≡ suc k → d ≡ get_or ds k 0
      → Finding values left m → drop k values' ≡ (left % d) ∷ drop m values → Finding values' (left / d) k
  unfolding values_from
  find_next values values' left k m d h e f g put =
      let last : reversed (take m ds) [] ≡ d ∷ reversed (take k ds) [] =
      ap (λ (n : ℕ). reversed (take n ds) []) e
      ∙ reversed_last ds k h
      ∙ ap (λ (n : ℕ). n ∷ reversed (take k ds) []) (sym f) in
      record { some = omega arith; found = rw put (rw last at g.found) }

  pub find_end : (values : List ℕ) (left : ℕ) → Finding values left 0 → take (length ds) values ≡ entry_values ds i
  unfolding values_from reversed
  find_end values left f = f.found
