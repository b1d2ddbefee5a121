-- The functions one after another: what is found of those that are left, and the bytes of their records.
use mathlib.Core.Path.{◌≡◌, sym, ap, ◌∙◌}
use mathlib.Core.Logic.{⊎_elim}
use mathlib.Core.List.{List, [], ◌∷◌}
use Prim.Native.Nat.{ℕ, zero, suc, ◌+◌, ◌-◌, ◌*◌, ◌≤◌, ◌<◌, min}
use native.Mathlib.Omega.{arith}
use lib.ListN.{length, drop, length-append, length-drop}
use Rattle.model.specs.Encoding.{table_bytes, tables_bytes}
use Rattle.text_words.specs.Texts.{term_of}
use Rattle.text_words.specs.Reads.{words_at, cap_end}
use Rattle.text_networks.specs.Findings.{Words, field, and_then}
use Rattle.text_networks.specs.Networks.{function_width, function_finding, functions_finding, function_table}
use Rattle.text_networks.specs.Networks.{function_tables}
use Rattle.text_checking.specs.declared.Found.{Found}
use Rattle.text_checking.specs.declared.Found.TheVariants.{Nothing, Fault}
use Rattle.text_checking.specs.Codes.{rank, found_of, both}
use Rattle.text_checking.specs.Sizes.{domains_at}
use Rattle.text_checking.specs.Steps.{FunctionSays, FunctionsSays}
use Rattle.text_checking.specs.declared.Declared as DD
use Rattle.text_checking.specs.declared.Function as DU
use Rattle.text_checking.proofs.Codes.{lt_or_ge, both_fault, both_heavy, both_last, both_assoc}
use Rattle.text_checking.proofs.Codes.{both_zero, both_later, found_both}

-- ## one function more

module _ (ds : List ℕ) (n i : ℕ) (ws : Words) (h : i < n) where
  abbrev rest : Words
  rest = drop (function_width ws) ws

  one_less : n - i ≡ suc (n - (i + 1))
  one_less = omega arith

  functions_next : found_of (functions_finding (n - i) ds ws)
      ≡ both (found_of (function_finding ds ws)) (found_of (functions_finding (n - (i + 1)) ds rest))
  unfolding functions_finding
  functions_next = rw one_less (found_both (function_finding ds ws) (functions_finding (n - (i + 1)) ds rest))

  tables_next : length (tables_bytes (function_tables (n - i) ds ws))
      ≡ length (table_bytes (function_table ds ws)) + length (tables_bytes (function_tables (n - (i + 1)) ds rest))
  unfolding function_tables tables_bytes
  tables_next = rw one_less (length-append (table_bytes (function_table ds ws)) _)

-- ## a run of functions

-- i of n functions are read up to `next`, behind records of `front` bytes; what is found does not decide
pub record FunctionsRead (s : List ℕ) (d : DD.Declared) (n front : ℕ) (before : Found) (at i : ℕ) (finding : Found)
    (next bytes : ℕ) : Type 0 where
  pub few : i ≤ n
  pub left :
      both before (found_of (functions_finding n (domains_at s d) (words_at s at)))
      ≡ both finding (found_of (functions_finding (n - i) (domains_at s d) (words_at s next)))
  pub light : rank finding < 2
  pub within : next ≤ length s
  pub none : finding ≡ Nothing → before ≡ Nothing
  pub sum :
      finding ≡ Nothing
      → front + length (tables_bytes (function_tables n (domains_at s d) (words_at s at)))
      ≡ bytes + length (tables_bytes (function_tables (n - i) (domains_at s d) (words_at s next)))
  pub small : finding ≡ Nothing → bytes ≤ front + i * 2055

module _ (s : List ℕ) (d : DD.Declared) (n front : ℕ) (before : Found) (at : ℕ) where
  abbrev ds : List ℕ
  ds = domains_at s d

  pub functions_begin : at ≤ length s → rank before < 2 → FunctionsRead s d n front before at 0 before at front
  functions_begin h l =
      let all : n - 0 ≡ n = omega arith in
      record {
        few = omega arith;
        left = rw all;
        light = l;
        within = h;
        none = λ z. z;
        sum = λ z. rw all;
        small = λ z. omega arith;
      }

  module _ (i : ℕ) (finding : Found) (next bytes : ℕ)
      (r : FunctionsRead s d n front before at i finding next bytes) where
    module _ (h : i < n) (one : DU.Function) (says : FunctionSays s finding next d one) where
      all_left : both before (found_of (functions_finding n ds (words_at s at)))
          ≡ both one.finding
          (found_of (functions_finding (n - (i + 1)) ds (drop (function_width (words_at s next)) (words_at s next))))
      all_left =
          r.left
          ∙ ap (both finding) (functions_next ds n i (words_at s next) h)
          ∙ sym (both_assoc finding (found_of (function_finding ds (words_at s next))) _)
          ∙ rw (← says.finding)

      pub functions_stop : (k : ℕ) → 2 ≤ rank one.finding
          → FunctionsSays s (record { finding = before; next = at }) n front d
          (record { finding = one.finding; bytes = k })
      functions_stop k l =
          record {
            finding = sym (all_left ∙ both_heavy one.finding _ l);
            bytes = λ z. absurd (omega (arith, ap rank z));
          }

      pub functions_on : (more : ℕ) → (bytes ≤ 1000000 → more ≡ bytes + one.bytes)
          → (before ≡ Nothing → (n ≤ 256) × (front ≤ 82)) → rank one.finding < 2
          → FunctionsRead s d n front before at (i + 1) one.finding one.next more
      functions_on more add limits l =
          let now : one.finding ≡ Nothing → finding ≡ Nothing = λ z. (both_zero finding _ (sym says.finding ∙ z)).0 in
          let added : one.finding ≡ Nothing → more ≡ bytes + one.bytes =
          λ z.
          let few = limits (r.none (now z)) in
          add (omega (arith, r.small (now z), few.0, few.1)) in
          record {
            few = omega arith;
            left = rw (says.words l) all_left;
            light = l;
            within = says.within;
            none = λ z. r.none (now z);
            sum = λ z.
                rw (says.words l)
                (r.sum (now z) ∙ omega (arith, tables_next ds n i (words_at s next) h, added z, says.bytes z));
            small = λ z. omega (arith, r.small (now z), added z, says.small);
          }

    module _ (h : n ≤ i) where
      none_left : n - i ≡ 0
      none_left = omega (arith, r.few)

      -- a further word
      pub functions_more : (w : List ℕ) (ws : Words) → words_at s next ≡ w ∷ ws → (k : ℕ)
          → FunctionsSays s (record { finding = before; next = at }) n front d (record { finding = Fault; bytes = k })
      unfolding functions_finding found_of
      functions_more w ws e k =
          record {
            finding = sym (r.left ∙ rw (none_left, e) (both_fault finding r.light));
            bytes = λ z. absurd (cc);
          }

      pub functions_done : words_at s next ≡ []
          → FunctionsSays s (record { finding = before; next = at }) n front d
          (record { finding = finding; bytes = bytes })
      unfolding functions_finding function_tables tables_bytes found_of
      functions_done e =
          record {
            finding = sym (r.left ∙ rw (none_left, e) (both_last finding));
            bytes = λ z. sym (r.sum z ∙ rw none_left (omega arith));
          }

-- ## a number of functions above the cap

function_end : (ds : List ℕ) → 2 ≤ rank (found_of (function_finding ds []))
unfolding function_finding term_of field found_of and_then
function_end ds = omega arith

module _ (ds : List ℕ) where
  functions_heavy : (n : ℕ) (ws : Words) → length ws < n → 2 ≤ rank (found_of (functions_finding n ds ws))
  unfolding functions_finding
  functions_heavy zero ws h = absurd (omega arith)
  functions_heavy (suc n) [] h =
      rw (found_both (function_finding ds []) (functions_finding n ds (drop (function_width []) [])))
      (rw (both_heavy (found_of (function_finding ds [])) _ (function_end ds)) (function_end ds))
  functions_heavy (suc n) (w ∷ ws) h =
      let rest = drop (function_width (w ∷ ws)) (w ∷ ws) in
      rw (found_both (function_finding ds (w ∷ ws)) (functions_finding n ds rest))
      (both_later _ _
      (functions_heavy n rest (omega (arith, length-drop (function_width (w ∷ ws)) (w ∷ ws)))))

  functions_long : (n m : ℕ) (ws : Words) → length ws < n → length ws < m
      → found_of (functions_finding n ds ws) ≡ found_of (functions_finding m ds ws)
  unfolding functions_finding
  functions_long zero m ws h k = absurd (omega arith)
  functions_long (suc n) zero ws h k = absurd (omega arith)
  functions_long (suc n) (suc m) [] h k =
      found_both (function_finding ds []) (functions_finding n ds (drop (function_width []) []))
      ∙ both_heavy (found_of (function_finding ds [])) _ (function_end ds)
      ∙ sym (found_both (function_finding ds []) (functions_finding m ds (drop (function_width []) []))
      ∙ both_heavy (found_of (function_finding ds [])) _ (function_end ds))
  functions_long (suc n) (suc m) (w ∷ ws) h k =
      let rest = drop (function_width (w ∷ ws)) (w ∷ ws) in
      let few = length-drop (function_width (w ∷ ws)) (w ∷ ws) in
      found_both (function_finding ds (w ∷ ws)) (functions_finding n ds rest)
      ∙ ap (both (found_of (function_finding ds (w ∷ ws)))) (functions_long n m rest (omega arith) (omega arith))
      ∙ sym (found_both (function_finding ds (w ∷ ws)) (functions_finding m ds rest))

  pub functions_capped : (n : ℕ) (ws : Words) → length ws < cap_end
      → found_of (functions_finding (min n cap_end) ds ws) ≡ found_of (functions_finding n ds ws)
  functions_capped n ws h =
      ⊎_elim (λ (k : n < cap_end). let e : min n cap_end ≡ n = omega arith in rw e)
      (λ (k : cap_end ≤ n). functions_long (min n cap_end) n ws (omega arith) (omega arith)) (lt_or_ge n cap_end)
