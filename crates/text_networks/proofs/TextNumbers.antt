-- The numbers of a problem's text in their order. The words of the text are these numbers, behind the name.
use mathlib.Core.Path.{◌≡◌, refl, ap, ◌∙◌}
use mathlib.Core.Bool.{Bool, true, false}
use mathlib.Core.List.{List, [], ◌∷◌, ◌++◌, map, append_assoc, append-nil}
use Prim.Native.Nat.{ℕ, suc, ◌≤◌}
use native.Mathlib.Omega.{arith}
use lib.Dec.{eqb}
use lib.ListN.{length, get_or, length-append}
use Rattle.model.specs.Basics.{pick}
use Rattle.model.specs.Problems.{Table, Problem}
use Rattle.text_words.specs.Texts.{space, words_of, decimal, line}
use Rattle.text_words.specs.Reads.{is_solid}
use Rattle.text_networks.specs.Networks.{sizes_over, largest_of}
use Rattle.text_networks.specs.NetworkTexts.{nonzero, entry_values, tuple_lines, function_text, functions_text}
use Rattle.text_networks.specs.NetworkTexts.{upper_bound_of, letter_p, head_text, text_of}
use Rattle.text_networks.proofs.Lists.{map-append}
use Rattle.text_networks.proofs.LineWords.{word_ends, line_words}

-- ## the numbers

unfoldable pub tuple_numbers : List ℕ → ℕ → List ℕ → List ℕ
tuple_numbers ds i [] = []
tuple_numbers ds i (c ∷ cs) = pick (eqb c 0) [] (entry_values ds i ++ (c ∷ [])) ++ tuple_numbers ds (suc i) cs

-- of a function: arity, scope, default, count
abbrev pub start_numbers : List ℕ → ℕ → ℕ → List ℕ
start_numbers vs c k = length vs ∷ vs ++ (c ∷ k ∷ [])

unfoldable pub function_numbers : List ℕ → Table → List ℕ
function_numbers ds t =
    pick (eqb (length t.scope) 0)
    (0 ∷ get_or t.costs 0 0 ∷ 0 ∷ [])
    (start_numbers t.scope 0 (nonzero t.costs) ++ tuple_numbers (sizes_over ds t.scope) 0 t.costs)

unfoldable pub functions_numbers : List ℕ → List Table → List ℕ
functions_numbers ds [] = []
functions_numbers ds (t ∷ ts) = function_numbers ds t ++ functions_numbers ds ts

abbrev pub head_numbers : Problem → List ℕ
head_numbers q =
    length q.domains ∷ largest_of q.domains ∷ length q.tables ∷ upper_bound_of q ∷ []

abbrev pub text_numbers : Problem → List ℕ
text_numbers q = head_numbers q ++ (q.domains ++ functions_numbers q.domains q.tables)

-- ## a text spells numbers: its words are their decimals, whatever follows

abbrev Spells : List ℕ → List ℕ → Type 0
Spells s xs = (rest : List ℕ) → words_of (s ++ rest) ≡ map decimal xs ++ words_of rest

spells_both : (s xs t ys : List ℕ) → Spells s xs → Spells t ys → Spells (s ++ t) (xs ++ ys)
spells_both s xs t ys h k rest =
    rw (append_assoc s t rest, map-append decimal xs ys, append_assoc)
    (h (t ++ rest) ∙ ap (λ (ws : List (List ℕ)). map decimal xs ++ ws) (k rest))

spells_line : (xs : List ℕ) → 1 ≤ length xs → Spells (line xs) xs
spells_line xs l rest = line_words xs rest l

spells_pick : (t : Bool) (s xs u ys : List ℕ) → Spells s xs → Spells u ys → Spells (pick t s u) (pick t xs ys)
spells_pick true s xs u ys h k = h
spells_pick false s xs u ys h k = k

spells_tuples : (ds : List ℕ) (i : ℕ) (cs : List ℕ) → Spells (tuple_lines ds i cs) (tuple_numbers ds i cs)
unfolding tuple_lines tuple_numbers
spells_tuples ds i [] = λ rest. refl
spells_tuples ds i (c ∷ cs) =
    let tuple = entry_values ds i ++ (c ∷ []) in
    spells_both (pick (eqb c 0) [] (line tuple)) (pick (eqb c 0) [] tuple) (tuple_lines ds (suc i) cs) _
    (spells_pick (eqb c 0) [] [] (line tuple) tuple (λ rest. refl)
    (spells_line tuple (omega (arith, length-append (entry_values ds i) (c ∷ [])))))
    (spells_tuples ds (suc i) cs)

spells_function : (ds : List ℕ) (t : Table) → Spells (function_text ds t) (function_numbers ds t)
unfolding function_text function_numbers
spells_function ds t =
    let vs = t.scope in
    let start = start_numbers vs 0 (nonzero t.costs) in
    let whole : List ℕ = 0 ∷ get_or t.costs 0 0 ∷ 0 ∷ [] in
    spells_pick (eqb (length vs) 0) (line whole) whole _ _ (spells_line whole (omega arith))
    (spells_both (line start) start _ _ (spells_line start (omega arith))
    (spells_tuples (sizes_over ds vs) 0 t.costs))

spells_functions : (ds : List ℕ) (ts : List Table) → Spells (functions_text ds ts) (functions_numbers ds ts)
unfolding functions_text functions_numbers
spells_functions ds [] = λ rest. refl
spells_functions ds (t ∷ ts) =
    spells_both (function_text ds t) (function_numbers ds t) _ _ (spells_function ds t) (spells_functions ds ts)

-- the words of a problem's text
pub text_words : (q : Problem) → 1 ≤ length q.domains
    → words_of (text_of q) ≡ (letter_p ∷ []) ∷ map decimal (text_numbers q)
unfolding text_of head_text is_solid words_of
text_words q l =
    let ds = q.domains in
    let start = head_numbers q in
    let more = functions_numbers ds q.tables in
    let body = line ds ++ functions_text ds q.tables in
    let all : Spells (line start ++ body) (text_numbers q) =
    spells_both (line start) start body (ds ++ more) (spells_line start (omega arith))
    (spells_both (line ds) ds (functions_text ds q.tables) more (spells_line ds l)
    (spells_functions ds q.tables)) in
    let words : words_of ((line start ++ body) ++ []) ≡ map decimal (text_numbers q) =
    all [] ∙ append-nil (map decimal (text_numbers q)) in
    word_ends letter_p [] space (line start ++ body) refl refl
    ∙ ap (λ (ws : List (List ℕ)). (letter_p ∷ []) ∷ ws) (rw append-nil at words)
