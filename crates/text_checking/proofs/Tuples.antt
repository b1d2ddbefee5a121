-- A tuple: its values in two parts, and its cost.
use mathlib.Core.Path.{◌≡◌, refl, sym, ap, ◌∙◌}
use mathlib.Core.Logic.{◌⊎◌, inl, inr, ⊎_elim}
use mathlib.Core.List.{List, [], ◌∷◌, ◌++◌}
use Prim.Native.Nat.{ℕ, ◌+◌, ◌≤◌}
use native.Mathlib.Omega.{arith}
use lib.ListN.{length, get_or, drop, length-append}
use lib.Seq.{drop-drop}
use Rattle.model.proofs.Lists.{get_d_first}
use Rattle.text_networks.specs.Findings.{Words, term_at}
use Rattle.text_networks.specs.Networks.{declared_finding, values_finding, tuple_finding, cost_finding}
use Rattle.text_networks.proofs.Lists.{drop_one}
use Rattle.text_checking.specs.declared.Found.{Found}
use Rattle.text_checking.specs.declared.Found.TheVariants.{Nothing, Fault}
use Rattle.text_checking.specs.Codes.{rank, found_of, both}
use Rattle.text_checking.proofs.Codes.{both_none, both_heavy, both_assoc, found_both}
use Rattle.text_checking.proofs.Values.{declared_plain}

values_cons : (d : ℕ) (ds : List ℕ) (ws : Words)
    → found_of (values_finding (d ∷ ds) ws)
    ≡ both (found_of (declared_finding d (term_at 0 ws))) (found_of (values_finding ds (drop 1 ws)))
unfolding values_finding
values_cons d ds ws = found_both (declared_finding d (term_at 0 ws)) (values_finding ds (drop 1 ws))

-- nothing or a fault
pub values_plain : (ds : List ℕ) (ws : Words)
    → (found_of (values_finding ds ws) ≡ Nothing) ⊎ (found_of (values_finding ds ws) ≡ Fault)
unfolding values_finding found_of
values_plain [] ws = inl refl
values_plain (d ∷ ds) ws =
    ⊎_elim (λ (e : found_of (declared_finding d (term_at 0 ws)) ≡ Nothing).
    ⊎_elim (λ (f : found_of (values_finding ds (drop 1 ws)) ≡ Nothing).
    inl (values_cons d ds ws ∙ rw (e, f) (both_none Nothing)))
    (λ (f : found_of (values_finding ds (drop 1 ws)) ≡ Fault). inr (values_cons d ds ws ∙ rw (e, f) (both_none Fault)))
    (values_plain ds (drop 1 ws)))
    (λ (e : found_of (declared_finding d (term_at 0 ws)) ≡ Fault).
    inr (values_cons d ds ws ∙ rw e (both_heavy Fault _ (omega arith)))) (declared_plain d (term_at 0 ws))

pub values_decide : (ds : List ℕ) (ws : Words) (k : Found) → k ≡ found_of (values_finding ds ws) → (k ≡ Nothing → ⊥)
    → 2 ≤ rank k
values_decide ds ws k e n =
    ⊎_elim (λ (z : found_of (values_finding ds ws) ≡ Nothing). absurd (n (e ∙ z)))
    (λ (z : found_of (values_finding ds ws) ≡ Fault). omega (arith, ap rank (e ∙ z))) (values_plain ds ws)

values_append : (xs ys : List ℕ) (ws : Words)
    → found_of (values_finding (xs ++ ys) ws)
    ≡ both (found_of (values_finding xs ws)) (found_of (values_finding ys (drop (length xs) ws)))
unfolding values_finding found_of
values_append [] ys ws = sym (both_none _)
values_append (x ∷ xs) ys ws =
    values_cons x (xs ++ ys) ws
    ∙ ap (both _) (values_append xs ys (drop 1 ws))
    ∙ sym (both_assoc (found_of (declared_finding x (term_at 0 ws))) _ _)
    ∙ rw (← values_cons x xs ws, ← drop_one (length xs) ws)

pub tuple_code : (xs ys : List ℕ) (ws us vs : Words) → us ≡ drop (length xs) ws → vs ≡ drop (length ys) us
    → both (found_of (values_finding xs ws))
    (both (found_of (values_finding ys us)) (found_of (cost_finding (term_at 0 vs))))
    ≡ found_of (tuple_finding (xs ++ ys) ws)
tuple_code xs ys ws us vs e d =
    let last : get_or vs 0 [] ≡ get_or ws (length (xs ++ ys)) [] =
    ap (λ (l : Words). get_or l 0 []) (d ∙ ap (drop (length ys)) e ∙ drop-drop (length ys) (length xs) ws)
    ∙ get_d_first [] (length xs + length ys) ws
    ∙ ap (λ (n : ℕ). get_or ws n []) (sym (length-append xs ys)) in
    let x : Found = found_of (values_finding xs ws) in
    let y : Found = found_of (values_finding ys (drop (length xs) ws)) in
    let z : Found = found_of (cost_finding (term_at (length (xs ++ ys)) ws)) in
    let parts : both x (both (found_of (values_finding ys us)) (found_of (cost_finding (term_at 0 vs))))
    ≡ both x (both y z) =
    rw (last, e) in
    let whole : both (both x y) z ≡ found_of (tuple_finding (xs ++ ys) ws) =
    rw (← values_append xs ys ws)
    (sym (found_both (values_finding (xs ++ ys) ws) (cost_finding (term_at (length (xs ++ ys)) ws)))) in
    parts ∙ sym (both_assoc x y z) ∙ whole
