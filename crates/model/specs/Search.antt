-- The method as functions: passes in list order, each a search of the tree of partial choices,
-- with a rule to leave branches unopened.
-- Nobody has to believe it: proofs/Search.antt shows that it gives the frontier list, with any sound rule.
use Rattle.std.specs.Prelude.{Bool, false, ◌&&◌, ◌||◌, not, List, [], ◌∷◌, ◌++◌, ℕ, zero, suc, leb, length}
use Rattle.model.specs.Basics.{pick}
use Rattle.model.specs.Problems.{Problem}
use Rattle.model.specs.Vectors.{at_most, earlier}
use Rattle.model.specs.Costs.{costs_of}
use Rattle.model.specs.Frontiers.{Point, point}
use Rattle.model.specs.Core.{under, core_consistent, core_frontier}

-- what a pass holds: nothing yet, or the least point met so far
pub data Held : Type 0 where
  nothing : Held
  just : Point → Held

-- whether a list matches a vector
unfoldable pub matched : List ℕ → List Point → Bool
matched c [] = false
matched c (p ∷ ps) = at_most p.costs c || matched c ps

-- a complete choice is met: it is held if it is consistent, the list does not match it,
-- and its costs are earlier than those held
unfoldable pub is_left : Problem → List Point → List ℕ → Bool
is_left q ps x = core_consistent q x && not (matched (costs_of q x) ps)

unfoldable pub better : Point → Held → Held
better x nothing = just x
better x (just w) = pick (earlier x.costs w.costs) (just x) (just w)

unfoldable pub met : Problem → List Point → List ℕ → Held → Held
met q ps x h = pick (is_left q ps x) (better (point (costs_of q x) x) h) h

-- opening a variable tries its values, and trying a value opens the next variable
unfoldable pub tries : ℕ → ℕ → (ℕ → Held → Held) → Held → Held
tries zero v f h = h
tries (suc n) v f h = tries n (suc v) f (f v h)

unfoldable pub opens : Problem → List Point → (List ℕ → Held → Bool) → List ℕ → List ℕ → Held → Held
opens q ps skip [] pre h = met q ps pre h
opens q ps skip (d ∷ rest) pre h = pick (skip pre h) h (tries d 0 (λ v g. opens q ps skip rest (pre ++ (v ∷ [])) g) h)

-- one pass over all choices
abbrev pub pass : Problem → (List Point → List ℕ → Held → Bool) → List Point → Held
pass q skip ps = opens q ps (skip ps) q.domains [] nothing

-- a vector that is over a ceiling, or matched by the list, or not earlier than the costs held
unfoldable pub late : Held → List ℕ → Bool
late nothing b = false
late (just x) b = not (earlier b x.costs)

unfoldable pub dead : Problem → List Point → Held → List ℕ → Bool
dead q ps h b = not (under b q.ceilings) || (matched b ps || late h b)

-- the passes: at most n points more
pub data Result : Type 0 where
  done : List Point → Result
  full : Result

unfoldable pub passes : ℕ → Problem → (List Point → List ℕ → Held → Bool) → List Point → Result
passes zero q skip ps = elim (pass q skip ps) [ nothing ↦ done ps | just x ↦ full ]
passes (suc n) q skip ps = elim (pass q skip ps) [ nothing ↦ done ps | just x ↦ passes n q skip (ps ++ (x ∷ [])) ]

-- the frontier list, if it fits the room
unfoldable pub solved : Problem → ℕ → Result
solved q room = pick (leb (length (core_frontier q)) room) (done (core_frontier q)) full
