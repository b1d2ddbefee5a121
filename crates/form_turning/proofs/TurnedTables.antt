-- A record turned: its bytes are its head with the scope ordered, and its table read along that; it stays as long.
use mathlib.Core.Path.{◌≡◌, refl, ap, sym, ◌∙◌}
use mathlib.Core.Bool.{true}
use mathlib.Core.List.{List, ◌∷◌, ◌++◌}
use Prim.Native.Nat.{ℕ, ◌+◌, ◌*◌, ◌≤◌, ◌<◌}
use native.Mathlib.Omega.{arith}
use lib.ListN.{length, get_or, take, drop, length-append, length-drop}
use lib.Seq.{drop-drop, take-take}
use Rattle.model.specs.Basics.{All}
use Rattle.model.specs.Problems.{Table, DomainSize, size_of, scope_rule}
use Rattle.model.specs.Costs.{cost_of}
use Rattle.model.specs.Encoding.{Byte, letter_c, letter_f, two_bytes, four_bytes, word_bytes, table_bytes}
use Rattle.model.specs.Reading.{words_in, table_objective, table_arity, table_scope, table_length, table_of}
use Rattle.model.proofs.Lists.{part_same}
use Rattle.model.proofs.Elements.{all_drop}
use Rattle.problem.specs.Records.{Whole}
use Rattle.problem.proofs.Scopes.{whole_ends, whole_inside, scope_many}
use Rattle.form_canonical.specs.Places.{over_at}
use Rattle.form_canonical.specs.Canonical.{risen, turned}
use Rattle.form_turning.specs.Steps.{entry_bytes}
use Rattle.form_turning.specs.Strides.{ordered, walk}
use Rattle.form_turning.proofs.OrderedScopes.{ordered_risen, ordered_length, ordered_size}
use Rattle.form_turning.proofs.Walks.{reach, reach_below, walk_all, walk_bytes, walk_length}
use Rattle.form_turning.proofs.Entries.{entry_bytes_lem}
use Rattle.form_canonical.proofs.Places.{over_then}

-- the last entry is inside the table
pub ordered_reach : (ds scope : List ℕ) → All DomainSize ds → scope_rule (length ds) scope ≡ true
    → reach ds scope (ordered scope) < size_of ds scope
ordered_reach ds scope sizes rule =
    rw (ordered_risen ds scope rule) (reach_below ds scope rule sizes)

module _ (ds s : List ℕ) (at : ℕ) (w : Whole ds s at) (sizes : All DomainSize ds)
    (rule : scope_rule (length ds) (table_scope (drop at s)) ≡ true) where
  abbrev scope : List ℕ
  scope = table_scope (drop at s)

  abbrev arity : ℕ
  arity = table_arity (drop at s)

  abbrev record_table : Table
  record_table = table_of ds (drop at s)

  -- the bytes of its entries
  abbrev pub table_in : List ℕ
  table_in = take (4 * size_of ds scope) (drop (at + 4 + arity) s)

  order : ordered scope ≡ risen 0 ds scope
  order = ordered_risen ds scope rule

  ends : at + (4 + (arity + 4 * size_of ds scope)) ≤ length s
  ends = whole_ends ds s at w

  -- one of them, as it was read
  abbrev entry : ℕ → List ℕ
  entry i = four_bytes (get_or (words_in (size_of ds scope) (drop (4 + arity) (drop at s))) i 0)

  entry_at : All Byte s → (i : ℕ) → i < size_of ds scope → entry i ≡ entry_bytes table_in (4 * i)
  unfolding entry_bytes
  entry_at bytes i h =
      let size = size_of ds scope in
      let behind = drop (at + 4 + arity) s in
      let place : at + (4 + arity) ≡ at + 4 + arity = omega arith in
      rw (drop-drop (4 + arity) at s, place)
      (entry_bytes_lem size behind i (omega (arith, length-drop (at + 4 + arity) s, ends))
      (all_drop Byte (at + 4 + arity) s bytes) h
      ∙ part_same (4 * size) 4 (4 * i) behind table_in (omega arith) (sym (take-take (4 * size) (4 * size) behind
      (omega arith))))

  -- ## the entries

  walk_entries : word_bytes (turned ds record_table).costs ≡ walk ds scope 1 (ordered scope) entry 0
  unfolding turned table_of cost_of
  walk_entries = rw order (walk_all ds scope rule record_table.costs)

  pub turned_entries : All Byte s
      → word_bytes (turned ds record_table).costs ≡ walk ds scope 4 (ordered scope) (entry_bytes table_in) 0
  turned_entries bytes =
      walk_entries
      ∙ walk_bytes ds scope entry (entry_bytes table_in) (size_of ds scope) (entry_at bytes) (ordered scope) 0
      (omega (arith, ordered_reach ds scope sizes rule))

  entries_length : length (word_bytes (turned ds record_table).costs) ≡ 4 * size_of ds scope
  unfolding four_bytes two_bytes
  entries_length =
      ap length walk_entries ∙ walk_length ds scope entry (λ i. refl) (ordered scope) 0
      ∙ omega (arith, ordered_size ds scope)

  -- ## the record

  abbrev pub head_in : List ℕ
  head_in = letter_c ∷ letter_f ∷ table_objective (drop at s) ∷ arity ∷ ordered scope

  ordered_many : length (ordered scope) ≡ arity
  ordered_many = ordered_length scope ∙ scope_many s at (whole_inside ds s at w)

  pub head_length_lem : length head_in ≡ 4 + arity
  head_length_lem = omega (arith, ordered_many)

  pub turned_bytes : table_bytes (turned ds record_table) ≡ head_in ++ word_bytes (turned ds record_table).costs
  unfolding table_bytes turned table_of
  turned_bytes = rw (← order, ordered_many)

  pub turned_length : length (table_bytes (turned ds record_table)) ≡ table_length ds (drop at s)
  unfolding table_length
  turned_length =
      ap length turned_bytes ∙ length-append head_in (word_bytes (turned ds record_table).costs)
      ∙ omega (arith, head_length_lem, entries_length)

  -- the head, and the entries behind it
  pub turned_over : All Byte s → (out : List ℕ) → at + table_length ds (drop at s) ≤ length out
      → over_at (at + 4 + arity) (walk ds scope 4 (ordered scope) (entry_bytes table_in) 0) (over_at at head_in out)
      ≡ over_at at (table_bytes (turned ds record_table)) out
  turned_over bytes out room =
      let entries = word_bytes (turned ds record_table).costs in
      let whole = ap length turned_bytes ∙ length-append head_in entries in
      ap (λ (l : List ℕ). over_at (at + 4 + arity) l (over_at at head_in out)) (sym (turned_entries bytes))
      ∙ over_then at (at + 4 + arity) head_in entries out (omega (arith, head_length_lem))
      (omega (arith, head_length_lem, whole, turned_length))
      ∙ ap (λ (l : List ℕ). over_at at l out) (sym turned_bytes)
