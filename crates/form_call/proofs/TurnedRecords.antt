-- Records turned one after the other, each at its own place of a buffer, and the parts that they have there.
use mathlib.Core.Bool.{true}
use mathlib.Core.Path.{◌≡◌, refl, sym, ◌∙◌, ap}
use mathlib.Core.List.{List, [], ◌∷◌, ◌++◌, map, flatten, map-append, append_assoc, append-nil}
use Prim.Native.Nat.{ℕ, suc, ◌+◌, ◌-◌, ◌≤◌, ◌<◌}
use native.Mathlib.Numerals.{add-one}
use native.Mathlib.Omega.{arith}
use lib.ListN.{length, take, drop, set, length-set}
use lib.Seq.{length-take-le, take_at, drop_at, take_all, take-suc-set}
use Rattle.model.specs.Basics.{All}
use Rattle.model.specs.Limits.{short_end}
use Rattle.model.specs.Problems.{scope_rule}
use Rattle.model.specs.Encoding.{table_bytes}
use Rattle.model.specs.Reading.{table_scope, table_length, table_of, tables_at}
use Rattle.problem.specs.Records.{Whole}
use Rattle.model.proofs.Elements.{all_map, all_append}
use Rattle.form_canonical.specs.Order.{ordered_by}
use Rattle.form_canonical.specs.Canonical as Canonical
use Rattle.form_canonical.specs.Canonical.{turned_tables}
use Rattle.form_canonical.proofs.JoinedTables.{tables_joined}
use Rattle.form_canonical.specs.Places.{over_at}
use Rattle.form_canonical.proofs.Places.{over_length}
use Rattle.form_order.specs.Parts.{part, part_start, part_end, part_bytes, parts_bytes, PartIn}
use Rattle.form_call.specs.Opened.{Turnable, TurnedParts, form_records}
use Rattle.form_turning.proofs.TurnedTables.{turned_length}
use Rattle.form_order.proofs.Parts.{part_start_lem, part_end_lem, part_bytes_lem}
use Rattle.form_order.proofs.Parts.{part_kept, parts_joined, parts_ordered}
use Rattle.form_order.proofs.Parts.{parts_in_ordered}

-- a part that ends at a place, or before it
pub record PartTo (end x : ℕ) : Type 0 where
  pub forward : part_start x ≤ part_end x
  pub before : part_end x ≤ end

-- i records are turned, and the next one starts at `here`
pub record Underway (ds s : List ℕ) (at : ℕ) (turned₀ parts₀ turned parts : List ℕ) (here i : ℕ) : Type 0 where
  pub some : i ≤ length parts
  pub many : length parts ≡ length parts₀
  pub kept : length turned ≡ length turned₀
  pub room : length s ≤ length turned₀
  pub left : Turnable (length parts₀ - i) ds s here
  pub inside : All (PartTo here) (take i parts)
  pub bytes : map (part_bytes turned) (take i parts)
      ++ map table_bytes (turned_tables ds (tables_at (length parts₀ - i) ds s here))
      ≡ map table_bytes (turned_tables ds (tables_at (length parts₀) ds s at))

-- parts before a place, where the buffer is written from there on
parts_kept : (at : ℕ) (bytes out xs : List ℕ) → at ≤ length out → All (PartTo at) xs
    → map (part_bytes (over_at at bytes out)) xs ≡ map (part_bytes out) xs
parts_kept at bytes out [] k h = refl
parts_kept at bytes out (x ∷ xs) k h =
    rw (part_kept x at bytes out h.0.before k, parts_kept at bytes out xs k h.1) refl

-- what is written at a place is the part from there on
part_written : (at to : ℕ) (bytes out : List ℕ) → at ≤ length out → to ≡ at + length bytes → to < short_end
    → part_bytes (over_at at bytes out) (part at to) ≡ bytes
part_written at to bytes out k e h =
    let long : to - at ≡ length bytes = omega arith in
    part_bytes_lem at to h (over_at at bytes out)
    ∙ ap (λ (l : List ℕ). take (to - at) l) (drop_at (take at out) _ at (length-take-le at out k))
    ∙ take_at bytes _ (to - at) (sym long)

-- the next record is turned
module _ (ds s : List ℕ) (at : ℕ) (turned₀ parts₀ turned parts : List ℕ) (here i : ℕ)
    (u : Underway ds s at turned₀ parts₀ turned parts here i) (l : i < length parts) where
  abbrev next : ℕ
  next = here + table_length ds (drop here s)

  abbrev form : List ℕ
  form = table_bytes (Canonical.turned ds (table_of ds (drop here s)))

  one_more : length parts₀ - i ≡ suc (length parts₀ - (i + 1))
  one_more = omega (arith, u.many)

  due : Turnable (suc (length parts₀ - (i + 1))) ds s here
  due = rw one_more at u.left

  pub whole : Whole ds s here
  whole = due.whole.0

  pub behind : next ≤ length s
  behind = whole.long

  pub distinct : scope_rule (length ds) (table_scope (drop here s)) ≡ true
  unfolding tables_at table_of
  distinct = due.distinct.0

  form_length : length form ≡ table_length ds (drop here s)
  form_length = turned_length ds s here whole due.small distinct

  left_over : Turnable (length parts₀ - (i + 1)) ds s next
  unfolding tables_at
  left_over =
      record {
        whole = due.whole.1;
        small = due.small;
        distinct = due.distinct.1;
        short = due.short;
      }

  more_parts : take (i + 1) (set parts i (part here next)) ≡ take i parts ++ (part here next ∷ [])
  more_parts = rw add-one (take-suc-set parts i (part here next) l)

  bytes_due : map (part_bytes turned) (take i parts)
      ++ (form ∷ map table_bytes (turned_tables ds (tables_at (length parts₀ - (i + 1)) ds s next)))
      ≡ map table_bytes (turned_tables ds (tables_at (length parts₀) ds s at))
  unfolding tables_at turned_tables
  bytes_due = rw one_more at u.bytes

  fits : here + length form ≤ length turned
  fits = omega (arith, form_length, behind, u.room, u.kept)

  short : next < short_end
  short = omega (arith, behind, due.short)

  bytes_next : map (part_bytes (over_at here form turned)) (take (i + 1) (set parts i (part here next)))
      ≡ map (part_bytes turned) (take i parts) ++ (form ∷ [])
  bytes_next =
      let f = part_bytes (over_at here form turned) in
      let start : here ≤ length turned = omega (arith, fits) in
      ap (map f) more_parts
      ∙ map-append f (take i parts) (part here next ∷ [])
      ∙ rw (parts_kept here form turned (take i parts) start u.inside)
      (rw (part_written here next form turned start (omega (arith, form_length)) short) refl)

  parts_next : All (PartTo next) (take (i + 1) (set parts i (part here next)))
  parts_next =
      let new : PartTo next (part here next) =
      record {
        forward = omega (arith, part_start_lem here next short, part_end_lem here next short);
        before = omega (arith, part_end_lem here next short);
      } in
      rw more_parts
      (all_append (PartTo next) (take i parts) (part here next ∷ [])
      (all_map (PartTo here) (PartTo next)
      (λ x h. record { forward = h.forward; before = omega (arith, h.before) }) (take i parts) u.inside)
      (new, tt))

  turn_next : Underway ds s at turned₀ parts₀ (over_at here form turned) (set parts i (part here next)) next (i + 1)
  turn_next =
      record {
        some = omega (arith, length-set parts i (part here next));
        many = length-set parts i (part here next) ∙ u.many;
        kept = over_length here form turned fits ∙ u.kept;
        room = u.room;
        left = left_over;
        inside = parts_next;
        bytes = rw bytes_next (append_assoc (map (part_bytes turned) (take i parts)) (form ∷ []) _ ∙ bytes_due);
      }

  pub turn_told : {turned' : List ℕ} {next' x : ℕ} → turned' ≡ over_at here form turned → next' ≡ next
      → x ≡ part here next' → Underway ds s at turned₀ parts₀ turned' (set parts i x) next' (i + 1)
  turn_told e f g = rw (e, g, f) turn_next

-- none is turned yet
pub begin : (ds s : List ℕ) (at : ℕ) (turned parts : List ℕ) → Turnable (length parts) ds s at
    → length s ≤ length turned → Underway ds s at turned parts turned parts at 0
begin ds s at turned parts t h =
    let none : length parts - 0 ≡ length parts = omega arith in
    record {
      some = omega arith;
      many = refl;
      kept = refl;
      room = h;
      left = rw none t;
      inside = tt;
      bytes = rw none refl;
    }

-- all are turned
pub turned_all : {ds s : List ℕ} {at : ℕ} {turned₀ parts₀ turned parts : List ℕ} {here i : ℕ}
    → Underway ds s at turned₀ parts₀ turned parts here i → length parts ≤ i
    → TurnedParts (length parts₀) ds s at turned parts
unfolding tables_at turned_tables
turned_all {ds} {s} {at} {turned₀} {parts₀} {turned} {parts} {here} {i} u h =
    let all : take i parts ≡ parts = take_all i parts h in
    let none : length parts₀ - i ≡ 0 = omega (arith, u.many) in
    let end : here ≤ length turned = omega (arith, rw none at u.left.whole, u.room, u.kept) in
    record {
      inside =
          all_map (PartTo here) (PartIn turned)
          (λ x p. record { forward = p.forward; inside = omega (arith, p.before) }) parts (rw all at u.inside);
      bytes = sym (append-nil (map (part_bytes turned) parts)) ∙ rw (all, none) at u.bytes;
    }

-- in order they are the records of the canonical form
module _ {r : ℕ} {ds s : List ℕ} {at : ℕ} {turned parts parts' : List ℕ} (t : TurnedParts r ds s at turned parts)
    (sorted : parts' ≡ ordered_by (part_bytes turned) parts) where
  records_ordered : parts_bytes turned parts' ≡ form_records r ds s at
  records_ordered =
      let ts = turned_tables ds (tables_at r ds s at) in
      ap (parts_bytes turned) sorted
      ∙ parts_joined turned (ordered_by (part_bytes turned) parts)
      ∙ ap flatten (parts_ordered table_bytes ts turned parts t.bytes)
      ∙ sym (tables_joined (ordered_by table_bytes ts))

  pub records_asked : {n : ℕ} → at + length (form_records r ds s at) ≤ n
      → All (PartIn turned) parts' × (at + length (parts_bytes turned parts') ≤ n)
  records_asked h = (rw sorted (parts_in_ordered turned parts t.inside), rw records_ordered h)

  pub records_put : (form : List ℕ) {form' : List ℕ} → form' ≡ over_at at (parts_bytes turned parts') form
      → form' ≡ over_at at (form_records r ds s at) form
  records_put form e = e ∙ ap (λ (l : List ℕ). over_at at l form) records_ordered
