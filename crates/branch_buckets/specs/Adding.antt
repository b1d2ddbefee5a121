-- What the functions that add up a bucket ask for and ensure, with a name for each part.
use Rattle.std.specs.Prelude.{◌≡◌, List, ℕ, ◌+◌, ◌*◌, ◌≤◌, ◌<◌, eqb, length, get_or, take, drop, set}
use Rattle.model.specs.Basics.{when}
use Rattle.model.specs.Limits.{word_end}
use Rattle.model.specs.Core.{entry_end, core_sum_end}
use Rattle.model.specs.Reading.{table_objective}
use Rattle.model.specs.Costs.{entry_from, cost_of, total}
use Rattle.costs.specs.Entries.{table_at, scope_at, entries_at}
use Rattle.groups.specs.Groups.{tables_over}
use Rattle.branch_directions.specs.Directions.{directions_of}
use Rattle.branch_directions.specs.declared.Directions as DD
use Rattle.layout.specs.Places.{max_messages, messages_at, message_width, field_in}
use Rattle.branch_buckets.specs.Messages.{message_entry, received_over}
use Rattle.branch_buckets.specs.Bounds.{places_over}
use Rattle.branch_buckets.specs.declared.Message as DM
use Rattle.branch_buckets.specs.declared.Progression as DP
use Rattle.branch_buckets.specs.declared.Span as DS
use Rattle.branch_buckets.specs.declared.Totals as DT

-- what is added to stays below this, and so does every place that is read
abbrev pub add_end : ℕ
add_end = 9223372036854775808

-- where the numbers of message g at a choice start
abbrev pub message_start : ℕ → List ℕ → ℕ → List ℕ → ℕ
message_start w plan g y = field_in plan g 0 + w * message_entry plan g y

-- message g of the plan
pub record MessageHas (plan : List ℕ) (g : ℕ) (m : DM.Message) : Type 0 where
  pub start : m.start ≡ get_or plan (messages_at + message_width * g) 0
  pub one : m.one ≡ field_in plan g 1
  pub one_stride : m.one_stride ≡ field_in plan g 2
  pub two : m.two ≡ field_in plan g 3
  pub two_stride : m.two_stride ≡ field_in plan g 4
  pub three : m.three ≡ field_in plan g 5
  pub three_stride : m.three_stride ≡ field_in plan g 6
  pub low : m.start < word_end
  pub narrow : m.one_stride < word_end
  pub narrow_two : m.two_stride < word_end
  pub narrow_three : m.three_stride < word_end

-- the variable u's value, times t, as the variable v runs through its values
pub record TermSays (u t v : ℕ) (x : List ℕ) (r : DP.Progression) : Type 0 where
  pub term : (a : ℕ) → get_or (set x v a) u 0 * t ≡ r.first + a * r.stride
  pub low : r.first ≤ 255 * t
  pub flat : r.stride ≤ t

-- the start of message g, as v runs through its values
pub record MessageSays (w : ℕ) (plan : List ℕ) (g v : ℕ) (x : List ℕ) (r : DP.Progression) : Type 0 where
  pub start : (a : ℕ) → message_start w plan g (set x v a) ≡ r.first + a * r.stride
  pub low : r.first < 35184372088832
  pub flat : r.stride < 137438953472

-- the entry of the record at `at`, as v runs through its values: it is in the table
abbrev pub EntrySays : (ds s : List ℕ) (at v : ℕ) (x : List ℕ) (r : DP.Progression) → Type 0
EntrySays ds s at v x r =
    (a : ℕ) → a < get_or ds v 0
    → (entry_from 0 ds (scope_at s at) (set x v a) ≡ r.first + a * r.stride)
    × (r.first + a * r.stride < entries_at ds s at)

-- n numbers from `at` on are f's, the others are as before; a row has eight
pub record PartFilled (f : ℕ → ℕ) (at n : ℕ) (before after : List ℕ) : Type 0 where
  pub part : (j : ℕ) → j < n → get_or after (at + j) 0 ≡ f j
  pub lower : (i : ℕ) → i < at → get_or after i 0 ≡ get_or before i 0
  pub higher : (i : ℕ) → at + n ≤ i → get_or after i 0 ≡ get_or before i 0

abbrev pub RowFilled : (ℕ → ℕ) → ℕ → List ℕ → List ℕ → Type 0
RowFilled f at before after = PartFilled f at 8 before after

-- eight numbers of the plan were added to a row
abbrev pub RowAdded : List ℕ → ℕ → ℕ → List ℕ → List ℕ → Type 0
RowAdded plan start at before after =
    RowFilled (λ j. get_or before (at + j) 0 + get_or plan (start + j) 0) at before after

-- numbers in the rows of `size` values that can be added to
abbrev pub Addable : ℕ → List ℕ → Type 0
Addable size rows = (64 ≤ length rows) × ((a j : ℕ) → a < size → j < 8 → get_or rows (8 * a + j) 0 < add_end)

-- a number for each value and direction was added to their rows
abbrev pub RowsAdded : ℕ → (ℕ → ℕ → ℕ) → List ℕ → List ℕ → Type 0
RowsAdded size f before after =
    (a j : ℕ) → a < size → j < 8 → get_or after (8 * a + j) 0 ≡ get_or before (8 * a + j) 0 + f a j

-- the messages in a span's slots were added to the rows of v's values
pub record Received (w : ℕ) (plan : List ℕ) (span : DS.Span) (v size : ℕ) (x before after : List ℕ) : Type 0 where
  pub sums : RowsAdded size (λ a j. received_over w plan span.first span.last (set x v a) j) before after
  pub small : (a j : ℕ) → a < size → j < 8
      → get_or after (8 * a + j) 0 ≤ get_or before (8 * a + j) 0 + word_end * max_messages

-- four totals for each value of v: the record at `at` was added to its objective's
abbrev pub RecordAdded : (ds s : List ℕ) (at v : ℕ) (x before after : List ℕ) → Type 0
RecordAdded ds s at v x before after =
    (a o : ℕ) → a < get_or ds v 0 → o < 4
    → (get_or after (4 * a + o) 0
    ≡ get_or before (4 * a + o) 0 + when (eqb (table_objective (drop at s)) o)
    (cost_of ds (set x v a) (table_at ds s at)))
    × (get_or after (4 * a + o) 0 < get_or before (4 * a + o) 0 + entry_end)

-- zeros alone
abbrev pub Blank : List ℕ → Type 0
Blank xs = (i : ℕ) → get_or xs i 0 ≡ 0

-- the totals of a span's records
abbrev pub Totalled : (ds s plan : List ℕ) (span : DS.Span) (v : ℕ) (x t : List ℕ) → Type 0
Totalled ds s plan span v x t =
    (a o : ℕ) → a < get_or ds v 0 → o < 4
    → (get_or t (4 * a + o) 0
    ≡ total o (cost_of ds (set x v a)) (tables_over ds s (places_over plan span.from span.to)))
    × (get_or t (4 * a + o) 0 < core_sum_end)

-- four costs that are sums of a problem's costs
pub record Small (t : DT.Totals) : Type 0 where
  pub one : t.one < core_sum_end
  pub two : t.two < core_sum_end
  pub three : t.three < core_sum_end
  pub four : t.four < core_sum_end

-- sum i of four costs, by its row of a table of weights
abbrev pub four_sum : List ℕ → DT.Totals → ℕ → ℕ
four_sum ws t i =
    get_or ws (4 * i) 0 * t.one + get_or ws (4 * i + 1) 0 * t.two
    + get_or ws (4 * i + 2) 0 * t.three + get_or ws (4 * i + 3) 0 * t.four

-- the totals of each value in every direction
abbrev pub Directed : DD.Directions → ℕ → List ℕ → List ℕ → Type 0
Directed d size totals rows =
    (a j : ℕ) → a < size → j < 8
    → get_or rows (8 * a + j) 0 ≡ get_or (directions_of d (take d.objectives (take 4 (drop (4 * a) totals)))) j 0
