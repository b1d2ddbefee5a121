-- The bound of a partial choice: what its first positions' buckets hold, less what they sent on ahead. It reads the
-- values of these positions only.
use Rattle.std.specs.Prelude.{◌≡◌, List, ℕ, zero, suc, ◌+◌, ◌-◌, ◌<◌, length, get_or, take, drop}
use Rattle.model.specs.Costs.{cost_of, totals_from}
use Rattle.groups.specs.Groups.{tables_over}
use Rattle.branch_directions.specs.Directions.{directions_of, width_of}
use Rattle.branch_directions.specs.declared.Directions as DD
use Rattle.layout.specs.Places.{position_in, record_end, child_end, message_end}
use Rattle.branch_buckets.specs.Messages.{sent_over, received_over}
use Rattle.branch_buckets.specs.declared.Span as DS

-- the places of the records from number `from` to below `to`, and what they cost a choice, in direction j
abbrev pub places_over : List ℕ → ℕ → ℕ → List ℕ
places_over plan from to = take (to - from) (drop from plan)

abbrev pub costs_over : DD.Directions → List ℕ → List ℕ → List ℕ → List ℕ → List ℕ
costs_over d ds s places y = totals_from d.objectives 0 (cost_of ds y) (tables_over ds s places)

abbrev pub records_over : (d : DD.Directions) (ds s plan : List ℕ) (from to : ℕ) (y : List ℕ) (j : ℕ) → ℕ
records_over d ds s plan from to y j = get_or (directions_of d (costs_over d ds s (places_over plan from to) y)) j 0

-- the bucket of position k, and what no variable decides, of r records
abbrev pub span_at : List ℕ → ℕ → DS.Span
span_at plan k =
    record {
      from = record_end plan (k + 1);
      to = record_end plan k;
      first = child_end plan (k + 1);
      last = child_end plan k;
    }

abbrev pub base_span : List ℕ → ℕ → DS.Span
base_span plan r = record { from = record_end plan 0; to = r; first = child_end plan 0; last = message_end plan 0 }

-- what the records and the received messages of a span hold together
abbrev pub content_over : (d : DD.Directions) (ds s plan : List ℕ) (span : DS.Span) (y : List ℕ) (j : ℕ) → ℕ
content_over d ds s plan span y j =
    records_over d ds s plan span.from span.to y j
    + received_over (width_of d) plan span.first span.last y j

-- the bucket of position k, what it sends, and what no variable decides
abbrev pub content_at : (d : DD.Directions) (ds s plan : List ℕ) (k : ℕ) (y : List ℕ) (j : ℕ) → ℕ
content_at d ds s plan k y j = content_over d ds s plan (span_at plan k) y j

abbrev pub sent_at : (d : DD.Directions) (plan : List ℕ) (k : ℕ) (y : List ℕ) (j : ℕ) → ℕ
sent_at d plan k y j = sent_over (width_of d) plan (message_end plan (k + 1)) (message_end plan k) y j

abbrev pub base_at : (d : DD.Directions) (ds s plan : List ℕ) (r : ℕ) (y : List ℕ) (j : ℕ) → ℕ
base_at d ds s plan r y j = content_over d ds s plan (base_span plan r) y j

unfoldable pub bound_at : (d : DD.Directions) (ds s plan : List ℕ) (r k : ℕ) (y : List ℕ) (j : ℕ) → ℕ
bound_at d ds s plan r zero y j = base_at d ds s plan r y j
bound_at d ds s plan r (suc k) y j =
    bound_at d ds s plan r k y j + (content_at d ds s plan k y j - sent_at d plan k y j)

-- two choices agree at the first k positions
abbrev pub Agree : List ℕ → ℕ → List ℕ → List ℕ → Type 0
Agree plan k x y = (v : ℕ) → v < length x → position_in plan v < k → get_or x v 0 ≡ get_or y v 0
