-- Parts of a bucket, each with a message that is at most what the part holds,
-- and what the message leaves over for the parts after it.
use Rattle.std.specs.Prelude.{◌≡◌, ◌⊎◌, true, List, ℕ, ◌+◌, ◌*◌, ◌≤◌, ◌<◌, length, get_or, set}
use Rattle.model.specs.Limits.{max_domain}
use Rattle.model.specs.Costs.{is_choice}
use Rattle.branch_directions.specs.Directions.{width_of}
use Rattle.branch_directions.specs.declared.Directions as DD
use Rattle.layout.specs.Places.{max_messages, order_in, record_end, child_end, message_end, field_in}
use Rattle.branch_buckets.specs.Messages.{message_at, sent_over}
use Rattle.branch_buckets.specs.Bounds.{content_over, content_at, sent_at}
use Rattle.branch_buckets.specs.Content.{Planned, Ranged}
use Rattle.branch_buckets.specs.declared.Span as DS
use Rattle.plan_test.specs.Marks.{BucketIn}
use Rattle.plan_test.specs.declared.Part as DP
use Rattle.plan_test.specs.declared.Held as DH

-- what is left over counts as no more than this
abbrev pub rest_end : ℕ
rest_end = 4611686018427387904

-- what is left over counts from here: less is missing, and must come from a later part
abbrev pub rest_base : ℕ
rest_base = 1152921504606846976

-- rows of eight numbers, one for each value of the bucket's variable
pub record Rows (rows : List ℕ) : Type 0 where
  pub long : length rows ≡ 64
  pub small : (i : ℕ) → get_or rows i 0 ≤ rest_end

abbrev pub Lowered : List ℕ → List ℕ → Type 0
Lowered before after = (i : ℕ) → get_or after i 0 ≤ get_or before i 0

-- the numbers and what is left of a row are at most what was there
abbrev pub RowLeft : (w at : ℕ) (number rest rows left : List ℕ) → Type 0
RowLeft w at number rest rows left =
    (j : ℕ) → j < w → get_or number j 0 + get_or left (at + j) 0 ≤ get_or rest (at + j) 0 + get_or rows (at + j) 0

-- how many values a variable has; one that does not exist has one
pub record Counted (ds : List ℕ) (u c : ℕ) : Type 0 where
  pub enough : (y : List ℕ) → is_choice ds y ≡ true → get_or y u 0 < c
  pub exist : u < length ds → c ≤ get_or ds u 0
  pub few : c ≤ max_domain

-- a part of a bucket over n variables
pub record PartOf (n : ℕ) (p : DP.Part) : Type 0 where
  pub variable : p.own < n
  pub known : p.message < max_messages
  pub ranged : Ranged p.span
  pub rows : Rows p.rest

-- the three variables of a part's message
abbrev pub one_of : List ℕ → DP.Part → ℕ
one_of plan p = field_in plan p.message 1

abbrev pub two_of : List ℕ → DP.Part → ℕ
two_of plan p = field_in plan p.message 3

abbrev pub three_of : List ℕ → DP.Part → ℕ
three_of plan p = field_in plan p.message 5

abbrev pub MessageReads : List ℕ → DP.Part → ℕ → Type 0
MessageReads plan p w = ((w ≡ one_of plan p) ⊎ (w ≡ two_of plan p)) ⊎ (w ≡ three_of plan p)

-- the variables of a part: those of its message and the bucket's own
abbrev pub PartReads : List ℕ → DP.Part → ℕ → Type 0
PartReads plan p w = MessageReads plan p w ⊎ (w ≡ p.own)

abbrev pub Fits : List ℕ → List ℕ → DP.Part → Type 0
Fits s plan p = BucketIn (PartReads plan p) s plan p.span

-- i, j and l are values of those of the message's variables that exist
pub record Exist (ds plan : List ℕ) (p : DP.Part) (i j l : ℕ) : Type 0 where
  pub one : one_of plan p < length ds → i < get_or ds (one_of plan p) 0
  pub two : two_of plan p < length ds → j < get_or ds (two_of plan p) 0
  pub three : three_of plan p < length ds → l < get_or ds (three_of plan p) 0

-- at the choice y, the part's message and what is left over are at most what was left over before
-- and what the part holds
abbrev pub Leaves : (d : DD.Directions) (ds s plan : List ℕ) (p : DP.Part) (left y : List ℕ) → Type 0
Leaves d ds s plan p left y =
    (j : ℕ) → j < width_of d
    → message_at (width_of d) plan y j p.message + get_or left (8 * get_or y p.own 0 + j) 0
    ≤ get_or p.rest (8 * get_or y p.own 0 + j) 0 + content_over d ds s plan p.span y j

-- the same where only the own variable of a choice x varies
abbrev pub ChoiceLeaves : (d : DD.Directions) (ds s plan : List ℕ) (p : DP.Part) (left x : List ℕ) → Type 0
ChoiceLeaves d ds s plan p left x =
    (a j : ℕ) → a < get_or ds p.own 0 → j < width_of d
    → message_at (width_of d) plan x j p.message + get_or left (8 * a + j) 0
    ≤ get_or p.rest (8 * a + j) 0 + content_over d ds s plan p.span (set x p.own a) j

-- the same for the choices that have the values i, j and l of the message's variables, and for those that have i and j
abbrev pub ValuesLeave :
    (d : DD.Directions) (ds s plan : List ℕ) (p : DP.Part) (i j l : ℕ) (left : List ℕ) → Type 0
ValuesLeave d ds s plan p i j l left =
    (y : List ℕ) → is_choice ds y ≡ true
    → get_or y (one_of plan p) 0 ≡ i → get_or y (two_of plan p) 0 ≡ j → get_or y (three_of plan p) 0 ≡ l
    → Leaves d ds s plan p left y

abbrev pub PairLeaves :
    (d : DD.Directions) (ds s plan : List ℕ) (p : DP.Part) (i j : ℕ) (left : List ℕ) → Type 0
PairLeaves d ds s plan p i j left = (l : ℕ) → ValuesLeave d ds s plan p i j l left

-- the same for every choice
pub record PartLeaves (d : DD.Directions) (ds s plan : List ℕ) (p : DP.Part) (h : DH.Held) : Type 0 where
  pub rows : Rows h.rest
  pub span : h.span ≡ p.span
  pub leaves : (y : List ℕ) → is_choice ds y ≡ true → Leaves d ds s plan p h.rest y

-- the bucket of position k, whose variable exists
pub record BucketOf (d : DD.Directions) (ds s plan : List ℕ) (k : ℕ) : Type 0 where
  pub planned : Planned d (record_end plan k) ds s plan
  pub variables : k < length ds
  pub variable : order_in plan k < length ds
  pub slots : child_end plan k ≤ max_messages

-- what the parts of a bucket up to its last one have
abbrev pub taken_span : List ℕ → ℕ → DS.Span → DS.Span
taken_span plan k part =
    record { from = record_end plan (k + 1); to = part.to; first = child_end plan (k + 1); last = part.last }

-- the bucket of position k, after its messages before number g: what they and what is left over come to; a message may
-- be more than the parts so far hold
pub record Holding (d : DD.Directions) (ds s plan : List ℕ) (k g : ℕ) (h : DH.Held) : Type 0 where
  pub records : (record_end plan (k + 1) ≤ h.span.to) × (h.span.to ≤ record_end plan k)
  pub children : (child_end plan (k + 1) ≤ h.span.last) × (h.span.last ≤ child_end plan k)
  pub rows : Rows h.rest
  pub sum : (y : List ℕ) → is_choice ds y ≡ true → (j : ℕ) → j < width_of d
      → sent_over (width_of d) plan (message_end plan (k + 1)) g y j + get_or h.rest
      (8 * get_or y (order_in plan k) 0 + j) 0
      ≤ content_over d ds s plan (taken_span plan k h.span) y j + rest_base

-- nothing is missing in what is left over
abbrev pub Kept : List ℕ → Type 0
Kept rest = (i : ℕ) → i < 64 → rest_base ≤ get_or rest i 0

-- the bucket of position k sends no more than it holds
abbrev pub HoldsAt : DD.Directions → List ℕ → List ℕ → List ℕ → ℕ → Type 0
HoldsAt d ds s plan k =
    (y : List ℕ) → is_choice ds y ≡ true → (j : ℕ) → j < width_of d
    → sent_at d plan k y j ≤ content_at d ds s plan k y j
