-- Where things stand in a plan: a part of work memory that says in which order variables are searched, which records
-- each position completes, and which messages are sent. Positions count from the first variable that is searched. The
-- first numbers are the records' places.
use Rattle.std.specs.Prelude.{List, ℕ, ◌+◌, ◌*◌, get_or}

-- messages are listed by the position that receives them: as many slots as there may be messages
abbrev pub max_messages : ℕ
max_messages = 120

abbrev pub children_at : ℕ
children_at = 256

-- from here on nothing is rearranged: it is written anew
abbrev pub loose_at : ℕ
loose_at = 376

-- the variable at each position, and the position of each variable
abbrev pub order_at : ℕ
order_at = 376

abbrev pub positions_at : ℕ
positions_at = 400

-- where the records, the received and the sent messages of the positions from each one on end: 25 numbers each
abbrev pub record_ends_at : ℕ
record_ends_at = 424

abbrev pub child_ends_at : ℕ
child_ends_at = 449

abbrev pub message_ends_at : ℕ
message_ends_at = 474

-- nine numbers for each message: where its numbers start, three variables with their strides, and where the records and
-- the received messages of its part end
abbrev pub messages_at : ℕ
messages_at = 499

abbrev pub message_width : ℕ
message_width = 9

-- the messages' numbers, up to the plan's end
abbrev pub numbers_at : ℕ
numbers_at = 1579

abbrev pub order_in : List ℕ → ℕ → ℕ
order_in plan k = get_or plan (order_at + k) 0

abbrev pub position_in : List ℕ → ℕ → ℕ
position_in plan v = get_or plan (positions_at + v) 0

abbrev pub record_end : List ℕ → ℕ → ℕ
record_end plan k = get_or plan (record_ends_at + k) 0

abbrev pub child_end : List ℕ → ℕ → ℕ
child_end plan k = get_or plan (child_ends_at + k) 0

abbrev pub message_end : List ℕ → ℕ → ℕ
message_end plan k = get_or plan (message_ends_at + k) 0

-- the fields of message g
abbrev pub field_in : List ℕ → ℕ → ℕ → ℕ
field_in plan g i = get_or plan (messages_at + message_width * g + i) 0
