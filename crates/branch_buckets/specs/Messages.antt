-- What messages are worth: a message has a number for each direction and all values of three variables; what lies
-- outside the plan counts as 0.
use Rattle.std.specs.Prelude.{List, [], ◌∷◌, ℕ, zero, suc, ◌+◌, ◌*◌, ◌-◌, get_or, take, drop}
use Rattle.layout.specs.Places.{children_at, field_in}

-- the sum of f over some numbers
unfoldable pub sum_over : (ℕ → ℕ) → List ℕ → ℕ
sum_over f [] = 0
sum_over f (x ∷ xs) = f x + sum_over f xs

-- c numbers from i on
unfoldable pub count_from : ℕ → ℕ → List ℕ
count_from i zero = []
count_from i (suc c) = i ∷ count_from (suc i) c

-- which entry of message g a choice has
abbrev pub message_entry : List ℕ → ℕ → List ℕ → ℕ
message_entry plan g y =
    get_or y (field_in plan g 1) 0 * field_in plan g 2 + get_or y (field_in plan g 3) 0 * field_in plan g 4
    + get_or y (field_in plan g 5) 0 * field_in plan g 6

-- message g at a choice, in direction j of w
abbrev pub message_at : ℕ → List ℕ → List ℕ → ℕ → ℕ → ℕ
message_at w plan y j g = get_or plan (field_in plan g 0 + w * message_entry plan g y + j) 0

-- the messages from number `from` to below `to`, and those in these slots
abbrev pub sent_over : (w : ℕ) (plan : List ℕ) (from to : ℕ) (y : List ℕ) (j : ℕ) → ℕ
sent_over w plan from to y j = sum_over (message_at w plan y j) (count_from from (to - from))

abbrev pub children_over : List ℕ → ℕ → ℕ → List ℕ
children_over plan from to = take (to - from) (drop (children_at + from) plan)

abbrev pub received_over : (w : ℕ) (plan : List ℕ) (from to : ℕ) (y : List ℕ) (j : ℕ) → ℕ
received_over w plan from to y j = sum_over (message_at w plan y j) (children_over plan from to)
