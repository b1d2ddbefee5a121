-- Text as bytes: white space, words, and decimal numbers of any length.
use Rattle.std.specs.Prelude.{Bool, true, ◌&&◌, ◌||◌, List, [], ◌∷◌, ◌++◌, ℕ, zero, suc, ◌+◌, ◌-◌, ◌*◌, ◌/◌, ◌%◌}
use Rattle.std.specs.Prelude.{eqb, leb}
use Rattle.model.specs.Basics.{pick}

-- the bytes that a line of numbers has beside digits
abbrev pub line_feed : ℕ
line_feed = 10

abbrev pub space : ℕ
space = 32

-- white space: tab, line feed, vertical tab, form feed, carriage return; space
abbrev pub is_space : ℕ → Bool
is_space b = (leb 9 b && leb b 13) || eqb b space

-- the words of a text; b starts the word that follows at once, or is a word by itself
unfoldable pub joined : ℕ → List ℕ → List (List ℕ) → List (List ℕ)
joined b [] ws = (b ∷ []) ∷ ws
joined b (c ∷ s) [] = (b ∷ []) ∷ []
joined b (c ∷ s) (w ∷ ws) = pick (is_space c) ((b ∷ []) ∷ w ∷ ws) ((b ∷ w) ∷ ws)

unfoldable pub words_of : List ℕ → List (List ℕ)
words_of [] = []
words_of (b ∷ s) =
    let ws = words_of s in
    pick (is_space b) ws (joined b s ws)

-- digits, and the number that they make behind the number i of the digits before
abbrev pub is_digit : ℕ → Bool
is_digit b = leb 48 b && leb b 57

unfoldable pub all_digits : List ℕ → Bool
all_digits [] = true
all_digits (b ∷ bs) = is_digit b && all_digits bs

unfoldable pub value_from : ℕ → List ℕ → ℕ
value_from i [] = i
value_from i (b ∷ bs) = value_from (10 * i + (b - 48)) bs

-- what a word is: a number that is not negative, a negative number, or neither
pub data Term : Type 0 where
  number : ℕ → Term
  negative : Term
  other : Term

-- one digit at least, and nothing else; behind a minus
unfoldable pub unsigned : List ℕ → Term
unsigned [] = other
unsigned (b ∷ bs) = pick (all_digits (b ∷ bs)) (number (value_from 0 (b ∷ bs))) other

unfoldable pub negated : Term → Term
negated (number zero) = number 0
negated (number (suc x)) = negative
negated negative = other
negated other = other

-- digits behind a minus, a plus or neither
unfoldable pub term_of : List ℕ → Term
term_of [] = other
term_of (b ∷ bs) = pick (eqb b 45) (negated (unsigned bs)) (pick (eqb b 43) (unsigned bs) (unsigned (b ∷ bs)))

-- the number, or 0 where there is none
unfoldable pub value_of : Term → ℕ
value_of (number x) = x
value_of negative = 0
value_of other = 0

-- a number below ten billion in decimal digits without leading zeros; of at most `suc n` digits, before those behind it
unfoldable pub digits_of : ℕ → ℕ → List ℕ → List ℕ
digits_of zero x behind = (48 + x % 10) ∷ behind
digits_of (suc n) x behind =
    let more = (48 + x % 10) ∷ behind in
    pick (eqb (x / 10) 0) more (digits_of n (x / 10) more)

abbrev pub decimal : ℕ → List ℕ
decimal x = digits_of 9 x []

-- numbers with a space behind each; with a space between them and a line feed behind the last
unfoldable pub spaced : List ℕ → List ℕ
spaced [] = []
spaced (x ∷ xs) = decimal x ++ (space ∷ spaced xs)

unfoldable pub line : List ℕ → List ℕ
line [] = line_feed ∷ []
line (x ∷ []) = decimal x ++ (line_feed ∷ [])
line (x ∷ y ∷ xs) = decimal x ++ (space ∷ line (y ∷ xs))
