-- A batch of problems: each stands behind the mark `BP` and its length in four bytes, and nothing else stands there.
use Rattle.std.specs.Prelude.{Bool, ◌&&◌, ◌||◌, ℕ, zero, suc, ◌+◌, ◌-◌, eqb, leb}
use Rattle.std.specs.Prelude.{List, [], ◌∷◌, ◌++◌, length, get_or, take, drop}
use Rattle.model.specs.Basics.{pick}
use Rattle.model.specs.Encoding.{four_bytes}
use Rattle.model.specs.Reading.{word4}

-- the most problems of a batch
abbrev pub max_batch : ℕ
max_batch = 16

-- the letters of the mark; how many bytes stand before a problem
abbrev pub letter_b : ℕ
letter_b = 66

abbrev pub letter_p : ℕ
letter_p = 80

abbrev pub frame_head : ℕ
frame_head = 6

-- Of the frame that starts the list s: the problem's length, the problem, what follows.
abbrev pub frame_size : List ℕ → ℕ
frame_size s = word4 (drop 2 s)

unfoldable pub frame_problem : List ℕ → List ℕ
frame_problem s = take (frame_size s) (drop frame_head s)

unfoldable pub frame_rest : List ℕ → List ℕ
frame_rest s = drop (frame_head + frame_size s) s

-- whether one is there: its length is compared with the bytes that are left
unfoldable pub frame_ok : List ℕ → Bool
frame_ok s =
    leb frame_head (length s)
    && (eqb (get_or s 0 0) letter_b && (eqb (get_or s 1 0) letter_p && leb (frame_size s) (length s - frame_head)))

-- s is made of at most k frames; the problems in them
unfoldable pub frames_ok : ℕ → List ℕ → Bool
frames_ok zero s = eqb (length s) 0
frames_ok (suc k) s = eqb (length s) 0 || (frame_ok s && frames_ok k (frame_rest s))

unfoldable pub frames_in : ℕ → List ℕ → List (List ℕ)
frames_in zero s = []
frames_in (suc k) s = pick (eqb (length s) 0) [] (frame_problem s ∷ frames_in k (frame_rest s))

-- of the whole
abbrev pub batch_ok : List ℕ → Bool
batch_ok s = frames_ok max_batch s

abbrev pub batch_of : List ℕ → List (List ℕ)
batch_of s = frames_in max_batch s

-- problems as a batch
unfoldable pub batch_bytes : List (List ℕ) → List ℕ
batch_bytes [] = []
batch_bytes (p ∷ ps) = (letter_b ∷ letter_p ∷ four_bytes (length p)) ++ p ++ batch_bytes ps
