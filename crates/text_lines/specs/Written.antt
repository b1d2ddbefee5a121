-- What a function that writes a form to a place of a buffer ensures. It measures as well: where the form does not fit,
-- nothing is promised but the place behind it and the buffer's length.
use Rattle.std.specs.Prelude.{◌≡◌, List, ◌++◌, ℕ, ◌+◌, ◌≤◌, length, take, drop}

pub record Written (at : ℕ) (form out out' : List ℕ) (behind : ℕ) : Type 0 where
  pub next : behind ≡ at + length form
  pub kept : length out' ≡ length out
  pub there : behind ≤ length out → out' ≡ take at out ++ (form ++ drop behind out)
