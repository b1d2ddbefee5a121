-- What `is_under` leaves to show: the row is compared by four and four.
use Rattle.std.proofs.Common.{◌≡◌, sym, ap, ◌∙◌, inl, Bool, true, List, ℕ, ◌+◌, take, drop, w64, arith}
use lib.Seq.{take-take}
use Rattle.model.specs.Vectors.{at_most}
use Rattle.model.specs.Limits.{max_objectives}
use Rattle.model.proofs.Bits.{and-false}
use Rattle.rows.proofs.Arrays.{array_length}
use Rattle.branch_zones.specs.Zones.{zone_width}
use Rattle.branch_zones.proofs.ZoneRows.{row_fours}
use Rattle.branch_zones.proofs.is_under.Goals as goal

-- what is said of the first four numbers, and of the others
module _ (least zones : List ℕ) (at : ℕ) where
  abbrev one : Bool
  one = at_most (take 4 least) (take 4 (drop at zones))

  abbrev two : Bool
  two = at_most (take 4 (drop 4 least)) (take 4 (drop (at + 4) zones))

-- four numbers that were read
read_four : (xs zones : List ℕ) (at : ℕ) → xs ≡ take max_objectives (drop at zones) → take 4 xs ≡ take 4 (drop at zones)
read_four xs zones at e = ap (take 4) e ∙ take-take 4 4 (drop at zones) (omega arith)

pub returns-then-not-is_at_most : goal.returns-then-not-is_at_most
returns-then-not-is_at_most c =
    let a = c.args in
    let zones = a.zones.now in
    let fours = row_fours a.least zones a.at (array_length w64 zone_width a.least _ c.well_formed.0) c.requires in
    let first = c.is_at_most.ensures ∙ ap (at_most (take 4 a.least)) (read_four _ zones a.at c.numbers_at.ensures) in
    sym (fours ∙ and-false (one a.least zones a.at) (two a.least zones a.at)
    (inl (sym first ∙ c.if-not-is_at_most.true)))

pub returns : goal.returns
returns c =
    let a = c.args in
    let zones = a.zones.now in
    let fours = row_fours a.least zones a.at (array_length w64 zone_width a.least _ c.well_formed.0) c.requires in
    let first = c.is_at_most.ensures ∙ ap (at_most (take 4 a.least)) (read_four _ zones a.at c.numbers_at.ensures) in
    let yes : one a.least zones a.at ≡ true = sym first ∙ c.if-not-is_at_most.false in
    let said : c.is_at_most-2.result ≡ two a.least zones a.at =
    c.is_at_most-2.ensures
    ∙ ap (λ (u : List ℕ). at_most u (take 4 c.numbers_at-2.result)) (take-take 4 4 (drop 4 a.least) (omega arith))
    ∙ ap (at_most (take 4 (drop 4 a.least))) (read_four _ zones (a.at + 4) c.numbers_at-2.ensures) in
    said ∙ sym (fours ∙ rw yes)
