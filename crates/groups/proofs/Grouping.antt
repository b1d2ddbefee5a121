-- The groups of the first v variables, written one after another, each with its start.
use mathlib.Core.Path.{◌≡◌, refl, ap, ◌∙◌}
use mathlib.Core.List.{List}
use Prim.Native.Nat.{ℕ, ◌+◌, ◌-◌, ◌≤◌, ◌<◌}
use native.Mathlib.Omega.{arith}
use borrow.Author.Count.{below_more}
use lib.ListN.{length, get_or, take, drop, set, length-set}
use lib.Seq.{drop-set-lt, get_or-set_same, get_or-set_other}
use Rattle.layout.specs.Layout.{groups_at, records_at}
use Rattle.groups.specs.Groups.{group_of, places_in, Placed, Grouped}
use Rattle.groups.proofs.GroupLengths.{length_to, length_next, length_later, length_few}
use Rattle.groups.proofs.Overwritten.{over, over_length, over_behind, over_before, over_part, over_here}
use Rattle.groups.proofs.PlacedRecords.{places_length}

-- where the group of v starts
abbrev start_of : List ℕ → List ℕ → ℕ → ℕ
start_of s places v = groups_at + length_to s places v

-- the group of u stands where it should
abbrev Stands : List ℕ → List ℕ → List ℕ → ℕ → Type 0
Stands s places work u = take (length (group_of s u places)) (drop (start_of s places u) work) ≡ group_of s u places

pub record Grouping (s was : List ℕ) (r : ℕ) (work : List ℕ) (end v : ℕ) : Type 0 where
  pub same : length work ≡ length was
  pub records : drop records_at work ≡ drop records_at was
  pub ends : end ≡ start_of s (places_in was r) v
  pub starts : (u : ℕ) → u < v → get_or work u 0 ≡ start_of s (places_in was r) u
  pub groups : (u : ℕ) → u < v → Stands s (places_in was r) work u

pub grouping_start : (s was : List ℕ) (r : ℕ) → Grouping s was r was groups_at 0
unfolding length_to
grouping_start s was r =
    record {
      same = refl;
      records = refl;
      ends = refl;
      starts = λ u h. absurd (omega arith);
      groups = λ u h. absurd (omega arith);
    }

module _ (ds s was : List ℕ) (r : ℕ) (placed : Placed ds s was r) where
  abbrev places : List ℕ
  places = places_in was r

  start_inside : (v : ℕ) → start_of s places v ≤ records_at
  start_inside v = omega (arith, length_few ds s places placed.whole v, places_length ds s was r placed, placed.few)

  module _ (work : List ℕ) (end v : ℕ) (u : Grouping s was r work end v) where
    pub end_inside : end ≤ records_at
    end_inside = omega (arith, u.ends, start_inside v)

    -- a number x written before the groups
    module _ (k x : ℕ) (low : k < groups_at) where
      marked_length : length (set work k x) ≡ length was
      marked_length = length-set work k x ∙ u.same

      marked_records : drop records_at (set work k x) ≡ drop records_at was
      marked_records = drop-set-lt records_at work k x (omega arith) ∙ u.records

      marked_places : places_in (set work k x) r ≡ places
      marked_places = ap (take r) marked_records

      marked_groups : (j : ℕ) → j < v → Stands s places (set work k x) j
      marked_groups j h =
          ap (take (length (group_of s j places))) (drop-set-lt (start_of s places j) work k x (omega arith))
          ∙ u.groups j h

      pub marked_placed : Placed ds s (set work k x) r
      marked_placed =
          record {
            few = placed.few;
            small = placed.small;
            variables = placed.variables;
            long = omega (arith, marked_length, placed.long);
            whole = rw marked_places placed.whole;
          }

      pub marked_room : end + length (group_of s v (places_in (set work k x) r)) ≤ records_at
      marked_room = rw marked_places (omega (arith, u.ends, length_next s places v, start_inside (v + 1)))

    -- the start of v
    module _ (low : v < groups_at) where
      abbrev marked : List ℕ
      marked = set work v end

      marked_starts : (k : ℕ) → k < v + 1 → get_or marked k 0 ≡ start_of s places k
      marked_starts =
          below_more
          (λ k. get_or marked k 0 ≡ start_of s places k)
          v
          (λ k h. get_or-set_other work v k end 0 (λ e. omega arith) ∙ u.starts k h)
          (get_or-set_same work v end 0 (omega (arith, u.same, placed.long)) ∙ u.ends)

      pub grouping_next : (e : ℕ) (after : List ℕ) → e ≡ end + length (group_of s v (places_in marked r))
          → after ≡ over marked end (group_of s v (places_in marked r)) e → Grouping s was r after e (v + 1)
      grouping_next e after long written =
          let g = group_of s v places in
          let kept = marked_places v end low in
          let is : e ≡ end + length g = rw kept at long in
          let below : e ≤ records_at = omega (arith, u.ends, length_next s places v, start_inside (v + 1)) in
          let fits : e ≤ length marked = omega (arith, marked_length v end low, placed.long) in
          let says : after ≡ over marked end g e = rw kept at written in
          let old : (k : ℕ) → k < v → Stands s places after k =
          λ k h. rw says
          (over_part marked end g e is fits (length (group_of s k places)) (start_of s places k)
          (omega (arith, u.ends, length_later s places k v h))
          ∙ marked_groups v end low k h) in
          let new : Stands s places after v = rw (says, ← u.ends) (over_here marked end g e is fits) in
          record {
            same = rw says (over_length marked end g e is fits ∙ marked_length v end low);
            records = rw says (over_behind marked end g e is fits records_at below ∙ marked_records v end low);
            ends = omega (arith, u.ends, length_next s places v);
            starts = λ k h. rw says (over_before marked end g e is fits k (omega (arith, u.ends)) ∙ marked_starts k h);
            groups = below_more (Stands s places after) v old new;
          }

      pub grouping_end : v ≡ length ds
          → Grouped ds s marked r × (drop records_at marked ≡ drop records_at was) × (length marked ≡ length was)
      grouping_end last =
          let here : (k : ℕ) → k < length ds → get_or marked k 0 ≡ start_of s places k =
          λ k h. marked_starts k (omega arith) in
          let next : (k : ℕ) → k < length ds
          → get_or marked (k + 1) 0 ≡ start_of s places k + length (group_of s k places) =
          λ k h. omega (arith, marked_starts (k + 1) (omega arith), length_next s places k) in
          let part : (k : ℕ) → k < length ds
          → get_or marked (k + 1) 0 - get_or marked k 0 ≡ length (group_of s k places) =
          λ k h. omega (arith, here k h, next k h) in (
            record {
              placed = marked_placed v end low;
              from = λ k h. omega (arith, here k h);
              to = λ k h. omega (arith, here k h, next k h);
              end = λ k h. omega (arith, marked_starts (k + 1) (omega arith), start_inside (k + 1));
              group = λ k h. rw (part k h, here k h, marked_places v end low) (marked_groups v end low k (omega arith));
            },
            marked_records v end low,
            marked_length v end low,
          )
