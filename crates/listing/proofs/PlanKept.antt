-- A plan behind the archive's rows: the problem's records are copied there and rearranged, and stay where they stood.
use Rattle.std.proofs.Common.{◌≡◌, ℕ, ◌+◌, ◌-◌, ◌≤◌, List, ◌++◌, length, take, drop, sym, refl, ap, ◌∙◌}
use Rattle.std.proofs.Common.{append-nil, arith, length-append, length-drop, length-take-le, take-take, drop-drop}
use Rattle.std.proofs.Common.{drop_at}
use lib.Seq.{take-append-le, drop-length}
use Rattle.model.specs.Basics.{All}
use Rattle.model.proofs.Lists.{take_drop, take_rest}
use Rattle.problem.specs.Records.{Whole}
use Rattle.layout.specs.Layout.{source_at, list_at, list_end}
use Rattle.groups.proofs.Overwritten.{over, over_length, over_part, over_here}
use Rattle.groups.specs.Sources.{source_in}
use Rattle.branch_directions.specs.Directions.{Sensible}
use Rattle.branch_directions.specs.declared.Directions as DD
use Rattle.layout.specs.Places.{max_messages, children_at, numbers_at}
use Rattle.branch_buckets.specs.Messages.{count_from}
use Rattle.branch_buckets.specs.Content.{Planned}
use Rattle.branch_buckets.specs.Sound.{Tested, Rearranged}
use Rattle.branch_search.specs.States.{plan_in, rows_in}
use Rattle.listing.specs.Says.{Plannable, Kept, PlanSays}
use Rattle.listing.proofs.PlacesKept.{behind_at, written}

-- the part of memory from `from` on is `kept` now
module _ (work : List ℕ) (from : ℕ) (inside : from ≤ length work) (kept : List ℕ)
    (same : length kept ≡ length (behind_at work from)) where
  front : length (take from work) ≡ from
  front = length-take-le from work inside

  pub behind_all : behind_at work from ≡ drop from work
  behind_all = take_rest work from

  rest : drop (length work - from) (drop from work) ≡ drop (length work) work
  rest =
      let e : from + (length work - from) ≡ length work = omega arith in
      rw e at (drop-drop (length work - from) from work)

  whole : written work from kept ≡ take from work ++ kept
  whole = rw (rest, drop-length work, append-nil kept)

  pub written_here : drop from (written work from kept) ≡ kept
  written_here = rw whole (drop_at (take from work) kept from front)

  pub written_long : length (written work from kept) ≡ length work
  written_long =
      rw whole
      (length-append (take from work) kept ∙ omega (arith, front, same, length-drop from work, ap length behind_all))

  pub written_front : (k a : ℕ) → a + k ≤ from → take k (drop a (written work from kept)) ≡ take k (drop a work)
  written_front k a h =
      take_drop k a (written work from kept)
      ∙ ap (drop a)
      (rw whole (take-append-le (a + k) (take from work) kept (omega (arith, front)) ∙ take-take (a + k) from work h))
      ∙ sym (take_drop k a work)

module _ {r : ℕ} {ds s work : List ℕ} (p : Plannable r ds s work) where
  count : length (source_in work r) ≡ r
  count = length-take-le r (drop source_at work) (omega (arith, length-drop source_at work, p.few, p.long))

  ends : list_end + r ≡ list_end + length (source_in work r)
  ends = omega (arith, count)

  fits : list_end + r ≤ length work
  fits = omega (arith, p.few, p.long)

  module _ (copied : List ℕ) (is : copied ≡ over work list_end (source_in work r) (list_end + r)) where
    copied_long : length copied ≡ length work
    copied_long = rw is (over_length work list_end (source_in work r) (list_end + r) ends fits)

    copied_places : take r (drop list_end copied) ≡ source_in work r
    copied_places = rw is (rw count at (over_here work list_end (source_in work r) (list_end + r) ends fits))

    copied_source : source_in copied r ≡ source_in work r
    copied_source =
        rw is (over_part work list_end (source_in work r) (list_end + r) ends fits r source_at (omega (arith, p.few)))

    copied_rows : rows_in copied ≡ rows_in work
    copied_rows =
        rw is
        (over_part work list_end (source_in work r) (list_end + r) ends fits (list_end - list_at) list_at (omega arith))

    inside : list_end ≤ length copied
    inside = omega (arith, copied_long, p.long)

    behind : behind_at copied list_end ≡ drop list_end copied
    behind = behind_all copied list_end inside (behind_at copied list_end) refl

    -- what making plans asks for: the records' places come first, and there is room
    pub places_whole : All (Whole ds s) (take r (behind_at copied list_end))
    places_whole = rw (behind, copied_places) p.whole

    pub plan_long : numbers_at ≤ length (behind_at copied list_end)
    plan_long = rw behind (omega (arith, length-drop list_end copied, copied_long, p.long))

    pub plan_asked :
        (d : DD.Directions) → Sensible d →
        Planned d r ds s (behind_at copied list_end) × (numbers_at ≤ length (behind_at copied list_end))
    plan_asked d sensible = (
      record {
        sensible = sensible;
        small = p.small;
        variables = p.variables;
        few = p.few;
        whole = places_whole;
        long = omega (arith, plan_long);
      },
      plan_long,
    )

    -- plans are made: the problem's records and the archive stand before them
    module _ (plan : List ℕ) (same : length plan ≡ length (behind_at copied list_end))
        (whole : All (Whole ds s) (take r plan)) where
      abbrev after : List ℕ
      after = written copied list_end plan

      after_plan : plan_in after ≡ plan
      after_plan = written_here copied list_end inside plan same

      after_source : source_in after r ≡ source_in work r
      after_source =
          written_front copied list_end inside plan same r source_at (omega (arith, p.few)) ∙ copied_source

      pub plan_kept : Kept r work after
      plan_kept = record {
        long = written_long copied list_end inside plan same ∙ copied_long;
        source = after_source;
      }

      pub rows_kept : rows_in (written copied list_end plan) ≡ rows_in work
      rows_kept =
          written_front copied list_end inside plan same (list_end - list_at) list_at (omega arith) ∙ copied_rows

      -- the last of them is tested
      module _ (d : DD.Directions) (sensible : Sensible d)
          (made : Rearranged (take r (behind_at copied list_end)) (take r plan)
          × Rearranged (count_from 0 max_messages) (take max_messages (drop children_at plan))) where
        after_planned : Planned d r ds s plan
        after_planned =
            record {
              sensible = sensible;
              small = p.small;
              variables = p.variables;
              few = p.few;
              whole = whole;
              long = omega (arith, same, plan_long);
            }

        tested : behind_at after list_end ≡ plan
        tested =
            behind_all after list_end (omega (arith, written_long copied list_end inside plan same, inside))
            (behind_at after list_end) refl
            ∙ after_plan

        -- what testing it asks for
        pub test_asked : Planned d r ds s (behind_at after list_end) × (numbers_at ≤ length (behind_at after list_end))
        test_asked = rw tested (after_planned, omega (arith, same, plan_long))

        pub plan_says : Tested d r ds s (behind_at after list_end) → PlanSays d r ds s work after
        plan_says passed =
            record {
              planned = rw after_plan after_planned;
              sound =
                  rw (after_source, after_plan)
                  (record {
                    tested = rw tested at passed;
                    whole = whole;
                    records = rw (behind, copied_places) at made.0;
                    messages = made.1;
                  });
            }
