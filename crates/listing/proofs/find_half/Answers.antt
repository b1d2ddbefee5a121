-- What `find_half` leaves to show: the records kept for the side make the view of the problem that was read.
use Rattle.std.proofs.Common.{length, sym, ap, ◌∙◌, arith}
use Rattle.layout.specs.Layout.{records_at}
use Rattle.problem.proofs.Accepted.{read_accepted}
use Rattle.problem.proofs.Readings.{sized}
use Rattle.views.proofs.Narrowing.{narrowed_length}
use Rattle.listing.proofs.HalfKept.{side_asked, side_source, side_says}
use Rattle.listing.proofs.ReadRecords.{places_fit, places_at_lem, records_read, half_found, sides_sized}
use Rattle.listing.proofs.find_half.Goals as goal

-- ## all records

pub slice_bounds-sizes-end : goal.slice_bounds-sizes-end
slice_bounds-sizes-end c =
    let a = read_accepted c.args.s.now c.args.q c.requires.0.read in
    omega (arith, a.room, a.few_variables)

pub slice_bounds-keep_places-end : goal.slice_bounds-keep_places-end
slice_bounds-keep_places-end c = sym (sized _ _ (read_accepted c.args.s.now c.args.q c.requires.0.read))

pub keep_places-requires : goal.keep_places-requires
keep_places-requires c =
    let q = c.args.q in
    let w = c.args.work.now in
    let h = c.requires.0 in
    let a = records_read c.args.s.now q (read_accepted c.args.s.now q h.read) w h.memory in
    let fits = places_fit q.head.tables records_at w (omega (arith, a.tables, a.memory)) in
    (rw c.tables_start-at.ensures a.whole, a.small, fits, a.bytes)

-- ## the side's

pub slice_bounds-sizes-end-2 : goal.slice_bounds-sizes-end-2
slice_bounds-sizes-end-2 c =
    let a = read_accepted c.args.s.now c.args.q c.requires.0.read in
    omega (arith, a.room, a.few_variables)

pub slice_bounds-narrow-end : goal.slice_bounds-narrow-end
slice_bounds-narrow-end c = sym (sized _ _ (read_accepted c.args.s.now c.args.q c.requires.0.read))

pub narrow-narrow-requires : goal.narrow-narrow-requires
narrow-narrow-requires c =
    let q = c.args.q in
    let h = c.requires.0 in
    let accepted = read_accepted c.args.s.now q h.read in
    let records = records_read c.args.s.now q accepted c.args.work.now h.memory in
    (sides_sized _ _ accepted c.args.sides.now c.requires.1, records.variables)

pub slice_bounds-sizes-end-3 : goal.slice_bounds-sizes-end-3
slice_bounds-sizes-end-3 c =
    let a = read_accepted c.args.s.now c.args.q c.requires.0.read in
    omega (arith, a.room, a.few_variables)

pub slice_bounds-keep_records-end : goal.slice_bounds-keep_records-end
slice_bounds-keep_records-end c = sym (sized _ _ (read_accepted c.args.s.now c.args.q c.requires.0.read))

pub keep_records-count-requires : goal.keep_records-count-requires
keep_records-count-requires c =
    let q = c.args.q in
    let h = c.requires.0 in
    let accepted = read_accepted c.args.s.now q h.read in
    let records = records_read c.args.s.now q accepted c.args.work.now h.memory in
    let same = sides_sized _ _ accepted c.args.sides.now c.requires.1 in
    let says = places_at_lem _ _ _ _ c.tables_start-at.ensures c.keep_places.ensures in
    side_asked _ _ _ c.args.side _ c.args.sides.now _ _ records same _ says

pub slice_bounds-narrow-end-2 : goal.slice_bounds-narrow-end-2
slice_bounds-narrow-end-2 c =
    let a = read_accepted c.args.s.now c.args.q c.requires.0.read in
    omega (arith, a.few_variables)

pub slice_bounds-find_source-end : goal.slice_bounds-find_source-end
slice_bounds-find_source-end c =
    let accepted = read_accepted c.args.s.now c.args.q c.requires.0.read in
    let same = sides_sized _ _ accepted c.args.sides.now c.requires.1 in
    let is = rw (sized _ _ accepted) at c.narrow-narrow.ensures in
    sym (ap length is ∙ narrowed_length c.args.side c.args.sides.now _ same ∙ sized _ _ accepted)

pub find_source-searched-requires : goal.find_source-searched-requires
find_source-searched-requires c =
    let q = c.args.q in
    let h = c.requires.0 in
    let accepted = read_accepted c.args.s.now q h.read in
    let records = records_read c.args.s.now q accepted c.args.work.now h.memory in
    let same = sides_sized _ _ accepted c.args.sides.now c.requires.1 in
    let says = places_at_lem _ _ _ _ c.tables_start-at.ensures c.keep_places.ensures in
    let is = rw (sized _ _ accepted) at c.narrow-narrow.ensures in (
      side_source _ _ _ c.args.side _ c.args.sides.now _ _ records same _ says _ _ c.keep_records-count.ensures _ _ is,
      omega arith,
    )

pub returns : goal.returns
returns c =
    let q = c.args.q in
    let h = c.requires.0 in
    let accepted = read_accepted c.args.s.now q h.read in
    let records = records_read c.args.s.now q accepted c.args.work.now h.memory in
    let same = sides_sized _ _ accepted c.args.sides.now c.requires.1 in
    let says = places_at_lem _ _ _ _ c.tables_start-at.ensures c.keep_places.ensures in
    let is = rw (sized _ _ accepted) at c.narrow-narrow.ensures in
    let f = c.find_source-searched in
    half_found _ _ accepted c.args.side c.args.sides.now c.args.ceilings
    (side_says _ _ _ c.args.side _ c.args.sides.now _ _ records same _ says _ _ c.keep_records-count.ensures _ _ is _
    f.result.found f.ensures)
