-- What `find_list` leaves to show: the records that are kept make the problem that was read.
use Rattle.std.proofs.Common.{sym, arith}
use Rattle.model.specs.Encoding.{Byte}
use Rattle.model.proofs.Elements.{all_each}
use Rattle.layout.specs.Layout.{source_at}
use Rattle.problem.proofs.Accepted.{read_accepted}
use Rattle.problem.proofs.Readings.{sized}
use Rattle.listing.proofs.PlacesKept.{kept_source, kept_says}
use Rattle.listing.proofs.ReadRecords.{places_fit, places_at_lem, records_read, list_found}
use Rattle.listing.proofs.find_list.Goals as goal

pub slice_bounds-sizes-end : goal.slice_bounds-sizes-end
slice_bounds-sizes-end c =
    let a = read_accepted c.args.s.now c.args.q c.requires.0.read in
    omega (arith, a.room, a.few_variables)

pub slice_bounds-keep_places-end : goal.slice_bounds-keep_places-end
slice_bounds-keep_places-end c = sym (sized _ _ (read_accepted c.args.s.now c.args.q c.requires.0.read))

pub keep_places-requires : goal.keep_places-requires
keep_places-requires c =
    let q = c.args.q in
    let w = c.args.work.now in
    let h = c.requires.0 in
    let a = records_read c.args.s.now q (read_accepted c.args.s.now q h.read) w h.memory in
    let fits = places_fit q.head.tables source_at w (omega (arith, a.tables, a.memory)) in
    (rw c.tables_start-at.ensures a.whole, a.small, fits, a.bytes)

pub slice_bounds-sizes-end-2 : goal.slice_bounds-sizes-end-2
slice_bounds-sizes-end-2 c =
    let a = read_accepted c.args.s.now c.args.q c.requires.0.read in
    omega (arith, a.room, a.few_variables)

pub slice_bounds-find_source-end : goal.slice_bounds-find_source-end
slice_bounds-find_source-end c = sym (sized _ _ (read_accepted c.args.s.now c.args.q c.requires.0.read))

pub find_source-requires : goal.find_source-requires
find_source-requires c =
    let q = c.args.q in
    let h = c.requires.0 in
    let records = records_read c.args.s.now q (read_accepted c.args.s.now q h.read) c.args.work.now h.memory in
    let says = places_at_lem _ _ _ _ c.tables_start-at.ensures c.keep_places.ensures in
    (kept_source _ _ _ _ _ _ _ _ records _ says _ c.widened-wide.ensures, c.requires.1)

pub returns : goal.returns
returns c =
    let s = c.args.s.now in
    let q = c.args.q in
    let h = c.requires.0 in
    let accepted = read_accepted s q h.read in
    let records = records_read s q accepted c.args.work.now h.memory in
    let says = places_at_lem _ _ _ _ c.tables_start-at.ensures c.keep_places.ensures in
    let f = c.find_source in
    list_found _ _ accepted (all_each Byte 0 s (λ i. omega (arith, c.type_inv.s i)))
    (kept_says _ _ _ _ _ _ _ _ records _ says _ c.widened-wide.ensures _ f.result.found f.ensures)
