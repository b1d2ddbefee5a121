-- What `part_fits` leaves to show: four variables are marked.
use Rattle.plan_test.specs.Marks.{Marked}
use Rattle.plan_test.specs.Parts.{PartReads}
use Rattle.plan_test.proofs.Marking.{bucket_map, part_marks}
use Rattle.plan_test.proofs.part_fits.Goals as goal

pub returns : goal.returns
returns c =
    let a = c.args in
    let marks = c.with_value-marks in
    let is =
    part_marks a.plan.now a.p c.with_value-one.result c.with_value-two.result c.with_value-three.result marks.result
    c.with_value-one.ensures c.with_value-two.ensures c.with_value-three.ensures marks.ensures in
    λ h. bucket_map (Marked marks.result) (PartReads a.plan.now a.p) is a.s.now a.plan.now a.p.span
    (c.is_bucket_marked.ensures h)
