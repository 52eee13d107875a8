use Rattle.std.proofs.Common.{arith, ◌≡◌, false, ap, ◌∙◌}
use Rattle.std.proofs.lemmas.Bool.Decides.{nat_tests}
use Rattle.cpi_index.specs.Sample.{is_none_of}
use Rattle.cpi_index.specs.Places.{is_empty_at}
use Rattle.cpi_index.proofs.Samples.{sample_read, none_more}
use Rattle.cpi_index.proofs.lists.month.first_empty.Goals as goal

pub loop-place-preserved : goal.loop-place-preserved
loop-place-preserved c =
    let i = c.loop-place.place in
    let gs = c.args.groups.now in
    let empty : is_none_of c.index-groups-place.result.items ≡ false =
    grind (arith, nat_tests, c.index-groups-place.result.ok.0) in
    none_more (is_empty_at gs) i c.loop-place.invariant
    (ap is_none_of (sample_read gs i c.index-groups-place.result c.loop-place-test.true c.index-groups-place.is)
    ∙ empty)
