use Rattle.std.proofs.Common.{arith, ◌≡◌, ◌<◌, ◌≤◌}
use Rattle.std.proofs.lemmas.Bool.Decides.{nat_tests}
use Rattle.cpi_index.specs.Series.{carried_serial}
use Rattle.cpi_index.proofs.Steps.{base_first, base_same, first_least, none_rise, rises_past}
use Rattle.cpi_index.proofs.bases.rest_after.Goals as goal

pub returns-in-empty-clause-merged : goal.returns-in-empty-clause-merged
returns-in-empty-clause-merged c =
    base_first c.args.serial c.args.prices.now (none_rise _ c.args.prices.now c.in-empty.len_below)

pub returns-then-serial-clause-merged : goal.returns-then-serial-clause-merged
returns-then-serial-clause-merged c =
    let same : carried_serial c.first-item.result ≡ c.args.serial = grind (arith, nat_tests) in
    base_same c.args.serial c.args.prices.now c.first-item.result c.in-len1-up.len_at_least c.first-item.is same

pub returns-else-serial-clause-merged : goal.returns-else-serial-clause-merged
returns-else-serial-clause-merged c =
    let xs = c.args.prices.now in
    let least : c.args.serial ≤ carried_serial c.first-item.result =
    first_least c.args.serial xs c.first-item.result c.in-len1-up.len_at_least c.first-item.is c.requires in
    let above : c.args.serial < carried_serial c.first-item.result = grind (arith, nat_tests, least) in
    base_first c.args.serial xs
    (rises_past c.args.serial xs c.first-item.result c.in-len1-up.len_at_least c.first-item.is above c.requires)
