use Rattle.std.proofs.Common.{arith, ◌<◌, ◌++◌, ◌∷◌, [], map, ap, ◌∙◌}
use Rattle.std.proofs.lemmas.Bool.Decides.{nat_tests}
use Rattle.cpi_index.specs.Carried.{as_base}
use Rattle.cpi_index.specs.Series.{carried_serial}
use Rattle.cpi_index.specs.Sample.{put_all_bases}
use Rattle.cpi_index.proofs.Steps.{Rise_tail, kept_below}
use Rattle.cpi_index.proofs.bases.keep_below.Goals as goal

pub loop-rest-preserved : goal.loop-rest-preserved
loop-rest-preserved c =
    let xs = c.loop-rest.rest.now in
    let below : carried_serial c.first-item.result < c.args.serial = grind (arith, nat_tests) in
    record {
      merged = kept_below c.args.serial xs c.loop-rest.bases.items c.push.new.self.items c.first-item.result
          (λ cs. c.args.bases.now.items ++ put_all_bases cs (map as_base c.args.prices.now)) c.in-len1-up.len_at_least
          c.first-item.is below
          (c.in_ok-push.ensures.items ∙ ap (λ b. c.loop-rest.bases.items ++ b ∷ []) c.kept.ensures)
          c.loop-rest.invariant.merged;
      rises = Rise_tail xs c.in-len1-up.len_at_least c.loop-rest.invariant.rises;
    }
