use Rattle.std.proofs.Common.{◌≡◌, ◌+◌, ◌++◌, ◌∷◌, true, map, sym, ap, ◌∙◌, subst, arith}
use Rattle.cpi_index.specs.Carried.{as_base}
use Rattle.cpi_index.specs.Series.{carried_serial, rises_from}
use Rattle.cpi_index.specs.Sample.{put_all_bases}
use Rattle.cpi_index.proofs.Merge.{from_head}
use Rattle.cpi_index.proofs.Steps.{pushed}
use Rattle.cpi_index.proofs.bases.put_base.Goals as goal

pub returns-clause-merged : goal.returns-clause-merged
returns-clause-merged c = λ cs above.
    let base = c.args.base in
    let n = c.serial-serial.result in
    let is : n ≡ carried_serial base = c.serial-serial.ensures.value in
    let rest = c.in_ok-rest.rest.now in
    let out = c.keep_below.new.bases.items in
    let all = c.args.bases.now.items ++ put_all_bases (base ∷ cs) (map as_base c.args.prices.now) in
    let kept : out ++ put_all_bases (base ∷ cs) (map as_base rest) ≡ all = c.in_ok-rest.ensures.merged (base ∷ cs)
    (from_head n (carried_serial base) (map carried_serial cs) (omega (arith, is)) above) in
    let after : put_all_bases (base ∷ cs) (map as_base rest) ≡ base ∷ put_all_bases cs
    (map as_base c.rest_after.result.now) =
    c.rest_after.ensures.merged base cs (sym is)
    (subst (λ k. rises_from (k + 1) (map carried_serial cs) ≡ true) (sym is) above) in
    pushed out c.push.new.self.items all (put_all_bases cs (map as_base c.rest_after.result.now)) base
    c.in_ok-push.ensures.items (ap (λ z. out ++ z) (sym after) ∙ kept)
