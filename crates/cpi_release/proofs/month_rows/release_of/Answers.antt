use Rattle.std.proofs.Common.{◌≡◌, ◌≢◌, ◌++◌, ◌∷◌, [], take, sym, ap, ◌∙◌, rules}
use Rattle.std.specs.Option.{option_copied}
use Rattle.std.proofs.lemmas.List.{take_more}
use Rattle.cpi_release.specs.Releases.{latest_release}
use Rattle.cpi_release.specs.declared.release.Release.{Release}
use Rattle.cpi_release.proofs.LatestRows.{latest_own, latest_other}
use Rattle.cpi_release.proofs.month_rows.release_of.Goals as goal
use Rattle.cpi_release.proofs.month_rows.release_of.Goals.{then-eq, else-eq}

pub loop-release-preserved : goal.loop-release-preserved
loop-release-preserved c =
    let rs = c.args.releases.now in
    let i = c.loop-release.release-index in
    let x = c.release-item.result in
    let more = ap (λ xs. latest_release xs c.args.month)
    (take_more rs i x c.loop-release-test.true ∙ ap (λ (z : Release). take i rs ++ z ∷ [])
    (sym c.release-item.is)) in
    elim c.if-eq.branch [
      | then-eq w ↦
          let same : x.month ≡ c.args.month = search rules in
          ap option_copied w.found-is ∙ sym (more ∙ latest_own (λ (r : Release). r.month) c.args.month
          (take i rs) x same)
      | else-eq w ↦
          let apart : x.month ≢ c.args.month = search rules in
          ap option_copied w.found-is ∙ c.loop-release.invariant
          ∙ sym (more ∙ latest_other (λ (r : Release). r.month) c.args.month (take i rs) x apart)
    ]
