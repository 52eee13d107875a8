use Rattle.std.proofs.Common.{rules, ◌≡◌, ◌+◌, ◌++◌, ◌∷◌, [], None, Some, take, true, false, sym, ap, ◌∙◌}
use Rattle.std.specs.Prelude.{option_map, ◌==◌}
use Rattle.std.specs.Option.{option_copied}
use Rattle.std.proofs.lemmas.List.{take_more}
use Rattle.cpi_release.specs.PublishedTables.{PublishedTable}
use Rattle.cpi_release.specs.declared.release.Release.{Release}
use Rattle.cpi_store.specs.Tables.{table_until, is_wanted}
use Rattle.cpi_store.proofs.PublishedTables.{table_wanted, table_unwanted, wanted_named, wanted_other}
use Rattle.cpi_store.proofs.releases.table_until.Goals as goal
use Rattle.cpi_store.proofs.releases.table_until.Goals.{then-eq+then-is_due, else-eq, else-eq-via-then-eq+else-is_due}
use Rattle.cpi_store.proofs.releases.table_until.Goals.{else-eq-via-else-eq}

pub loop-release-preserved : goal.loop-release-preserved
loop-release-preserved c =
    let rs = c.args.releases.now in
    let i = c.loop-release.release-index in
    let x = c.release-item.result in
    let month = c.args.month in
    let revision = c.args.revision in
    let until = c.args.until in
    let more = take_more rs i x c.loop-release-test.true
    ∙ ap (λ (z : Release). take i rs ++ z ∷ []) (sym c.release-item.is) in
    let told = ap (λ xs. option_map (λ (t : PublishedTable). t.levels) (table_until month (Some revision) until xs))
    more in
    let kept : is_wanted month (Some revision) until x ≡ false →
    option_map (λ (t : PublishedTable). t.levels) (table_until month (Some revision) until (take i rs)) ≡
    option_map (λ (t : PublishedTable). t.levels) (table_until month (Some revision) until (take (i + 1) rs)) =
    λ unwanted. sym (told ∙ ap (option_map (λ (t : PublishedTable). t.levels))
    (table_unwanted month (Some revision) until (take i rs) x unwanted)) in
    elim c.if-eq.branch [
      | then-eq+then-is_due w ↦
          let named : (x.revision == revision) ≡ true = search rules in
          let due : is_wanted month None until x ≡ true = search rules in
          let is = wanted_named month revision until x named ∙ due in
          ap option_copied w.found-is ∙ sym (told ∙ ap (option_map (λ (t : PublishedTable). t.levels))
          (table_wanted month (Some revision) until (take i rs) x is))
      | else-eq w ↦
          ap option_copied w.found-is ∙ c.loop-release.invariant ∙ elim w.else-eq.branch [
            | else-eq-via-then-eq+else-is_due v ↦
                let named : (x.revision == revision) ≡ true = search rules in
                let due : is_wanted month None until x ≡ false = search rules in
                kept (wanted_named month revision until x named ∙ due)
            | else-eq-via-else-eq v ↦
                let other : (x.revision == revision) ≡ false = search rules in
                kept (wanted_other month revision until x other)
          ]
    ]
