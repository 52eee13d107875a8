use Rattle.std.proofs.Common.{rules, ◌≡◌, ◌++◌, ◌∷◌, [], None, take, true, false, sym, ap, ◌∙◌}
use Rattle.std.specs.Prelude.{option_map}
use Rattle.std.proofs.lemmas.List.{take_more}
use Rattle.cpi_release.specs.PublishedTables.{PublishedTable}
use Rattle.cpi_release.specs.declared.release.Release.{Release}
use Rattle.cpi_store.specs.Tables.{table_until, is_wanted}
use Rattle.cpi_store.proofs.PublishedTables.{table_wanted, table_unwanted}
use Rattle.cpi_store.proofs.releases.revision_until.Goals as goal
use Rattle.cpi_store.proofs.releases.revision_until.Goals.{then-is_due, else-is_due}

pub loop-release-preserved : goal.loop-release-preserved
loop-release-preserved c =
    let rs = c.args.releases.now in
    let i = c.loop-release.release-index in
    let x = c.release-item.result in
    let month = c.args.month in
    let until = c.args.until in
    let more = take_more rs i x c.loop-release-test.true
    ∙ ap (λ (z : Release). take i rs ++ z ∷ []) (sym c.release-item.is) in
    let told = ap (λ xs. option_map (λ (t : PublishedTable). t.revision) (table_until month None until xs)) more in
    elim c.if-is_due.branch [
      | then-is_due w ↦
          let is : is_wanted month None until x ≡ true = search rules in
          w.found-is ∙ sym (told ∙ ap (option_map (λ (t : PublishedTable). t.revision))
          (table_wanted month None until (take i rs) x is))
      | else-is_due w ↦
          let is : is_wanted month None until x ≡ false = search rules in
          w.found-is ∙ c.loop-release.invariant ∙ sym (told ∙ ap (option_map (λ (t : PublishedTable). t.revision))
          (table_unwanted month None until (take i rs) x is))
    ]
