use Rattle.std.proofs.Common.{◌≡◌, None, take}
use Rattle.std.specs.Prelude.{option_map}
use Rattle.cpi_store.specs.Tables.{table_until}
use Rattle.cpi_store.proofs.releases.revision_until.Given as goal

-- the latest among those before
abbrev pub invariant-loop-release : goal.invariant-loop-release
invariant-loop-release l =
    l.found ≡ option_map (λ t. t.revision) (table_until l.month None l.until (take l.release-index l.releases))
