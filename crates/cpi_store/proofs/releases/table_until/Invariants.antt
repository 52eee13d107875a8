use Rattle.std.proofs.Common.{◌≡◌, Some, take}
use Rattle.std.specs.Prelude.{option_map}
use Rattle.std.specs.Option.{option_copied}
use Rattle.cpi_store.specs.Tables.{table_until}
use Rattle.cpi_store.proofs.releases.table_until.Given as goal

-- the one that is asked for among those before
abbrev pub invariant-loop-release : goal.invariant-loop-release
invariant-loop-release l =
    option_copied l.found ≡ option_map (λ t. t.levels)
    (table_until l.month (Some l.revision) l.until (take l.release-index l.releases))
