-- The rows of `version` that each number of the schema stands for.
use Rattle.std.specs.Prelude.{◌≡◌, List, []}
use Rattle.sqlite.specs.Order.{Row}
use Rattle.sqlite.specs.Held.{Held, state}
use Rattle.sqlite.specs.State.{Shown}
use Rattle.sqlite_trees.specs.declared.store.Store.{Ghosts}
use Rattle.cpi_sql_open.specs.declared.version.Version.{Version}
use Rattle.cpi_sql_open.specs.declared.version.Version.TheVariants.{First, Second, Other}
use Rattle.cpi_sql_rows.specs.Numbered.{IsVersion, version_text}

-- the rows of `version` are this number, or neither 1 nor 2
abbrev pub SaysVersion : Version → List Row → Type 0
SaysVersion First rows = IsVersion 1 rows
SaysVersion Second rows = IsVersion 2 rows
SaysVersion Other rows = (IsVersion 1 rows → ⊥) × (IsVersion 2 rows → ⊥)

-- Under whatever schema, the rows of `version` could be read within a transaction, and were this.
abbrev pub ShowsVersion : {S : Type 0} → Ghosts S → Held S → Version → Type 0
ShowsVersion {S} g held version =
    (begun looked : Held S) × ((state g begun).now ≡ (state g held).now) × (rows : List Row)
    × Shown version_text [] (state g begun) (state g looked) rows × SaysVersion version rows
