-- A row that is sent, against the row in its place.
use Rattle.std.specs.Prelude.{Bool, Option, Some, None, if◌then◌else◌}
use Rattle.cpi_store.specs.Office.{Change}
use Rattle.cpi_office.specs.declared.refusal.Refusal.TheVariants.{Taken}
use Rattle.cpi_office.specs.declared.standing.Standing.{Standing}
use Rattle.cpi_office.specs.declared.standing.Standing.TheVariants.{Free, Same, Other}
use Rattle.cpi_office.specs.Verdicts.{Verdict, Refuses, Stands, Makes}

abbrev pub standing : {X Y : Type 0} → (Y → X → Bool) → X → Option Y → Standing
standing same row None = Free
standing same row (Some old) = if same old row then Same else Other

-- a row that is never replaced
abbrev pub put_once : Change → Standing → Verdict
put_once c Free = Makes c
put_once c Same = Stands c
put_once c Other = Refuses Taken
