-- The laws of whole runs.
use Rattle.std.specs.Prelude.{◌≡◌, ℕ, List}
use Rattle.cpi_store.specs.Office.{Office}
use Rattle.cpi_office.specs.Projections.{view}
use Rattle.cpi_office.specs.Runs.{after, changes}
use Rattle.cpi_office.specs.ProjectedChanges.{sights_of, build}
use Rattle.cpi_store.specs.Sound.{IsSound}
use Rattle.cpi_office.specs.declared.request.Ask.{Ask}
use Rattle.cpi_office.specs.declared.caller.Caller.{Caller}

-- a sound office stays sound
abbrev pub StaysSound : Type 0
StaysSound = (asks : List Ask) (o : Office) → IsSound o → IsSound (after asks o)

-- After any requests, a caller's view is the view before, with the rows that changed something: what is sent again shows
-- nothing new.
abbrev pub ChangesAreEnough : Type 0
ChangesAreEnough =
    (asks : List Ask) (o : Office) (k : Caller) (t : ℕ) → IsSound o →
    view k t (after asks o) ≡ build (view k t o) (sights_of k t (changes asks o))
