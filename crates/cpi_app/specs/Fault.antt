-- The line of an error on standard error, and the exit status.
use Rattle.std.specs.Prelude.{◌≡◌, ◌⊎◌, ℕ, Bool, true, List, [], ◌∷◌, ◌++◌, Option, codes}
use Rattle.std.specs.Io.KnownBytes.{Appends}
use Rattle.cpi_wire.specs.Fault.{fault_text}
use Rattle.cpi_app.specs.declared.fault.RunFault.{RunFault}
use Rattle.cpi_app.specs.declared.fault.RunFault.TheVariants.{BadWord, BadZone, BadKey, BadMonth, Database}
use Rattle.cpi_app.specs.declared.fault.RunFault.TheVariants.{NoTable, NoClock, NoPort, Wire}
use Rattle.cpi_store.specs.declared.open_fault.OpenFault.{OpenFault}
use Rattle.cpi_store.specs.declared.open_fault.OpenFault.TheVariants.{UnknownSchema, Store}

-- the line of a database that couldn't be opened, without its end
abbrev pub open_line : OpenFault → List ℕ
open_line UnknownSchema = codes "cpi: unknown schema"
open_line Store = codes "cpi: database failed"

-- the line of a fault, without its end
abbrev pub line_of_fault : RunFault → List ℕ
line_of_fault BadWord = codes "cpi: a word isn't UTF-8"
line_of_fault BadZone = codes "cpi: bad zone"
line_of_fault BadKey = codes "cpi: bad key"
line_of_fault BadMonth = codes "cpi: bad month"
line_of_fault (Database fault) = open_line fault
line_of_fault NoTable = codes "cpi: no table"
line_of_fault NoClock = codes "cpi: no clock"
line_of_fault NoPort = codes "cpi: no port"
line_of_fault (Wire fault) = codes "cpi: " ++ fault_text fault

-- 2 if an argument is refused, and 1 for each error after that
abbrev pub status_of_fault : RunFault → ℕ
status_of_fault BadWord = 2
status_of_fault _ = 1

-- the line of a fault was written, with its end, unless a write failed
abbrev pub IsReported : RunFault → Bool → Option (List ℕ) → Option (List ℕ) → Type 0
IsReported fault failed was is = (failed ≡ true) ⊎ Appends was is (line_of_fault fault ++ 10 ∷ [])

-- the job ended well; or with a fault that is so, whose line was written to standard error and whose status it has
abbrev pub EndsWithLine : (RunFault → Type 0) → ℕ → Bool → Option (List ℕ) → Option (List ℕ) → Type 0
EndsWithLine IsSo status failed was is = (status ≡ 0)
    ⊎ ((fault : RunFault) × IsSo fault × (status ≡ status_of_fault fault) × IsReported fault failed was is)
