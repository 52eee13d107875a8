-- What the print of a published table writes.
use Rattle.std.specs.Prelude.{◌≡◌, ◌<◌, ◌⊎◌, ℕ, List, Option, Some, None, IsOk, IsErr, length, take}
use Rattle.std.specs.Io.KnownBytes.{Appends}
use Rattle.cpi_codes.specs.Month.{month_of}
use Rattle.cpi_codes.specs.declared.limits.TheConstants.{LAST_MOMENT}
use Rattle.cpi_release.specs.PublishedTables.{PublishedTable}
use Rattle.cpi_store.specs.Office.{Office}
use Rattle.cpi_store.specs.Tables.{table_until}
use Rattle.cpi_office.specs.Answers.{table_bytes}
use Rattle.cpi_wire.specs.declared.fault.WireFault.TheVariants as wire
use Rattle.cpi_app.specs.Fault.{status_of_fault}
use Rattle.cpi_app.specs.declared.fault.RunFault.{RunFault}
use Rattle.cpi_app.specs.declared.fault.RunFault.TheVariants.{BadMonth, Database, NoTable, Wire}
use Rattle.cpi_app.specs.declared.table.AskedTable.{AskedTable}

-- the word is a month, and no moment is that late
abbrev pub IsTooLate : List ℕ → ℕ → Type 0
IsTooLate month at = IsOk (month_of month) × (LAST_MOMENT < at)

-- why the words ask for no table
abbrev pub AsksForNone : List ℕ → ℕ → RunFault → Type 0
AsksForNone month at BadMonth = IsErr (month_of month)
AsksForNone month at NoTable = IsTooLate month at
AsksForNone month at _ = ⊥

-- this is the table that is asked for, of those that were published by then
abbrev pub IsTable : AskedTable → Office → PublishedTable → Type 0
IsTable asked o table = table_until asked.month asked.revision asked.until o.releases ≡ Some table

module _ (asked : AskedTable) (o : Office) (was is : Option (List ℕ)) where
  -- the whole of it was written
  pub record IsWritten : Type 0 where
    pub table : PublishedTable
    pub published : IsTable asked o table
    pub written : Appends was is (table_bytes asked.form asked.month table)

  -- a part of it was
  pub record IsWrittenInPart : Type 0 where
    pub table : PublishedTable
    pub published : IsTable asked o table
    pub count : ℕ
    pub short : count < length (table_bytes asked.form asked.month table)
    pub written : Appends was is (take count (table_bytes asked.form asked.month table))

  -- why the whole of it was not written, and which part was; there is such a table if there was no memory to print it
  abbrev pub IsNotWritten : RunFault → Type 0
  IsNotWritten NoTable = (table_until asked.month asked.revision asked.until o.releases ≡ None) × (is ≡ was)
  IsNotWritten (Database fault) = is ≡ was
  IsNotWritten (Wire wire.NoMemory) = ((table : PublishedTable) × IsTable asked o table) × (is ≡ was)
  IsNotWritten (Wire wire.Write) = IsWrittenInPart
  IsNotWritten _ = ⊥

  -- the status says whether the whole of it was written, and else that there was an error
  abbrev pub IsPrinted : ℕ → Type 0
  IsPrinted status = ((status ≡ 0) × IsWritten)
      ⊎ ((fault : RunFault) × IsNotWritten fault × (status ≡ status_of_fault fault))
