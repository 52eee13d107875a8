-- The world of a run.
use Rattle.std.specs.Prelude.{◌≡◌, ◌⊎◌}
use Rattle.cpi_app.specs.declared.fault.RunFault.{RunFault}
use Rattle.cpi_app.specs.declared.fault.RunFault.TheVariants.{BadWord, Wire}
use Rattle.cpi_wire.specs.declared.fault.WireFault.TheVariants.{NoMemory}

-- why the arguments can't be read: one of them isn't UTF-8, by the world; or there is no memory for them
abbrev pub AreUnread : (RunFault → Type 0) → RunFault → Type 0
AreUnread Lacks why = ((why ≡ BadWord) × Lacks why) ⊎ (why ≡ Wire NoMemory)
