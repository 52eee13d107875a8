-- The text of a fault.
use Rattle.std.specs.Prelude.{ℕ, List, codes}
use Rattle.cpi_wire.specs.declared.fault.WireFault.{WireFault}
use Rattle.cpi_wire.specs.declared.fault.WireFault.TheVariants.{Read, Write, NoMemory}

abbrev pub fault_text : WireFault → List ℕ
fault_text Read = codes "read failed"
fault_text Write = codes "write failed"
fault_text NoMemory = codes "out of memory"
