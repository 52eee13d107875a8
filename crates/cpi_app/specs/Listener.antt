-- Where connections come from.
use Rattle.std.specs.Prelude.{◌≡◌, ◌⊎◌}
use Rattle.cpi_wire.specs.declared.fault.WireFault.TheVariants as fault
use Rattle.cpi_app.specs.declared.fault.RunFault.{RunFault}
use Rattle.cpi_app.specs.declared.fault.RunFault.TheVariants.{NoPort, Wire}
use Rattle.cpi_app.specs.Connection.{Connection}

-- what a wait for a connection meets: one that came; one that couldn't be accepted; or one that was closed unserved,
-- since the clock showed no moment
pub data Arrival : Type 0 where
  Came : Connection → Arrival
  Missed : Arrival
  Timeless : Arrival

-- the listener before a wait, what it met, and the listener after
abbrev pub Meeting : Type 0 → Type 1
Meeting L = L → Arrival → L → Type 0

-- nobody can be listened to: the port is taken, or it couldn't be reported that somebody listens
abbrev pub IsUnheard : RunFault → Type 0
IsUnheard why = (why ≡ NoPort) ⊎ (why ≡ Wire fault.Write)
