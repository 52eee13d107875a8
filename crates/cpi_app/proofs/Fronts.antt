-- A message at the front of a stream that was served.
use Rattle.std.proofs.Common.{ℕ, List, Option, Result, Ok, Err, IfOk}
use Rattle.cpi_release.specs.State.{State}
use Rattle.cpi_store.specs.Office.{Office}
use Rattle.cpi_wire.specs.Causes.{IsCaused}
use Rattle.cpi_wire.specs.declared.fault.WireFault.{WireFault}
use Rattle.cpi_http.specs.declared.serve.Ended.{Ended}
use Rattle.cpi_http.specs.Served.{Framing, ServedChange, IsServed, is_failed}
use Rattle.cpi_app.specs.Connection.{ServesFront}

pub front_served : {B : Type 0} (state : B → State Office) (f : Framing) (stream behind : Option (List ℕ))
    (c : ServedChange B) (r : Result Ended WireFault)
    → IfOk r (λ ended. IsServed state f stream behind c ended.served)
    → IfOk r (λ ended. IsCaused (state c.before) (state c.now) (is_failed ended.served) ended.cause)
    → IfOk r (ServesFront state f stream c)
front_served state f stream behind c (Ok ended) served caused = (behind, served, caused)
front_served state f stream behind c (Err fault) served caused = tt
