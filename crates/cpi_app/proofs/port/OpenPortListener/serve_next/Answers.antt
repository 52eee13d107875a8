use Rattle.std.proofs.Common.{refl}
use Rattle.cpi_app.proofs.Losing.{as_left}
use Rattle.cpi_app.proofs.port.OpenPortListener.serve_next.Goals as goal

-- there is no moment
pub returns-in_default-moment_of : goal.returns-in_default-moment_of
returns-in_default-moment_of g c = (
  (
    refl,
    (
      c.in-Some.peer,
      c.accept.new.port,
      rw c.in-Some.is at c.accept.ensures,
      rw c.in_default-moment_of.is at c.moment_of.ensures,
      rw c.new-note.ensures at c.close.ensures,
    ),
  ),
  refl,
)

-- the peer is served
pub returns : goal.returns
returns g c =
    let served = c.serve_peer-outcome.ensures in
    let shown = rw c.in-Some-moment_of.is at c.moment_of.ensures in (
      served.0,
      (
        refl,
        (
          c.in-Some.peer,
          c.accept.new.port,
          c.hang_up-left.result,
          c.serve_peer-outcome.result.note.has_failed,
          rw c.in-Some.is at c.accept.ensures,
          rw served.1.moment_is shown,
          as_left _ _ _ _ _ _ served.0 served.1 c.hang_up-left.ensures,
          c.close-2.ensures,
        ),
      ),
      served.2,
    )
