use Rattle.cpi_files.proofs.Serving.{StandsAt}
use Rattle.cpi_files.proofs.serve.serve_at_desk.Given as goal

-- books were served one after another, and so many connections are left
abbrev pub invariant-loop-rest : goal.invariant-loop-rest
invariant-loop-rest g l = StandsAt g.C.Cabinet g.C.Medium.Disk g.A.Open.Listener.meets (g.A.Address.opens l.fn.address)
    l.fn.desk l.fn.limit l.fn.cabinet l.rest.left l.cabinet l.rest.listener

abbrev pub decreases-loop-rest : goal.decreases-loop-rest
decreases-loop-rest g l = l.rest.left
