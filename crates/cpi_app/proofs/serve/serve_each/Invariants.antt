use Rattle.std.proofs.Common.{◌≡◌, length}
use Rattle.std.specs.List.{AllByRecursion}
use Rattle.cpi_app.specs.Visits.{AreServed, IsCalm, Visits}
use Rattle.cpi_app.proofs.serve.serve_each.Given as goal

-- the connections so far were served or weren't accepted, and none of them shook the book
abbrev pub invariant-loop-served : goal.invariant-loop-served
invariant-loop-served g l = (visits : Visits)
    × AreServed g.L.Listener.meets g.S.Service.serves l.fn.listener l.fn.service visits l.listener l.service
    × AllByRecursion IsCalm visits × (length visits ≡ l.served)
