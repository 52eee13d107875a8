use Rattle.std.proofs.Common.{◌≡◌, ◌++◌, List, length}
use Rattle.std.specs.Vec.Iter.{into_iter_items}
use Rattle.cpi_office.specs.Served.{RunOverBook}
use Rattle.cpi_office.specs.declared.request.Ask.{Ask}
use Rattle.cpi_office.proofs.office.Office.run.Given as goal

-- the requests are those carried out, each with its reply, and those that are left
abbrev pub invariant-loop-ask : goal.invariant-loop-ask
invariant-loop-ask g l = (front : List Ask) × (l.fn.asks.items ≡ front ++ into_iter_items l.rest)
    × (length l.told.items ≡ length front) × RunOverBook (g.B.Book.state l.fn.self.book)
    (g.B.Book.state l.self.book) front l.told.items

abbrev pub decreases-loop-ask : goal.decreases-loop-ask
decreases-loop-ask g l = length (into_iter_items l.rest)
