use Rattle.cpi_store.specs.Sound.{IsSound}
use Rattle.cpi_office.specs.Calls.{reply_of}
use Rattle.cpi_office.proofs.Calls.{serves_weaker}
use Rattle.cpi_office.proofs.Stays.{collector_stays}
use Rattle.cpi_office.proofs.office.Office.answer.Goals as goal

pub returns-in-Collector-clause-serves : goal.returns-in-Collector-clause-serves
returns-in-Collector-clause-serves g c =
    rw c.in-Collector.is
    (serves_weaker (IsSound (g.B.Book.state c.args.self.now.book).held) (g.B.Book.state c.args.self.now.book)
    (g.B.Book.state c.serve_collector.new.book) (reply_of c.serve_collector.result) _ _ c.serve_collector.ensures.serves.serves
    (collector_stays c.in-Collector.key c.args.now c.args.request (g.B.Book.state c.args.self.now.book).held))
