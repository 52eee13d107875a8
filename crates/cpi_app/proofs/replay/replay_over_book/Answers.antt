use Rattle.cpi_app.proofs.Beginning.{gave_up_at_once}
use Rattle.cpi_app.proofs.replay.replay_over_book.Goals as goal

-- no room for the buffer
pub returns-in_default-clause-err : goal.returns-in_default-clause-err
returns-in_default-clause-err g c =
    let input = g.R.Read.remaining c.args.reader.now in
    let written = g.W.Write.contents c.args.writer.now in
    rw c.from.ensures (gave_up_at_once g.B.Book.state c.args.zone.now input written c.args.book)
