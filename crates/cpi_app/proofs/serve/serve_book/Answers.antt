use Rattle.cpi_app.specs.Connection.{Serving, ServesAtDesk}
use Rattle.cpi_app.specs.declared.connection.OfficeAtDesk.{OfficeAtDesk}
use Rattle.cpi_app.specs.declared.desk.Desk.{Desk}
use Rattle.cpi_app.proofs.Served.{ends_by_part}
use Rattle.cpi_app.proofs.serve.serve_book.Goals as goal

-- the office at the desk serves by the desk, which stays, and over the book
pub returns : goal.returns
returns g c =
    let over : Desk → Serving g.row.B.Denot = λ desk. ServesAtDesk g.B.Book.state desk.zone desk.key in
    rw (c.into_book.ensures, ← c.new-office.ensures) (ends_by_part g.L.Listener.meets _
    (λ (it : OfficeAtDesk g.row.B.Denot). it.desk.now) (λ it. it.office.book) over (λ it came outcome after did. did)
    c.args.limit c.args.listener.now c.serve_each-left.new.listener _ c.serve_each-left.new.service
    c.serve_each-left.result c.serve_each-left.ensures)
