use Rattle.std.proofs.lemmas.Result.{err_from_is_err_and}
use Rattle.cpi_app.proofs.table.write_table.Goals as goal

-- why there is no printed table
pub returns-in_err-table-clause-fault : goal.returns-in_err-table-clause-fault
returns-in_err-table-clause-fault g c clean =
    let p = err_from_is_err_and c.from_residual.result c.from_residual.ensures.1 in
    rw (p.1, p.2) (c.in_err-table.ensures.fault clean (g.W.Write.contents c.args.out.now))
