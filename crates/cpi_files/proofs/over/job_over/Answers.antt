use Rattle.std.proofs.Common.{subst, sym}
use Rattle.sqlite.specs.Held.{Held, state}
use Rattle.cpi_sql_rows.specs.Shelf.{HasTables, IsCleanBook}
use Rattle.cpi_files.proofs.over.job_over.Goals as goal

pub returns-in-Ok-clause-done : goal.returns-in-Ok-clause-done
returns-in-Ok-clause-done g c =
    let store = g.S.Store in
    let held = c.into_connection-conn.ensures.held in
    let tables = subst (λ (h : Held _). IsCleanBook (state store h) → HasTables (state store h)) (sym held)
    c.into_connection-conn.ensures.tables in
    record {
      book = c.in-Ok.book;
      last = c.run-book.result.0;
      found = c.in-Ok.ensures;
      done = c.run-book.ensures;
      held = held;
      tables = tables;
      settled = λ clean. c.settle.ensures.committed clean.is_open (tables clean).alone;
    }
