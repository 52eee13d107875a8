use Rattle.std.proofs.Common.{refl}
use Rattle.sqlite.specs.Held.{state}
use Rattle.cpi_sql_rows.specs.Finding.{IsSecond}
use Rattle.cpi_sql_rows.specs.Shelf.{year_in}
use Rattle.cpi_sql_rows.proofs.HeldReads.{list_is, list_stands, names_year}
use Rattle.cpi_sql_rows.proofs.Whole.{both_ok, looked, on_both}
use Rattle.cpi_sql_reads.proofs.years.rows_of_year.Goals as goal

pub returns-clause-look : goal.returns-clause-look
returns-clause-look g c =
    looked c.list.result IsSecond c.text.result.now (state g.S.Store c.args.conn.now) (state g.S.Store c.list.new.conn)
    _ refl (λ is. rw (c.text.ensures, is) g.T.YearRow.table.asks.plain) c.list.ensures.asked c.list.ensures.open

pub returns-clause-read : goal.returns-clause-read
returns-clause-read g c = λ clean has.
    both_ok c.list.result _ _ _ (c.list.ensures.read clean.disk) c.list.ensures.order
    (λ xs it order. list_is g.met.T.Key.Ord.total g.T.Keyed.key (year_in g.T.YearRow.place) g.T.Stored.stands_for
    g.T.YearRow.table g.met.T.YearRow.holds _ _ (names_year g.T.YearRow.place c.args.year)
    (state g.S.Store c.args.conn.now) (state g.S.Store c.list.new.conn) it.0 xs.items has
    (rw (c.text.ensures, c.params-to_sql.ensures, c.from-number.ensures) at it.1) it.2 order)

pub returns-clause-stand : goal.returns-clause-stand
returns-clause-stand g c = λ clean has.
    on_both c.list.result _ _ _ (c.list.ensures.read clean.disk) c.list.ensures.order
    (λ xs it order. list_stands g.met.T.Key.Ord.total g.T.Keyed.key (year_in g.T.YearRow.place) g.T.Stored.stands_for
    g.T.YearRow.table g.met.T.YearRow.holds _ _ (names_year g.T.YearRow.place c.args.year)
    (state g.S.Store c.args.conn.now) (state g.S.Store c.list.new.conn) it.0 xs.items has
    (rw (c.text.ensures, c.params-to_sql.ensures, c.from-number.ensures) at it.1) it.2)
