use Rattle.std.proofs.Common.{◌≤◌, refl, subst}
use Rattle.sqlite.specs.Held.{state}
use Rattle.cpi_sql_rows.specs.Finding.{IsSecond}
use Rattle.cpi_sql_rows.specs.HeldTables.{release_in}
use Rattle.cpi_sql_rows.proofs.HeldReads.{list_is, list_stands, names_release}
use Rattle.cpi_sql_rows.proofs.Whole.{both_ok, looked, on_both}
use Rattle.cpi_sql_reads.proofs.releases.rows_of_release.Goals as goal

pub returns-clause-look : goal.returns-clause-look
returns-clause-look g c =
    looked c.list.result IsSecond c.text.result.now (state g.S.Store c.args.conn.now) (state g.S.Store c.list.new.conn)
    _ refl (λ is. rw (c.text.ensures, is) g.T.ReleaseRow.table.asks.plain) c.list.ensures.asked c.list.ensures.open

pub returns-clause-read : goal.returns-clause-read
returns-clause-read g c = λ clean has.
    both_ok c.list.result _ _ _ (c.list.ensures.read clean.disk) c.list.ensures.order
    (λ xs it order. list_is g.met.T.Key.Ord.total g.T.Keyed.key release_in g.T.Stored.stands_for g.T.ReleaseRow.table
    g.met.T.ReleaseRow.of_releases.holds _ _
    (names_release c.month_number-month.result c.args.month c.args.revision c.month_number-month.ensures
    (subst (λ z. 1 ≤ z) c.number.ensures.value c.number.ensures.range.0)
    (subst (λ z. z ≤ 9) c.number.ensures.value c.number.ensures.range.1))
    (state g.S.Store c.args.conn.now) (state g.S.Store c.list.new.conn) it.0 xs.items has
    (rw (
      c.text.ensures,
      c.params-to_sql.ensures,
      c.params-to_sql-2.ensures,
      c.from-revision.ensures,
      c.number.ensures.value,
    ) at it.1) it.2 order)

pub returns-clause-stand : goal.returns-clause-stand
returns-clause-stand g c = λ clean has.
    on_both c.list.result _ _ _ (c.list.ensures.read clean.disk) c.list.ensures.order
    (λ xs it order. list_stands g.met.T.Key.Ord.total g.T.Keyed.key release_in g.T.Stored.stands_for
    g.T.ReleaseRow.table g.met.T.ReleaseRow.of_releases.holds _ _
    (names_release c.month_number-month.result c.args.month c.args.revision c.month_number-month.ensures
    (subst (λ z. 1 ≤ z) c.number.ensures.value c.number.ensures.range.0)
    (subst (λ z. z ≤ 9) c.number.ensures.value c.number.ensures.range.1))
    (state g.S.Store c.args.conn.now) (state g.S.Store c.list.new.conn) it.0 xs.items has
    (rw (
      c.text.ensures,
      c.params-to_sql.ensures,
      c.params-to_sql-2.ensures,
      c.from-revision.ensures,
      c.number.ensures.value,
    ) at it.1) it.2)
