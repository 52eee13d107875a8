use Rattle.std.proofs.Common.{refl}
use Rattle.sqlite.specs.Held.{state}
use Rattle.cpi_sql_rows.specs.Finding.{IsSecond}
use Rattle.cpi_sql_rows.proofs.Whole.{both_ok, quiet_office}
use Rattle.cpi_sql_reads.proofs.releases.read_headers.Goals as goal

pub returns-clause-read : goal.returns-clause-read
returns-clause-read g c = λ clean has.
    both_ok c.read_all.result _ _ _ (c.read_all.ensures.read clean has) (c.read_all.ensures.whole clean has.schema)
    (λ headers is whole. record { read = is; taken = whole.stand })

pub returns-clause-crash : goal.returns-clause-crash
returns-clause-crash g c = quiet_office IsSecond refl (state g.S.Store c.args.conn.now)
    (state g.S.Store c.read_all.new.conn) c.read_all.ensures.found.crash
