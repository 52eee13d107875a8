use Rattle.std.proofs.Common.{refl}
use Rattle.sqlite.specs.Held.{state}
use Rattle.cpi_sql_rows.specs.Finding.{IsSecond}
use Rattle.cpi_sql_rows.specs.Texts.{all_quotes_text}
use Rattle.cpi_sql_rows.specs.WholeTables.{all_quotes_asked}
use Rattle.cpi_sql_rows.proofs.FoundTables.{on_any}
use Rattle.cpi_sql_rows.proofs.Whole.{both_ok, looked, looked_over, looks_failed}
use Rattle.cpi_sql_rows.proofs.HeldReads.{all_quotes_read, all_quotes_stand}
use Rattle.cpi_sql_rows.proofs.held_rows.all_quotes.Goals as goal

pub returns-in_err-read-clause-look : goal.returns-in_err-read-clause-look
returns-in_err-read-clause-look g c =
    looks_failed c.from_residual.result (state g.S.Store c.args.conn.now) (state g.S.Store c.gather.new.conn)
    (looked c.gather.result IsSecond all_quotes_text (state g.S.Store c.args.conn.now)
    (state g.S.Store c.gather.new.conn) _ refl (λ is. (all_quotes_asked _ is).plain) c.gather.ensures.asked
    c.gather.ensures.open) c.from_residual.ensures.0

pub returns-clause-look : goal.returns-clause-look
returns-clause-look g c =
    looked c.in_place.result IsSecond all_quotes_text (state g.S.Store c.args.conn.now)
    (state g.S.Store c.gather.new.conn) _ refl (λ is. (all_quotes_asked _ is).plain) c.gather.ensures.asked
    (λ disk. on_any c.in_place.result _ (c.in_ok-read.ensures.open disk))

pub returns-clause-read : goal.returns-clause-read
returns-clause-read g c = λ clean has. let it = c.in_ok-read.ensures.read clean.disk in
    both_ok c.in_place.result _ _ _ c.in_place.ensures.same c.in_place.ensures.order
    (λ xs moved order. all_quotes_read (state g.S.Store c.args.conn.now) (state g.S.Store c.gather.new.conn) it.0 _ has
    it.1 it.2 xs.items moved order)

pub returns-clause-stand : goal.returns-clause-stand
returns-clause-stand g c = λ clean has. let it = c.in_ok-read.ensures.read clean.disk in
    on_any c.in_place.result _
    (all_quotes_stand (state g.S.Store c.args.conn.now) (state g.S.Store c.gather.new.conn) it.0 _ has it.1 it.2)

pub returns-clause-open : goal.returns-clause-open
returns-clause-open g c = λ disk. on_any c.in_place.result _ (c.in_ok-read.ensures.open disk)

pub returns-in_err-read-clause-found : goal.returns-in_err-read-clause-found
returns-in_err-read-clause-found g c =
    looked_over IsSecond all_quotes_text (state g.S.Store c.args.conn.now) (state g.S.Store c.gather.new.conn) _
    (λ is. (all_quotes_asked _ is).plain) c.gather.ensures.asked

pub returns-clause-found : goal.returns-clause-found
returns-clause-found g c =
    looked_over IsSecond all_quotes_text (state g.S.Store c.args.conn.now) (state g.S.Store c.gather.new.conn) _
    (λ is. (all_quotes_asked _ is).plain) c.gather.ensures.asked
