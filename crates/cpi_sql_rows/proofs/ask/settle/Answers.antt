use Rattle.std.proofs.Common.{◌∙◌, ap, not, sym}
use Rattle.sqlite.specs.Effect.{Database}
use Rattle.cpi_sql_rows.proofs.ask.settle.Goals as goal

pub returns-clause-committed : goal.returns-clause-committed
returns-clause-committed g c = λ is_open alone.
    c.is_autocommit-settled.ensures.settled (c.is_autocommit-settled.ensures.value ∙ ap not alone) is_open

pub returns-clause-endures : goal.returns-clause-endures
returns-clause-endures g c = λ is_open alone db may.
    let same = c.is_autocommit-settled.ensures.settled (c.is_autocommit-settled.ensures.value ∙ ap not alone) is_open in
    g.met.S.Store.settled c.args.conn.now.store db is_open may ∙ sym (ap (λ (d : Database). d.trees) same)
