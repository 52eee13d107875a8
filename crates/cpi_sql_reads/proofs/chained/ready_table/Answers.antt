use Rattle.sqlite.specs.Held.{state}
use Rattle.cpi_sql_reads.proofs.chained.ready_table.Goals as goal

pub returns-in_err-found-clause-cached : goal.returns-in_err-found-clause-cached
returns-in_err-found-clause-cached g c = λ clean has is cached. record {
  frozen = cached.frozen;
  carried = cached.carried;
  levels = c.in_err-found.ensures.left (state g.S.Store c.args.conn.now).now.trees cached.levels;
}

pub returns-clause-cached : goal.returns-clause-cached
returns-clause-cached g c = λ clean has is cached.
    let trees = (state g.S.Store c.args.conn.now).now.trees in record {
      frozen = cached.frozen;
      carried = cached.carried;
      levels = c.cache_found.ensures.cached trees (c.in_ok-found.ensures.left trees cached.levels)
          (c.in_ok-found.ensures.read clean has is cached.levels);
    }
