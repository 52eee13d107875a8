use Rattle.std.proofs.Common.{Err, ap, ◌∙◌}
use Rattle.cpi_sql.proofs.sql_book.SqlBook.new.Goals as goal

pub invariant_of-result : goal.invariant_of-result
invariant_of-result g c = λ clean. record {
  tables = c.in-Ok.ensures.ready clean;
  cached = record {
    survey = λ t. absurd (let no = t in cc);
    headers = λ t. absurd (let no = t in cc);
    lists = c.none.ensures _;
    samples = rw c.none-in-Ok.ensures tt;
  };
}

pub returns-in-Err : goal.returns-in-Err
returns-in-Err g c = record {
  kept = c.in-Err.ensures.kept;
  settled_fault = λ clean. c.settle.ensures.endures clean.is_open (c.in-Err.ensures.kept clean).alone;
  crash_fault = c.in-Err.ensures.crash;
  unknown = λ clean is_unknown. c.open_office-found.ensures.unknown clean (c.in-Err.is ∙ ap Err is_unknown);
}
