use Rattle.std.proofs.Common.{◌≡◌, None, rules, sym, ◌∙◌}
use Rattle.sqlite.specs.Order.{column}
use Rattle.cpi_sql_rows.proofs.MarkWords.{no_mark}
use Rattle.cpi_sql_rows.proofs.rows.read_mark.Goals as goal

pub returns-in_err-word : goal.returns-in_err-word
returns-in_err-word c =
    let none : c.from_residual-in_err-word.result ≡ None = search rules in
    none ∙ sym (no_mark (column c.args.row.now c.args.mark) (column c.args.row.now c.args.value)
    c.in_ok-text_at.field-0.now (search rules) (search rules))
