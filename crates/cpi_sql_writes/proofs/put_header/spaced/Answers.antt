use Rattle.std.proofs.Common.{◌∙◌, arith}
use Rattle.std.specs.String.{string_bytes}
use Rattle.cpi_sql_writes.proofs.HeaderColumns.{carry_more}
use Rattle.cpi_sql_writes.proofs.put_header.spaced.Goals as goal

pub others-preserved : goal.others-preserved
others-preserved c =
    carry_more c.args.first c.args.others.now c.others.code-index c.code-item.result (string_bytes c.others.text)
    (string_bytes c.push_str.new.self) (string_bytes c.push_str-in-others.new.self) c.as_str.result.now
    (omega (arith, c.others-test.true)) c.code-item.is c.others.invariant (c.as_str.ensures.value
    ∙ c.in_ok-more.ensures)
    c.in_ok-push_str.ensures.bytes c.in_ok-push_str-2.ensures.bytes
