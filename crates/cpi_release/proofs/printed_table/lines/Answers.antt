use Rattle.std.proofs.Common.{rules, string_bytes, ◌∙◌}
use Rattle.cpi_release.specs.TextTable.{heading_line, line_text}
use Rattle.cpi_release.proofs.Lines.{line_more}
use Rattle.cpi_release.proofs.printed_table.lines.Goals as goal

pub loop-level-preserved : goal.loop-level-preserved
loop-level-preserved c =
    line_more line_text (heading_line c.args.month c.args.revision) c.args.levels.now c.loop-level.level-index
    c.level-item.result
    (string_bytes c.loop-level.text) (string_bytes c.push_str.new.self) c.as_str.result.now c.loop-level-test.true
    c.level-item.is
    (c.as_str.ensures.value ∙ c.in_ok-line.ensures) (search rules) c.loop-level.invariant
