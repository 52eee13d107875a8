use Rattle.std.proofs.Common.{◌≡◌, ◌++◌, take, string_bytes}
use Rattle.std.specs.List.{flat_map}
use Rattle.cpi_release.specs.TextTable.{line_text, heading_line}
use Rattle.cpi_release.proofs.printed_table.lines.Given as goal

abbrev pub invariant-loop-level : goal.invariant-loop-level
invariant-loop-level l = string_bytes l.text ≡ heading_line l.fn.month l.fn.revision
    ++ flat_map line_text (take l.level-index l.levels)
