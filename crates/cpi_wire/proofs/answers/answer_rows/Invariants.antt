use Rattle.std.proofs.Common.{length}
use Rattle.std.specs.Vec.Iter.{into_iter_items}
use Rattle.cpi_wire.specs.Causes.{IsCaused}
use Rattle.cpi_wire.proofs.Importing.{RowsSoFar}
use Rattle.cpi_wire.proofs.answers.answer_rows.Given as goal

abbrev pub invariant-loop-row : goal.invariant-loop-row
invariant-loop-row g l =
    RowsSoFar g.B.Book.state l.fn.now l.caller l.fn.office.book l.fn.rows
    (into_iter_items l.rest) l.is_first l.failed l.line.items l.office.book
    × IsCaused (g.B.Book.state l.fn.office.book) (g.B.Book.state l.office.book) l.failed l.cause

abbrev pub decreases-loop-row : goal.decreases-loop-row
decreases-loop-row g l = length (into_iter_items l.rest)
