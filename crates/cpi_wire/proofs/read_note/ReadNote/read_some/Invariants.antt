use Rattle.std.specs.Io.KnownBytes.{Keeps}
use Rattle.cpi_wire.proofs.read_note.ReadNote.read_some.Given as goal

abbrev pub invariant-loop-self : goal.invariant-loop-self
invariant-loop-self g l = Keeps (g.R.Read.remaining l.fn.reader) (g.R.Read.remaining l.reader)

abbrev pub decreases-loop-self : goal.decreases-loop-self
decreases-loop-self g l = l.self.calls_left
