use Rattle.std.proofs.Common.{◌≡◌, ◌++◌, take}
use Rattle.cpi_app.specs.LostBytes.{lost_bytes}
use Rattle.cpi_app.proofs.offered.lose.Given as goal

abbrev pub invariant-loop-byte : goal.invariant-loop-byte
invariant-loop-byte l = lost_bytes l.lost.items ≡ lost_bytes l.fn.lost.items ++ take l.byte-index l.bytes
