use Rattle.std.proofs.Common.{take, map}
use Rattle.httparse.specs.Spans.{header_bytes}
use Rattle.cpi_http.specs.Fields.{values_named, AreNamed}
use Rattle.cpi_http.proofs.fields.find.Given as goal

abbrev pub invariant-loop-field : goal.invariant-loop-field
invariant-loop-field l = AreNamed (values_named l.name (map (header_bytes l.buf) (take l.field-index l.fields))) l.found
