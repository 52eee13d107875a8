use Rattle.std.proofs.Common.{◌≡◌, length, ◌-◌, vec_len}
use Rattle.std.specs.Io.KnownBytes.{Consumes}
use Rattle.httparse.specs.Grammar.{HasNoRequest}
use Rattle.cpi_http.specs.declared.limits.TheConstants.{MOST_FIELDS, MOST_HEAD_BYTES}
use Rattle.cpi_http.specs.Head.{MayGoOn}
use Rattle.cpi_http.proofs.head.read_head.Given as goal

abbrev pub invariant-bytes : goal.invariant-bytes
invariant-bytes g l = record {
  bytes : Consumes (g.R.Read.remaining l.fn.reader) (g.R.Read.remaining l.reader) l.buf.items;
  none : HasNoRequest l.buf.items;
  goes_on : MayGoOn l.buf.items;
  room : length l.fields ≡ MOST_FIELDS;
}

abbrev pub decreases-bytes : goal.decreases-bytes
decreases-bytes g l = MOST_HEAD_BYTES - vec_len l.buf
