use Rattle.std.proofs.Common.{◌∙◌, inr}
use Rattle.cpi_wire.proofs.Reading.{at_start}
use Rattle.cpi_wire.proofs.input.record_reader.Goals as goal

pub returns : goal.returns
returns g c =
    let fr = c.from_reader.ensures in
    let f = c.flexible.ensures in
    let h = c.has_headers.ensures in
    let n = c.new.ensures in
    at_start _ _ _ (rw (f, h) at fr.trim ∙ n.trim) (inr (inr (rw (f, h) at fr.has_headers, fr.headers)))
    (rw (f, h) at fr.config ∙ n.config) fr.state fr.source
