use Rattle.csv.specs.Records.{fields_of}
use Rattle.cpi_wire.proofs.Reading.{takes_next}
use Rattle.cpi_wire.proofs.input.next_record.Goals as goal

pub returns-in-Ok-clause-ok : goal.returns-in-Ok-clause-ok
returns-in-Ok-clause-ok g c =
    takes_next g.R.Read.remaining c.args.reader.now c.read_byte_record.new.self
    (fields_of c.read_byte_record.new.row) c.in-Ok.found c.in-Ok.ensures.reads c.in-Ok.ensures.reads_on
