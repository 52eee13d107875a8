use Rattle.std.proofs.Common.{refl}
use Rattle.cpi_files.proofs.program.run.Goals as goal

-- nothing failed
pub returns-in-Ok : goal.returns-in-Ok
returns-in-Ok g c = record {
  ends = c.begin.result;
  begun = c.begin.ensures;
  mid = c.run_words-ends.result.0;
  outcome = c.run_words-ends.result.1;
  did = c.run_words-ends.ensures;
  left = c.run_words-ends.result.0;
  ended = rw c.in-Ok.is (refl, refl);
}

-- a fault, whose line was written
pub returns : goal.returns
returns g c = record {
  ends = c.begin.result;
  begun = c.begin.ensures;
  mid = c.run_words-ends.result.0;
  outcome = c.run_words-ends.result.1;
  did = c.run_words-ends.ensures;
  left = record c.run_words-ends.result.0 { errors = c.write_line.new.writer };
  ended = rw c.in-Err.is (
    c.status.ensures,
    (refl, refl),
    refl,
    c.write_line.ensures,
  );
}
