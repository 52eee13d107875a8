use Rattle.std.proofs.Common.{refl, sym}
use Rattle.cpi_files.proofs.files.close.Goals as goal

pub returns-in-Err : goal.returns-in-Err
returns-in-Err g c = record {
  store = c.in-Err.store;
  files = sym c.close.ensures;
  quiet = c.in-Err.ensures.err.0;
  copied = tt;
  failed = (refl, λ clean. (_, c.in-Err.ensures.err.1 clean));
}
