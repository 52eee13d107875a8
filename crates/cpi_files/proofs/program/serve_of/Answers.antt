use Rattle.std.proofs.Common.{inr, refl}
use Rattle.cpi_files.proofs.program.serve_of.Goals as goal

pub returns : goal.returns
returns g c = inr (
  c.as_str-key.result.now,
  record { rt = c.args.world; number = c.args.port },
  rw c.as_str-key.ensures.value c.in-Ok.ensures.text,
  refl,
  refl,
  c.serve_at.ensures,
)
