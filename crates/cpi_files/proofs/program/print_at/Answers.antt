use Rattle.std.proofs.Common.{refl}
use Rattle.cpi_files.proofs.program.print_at.Goals as goal

pub returns-clause-printed : goal.returns-clause-printed
returns-clause-printed g c =
    let outcome = c.table_in_cabinet-outcome in (
      record { folder = c.args.ends.folder; path = c.args.path; alloc = c.args.alloc },
      outcome.new.cabinet,
      refl,
      refl,
      (outcome.ensures.printed, outcome.ensures.fault, outcome.ensures.untouched),
      c.into_folder-folder.ensures,
    )
