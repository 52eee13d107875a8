use Rattle.clap.specs.Words.{found_of, rows_of}
use Rattle.cpi_app.proofs.Jobs.{no_moment}
use Rattle.cpi_app.proofs.command.table_of.Goals as goal

pub returns-in_err-second_of-clause-none : goal.returns-in_err-second_of-clause-none
returns-in_err-second_of-clause-none c = rw c.from_residual-in_err-second_of.ensures
    (no_moment (rows_of (found_of c.args.matches.now)) (c.in_err-second_of.ensures.none))
