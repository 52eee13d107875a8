use Rattle.clap.specs.Words.{found_of, rows_of}
use Rattle.cpi_app.proofs.Jobs.{no_limit, no_port}
use Rattle.cpi_app.proofs.command.serve_of.Goals as goal

pub returns-in_err-port_of-clause-none : goal.returns-in_err-port_of-clause-none
returns-in_err-port_of-clause-none c = rw c.from_residual-in_err-port_of.ensures
    (no_port (rows_of (found_of c.args.matches.now)) (c.in_err-port_of.ensures.none))

pub returns-in_err-limit_of-clause-none : goal.returns-in_err-limit_of-clause-none
returns-in_err-limit_of-clause-none c = rw c.from_residual-in_err-limit_of.ensures
    (no_limit (rows_of (found_of c.args.matches.now)) (c.in_err-limit_of.ensures.none))
