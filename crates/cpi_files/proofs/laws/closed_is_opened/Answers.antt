use Rattle.sqlite.specs.Files.{file_state}
use Rattle.cpi_sql_open.proofs.Reopened.{taken_as_it_is}
use Rattle.cpi_files.proofs.Reopened.{closed_is_opened}
use Rattle.cpi_files.proofs.laws.closed_is_opened.Goals as goal

pub returns : goal.returns
returns g c = closed_is_opened g.D.Disk (λ db was now. taken_as_it_is db (file_state was) (file_state now))
