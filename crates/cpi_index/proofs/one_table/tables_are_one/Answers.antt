use Rattle.cpi_index.proofs.OneTable.{indices_are, means_are}
use Rattle.cpi_index.proofs.one_table.tables_are_one.Goals as goal

pub returns-clause-indices : goal.returns-clause-indices
returns-clause-indices c = indices_are

pub returns-clause-means : goal.returns-clause-means
returns-clause-means c = means_are
