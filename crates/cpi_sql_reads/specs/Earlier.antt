-- The lists of earlier months that a month's samples are made from.
use Rattle.std.specs.Prelude.{◌≢◌, ℕ, IfSome, List, [], Option}
use Rattle.std.specs.Option.{option_map_or}
use Rattle.sqlite.specs.Tree.{Trees}
use Rattle.cpi_index.specs.Carried.{Carried}
use Rattle.cpi_sql_rows.specs.HeldTables.{carried_table, frozen_table}
use Rattle.cpi_sql_reads.specs.ReleaseLists.{IsLatest, IsListOf, ReleaseList}
use Rattle.cpi_sql_reads.specs.declared.groups.EarlierLists.{EarlierLists}

-- the rows of a list, if there is one
abbrev pub rows_of_list : Option (ReleaseList Carried) → List Carried
rows_of_list found = option_map_or (λ l. l.rows) found []

-- the carried prices of the month before, unless that is the link month
pub record IsBefore (trees : Trees) (link last : ℕ) (found : Option (ReleaseList Carried)) : Type 0 where
  pub list : IfSome found (IsListOf carried_table (λ r. r.carried) trees)
  pub latest : last ≢ link → IsLatest carried_table (λ r. r.carried) trees last found

-- they are those of the latest releases
pub record AreEarlier (trees : Trees) (link last : ℕ) (earlier : EarlierLists) : Type 0 where
  pub link_carried : IsLatest carried_table (λ r. r.carried) trees link earlier.link_carried
  pub link_frozen : IsLatest frozen_table (λ r. r.frozen) trees link earlier.link_frozen
  pub last_carried : IsBefore trees link last earlier.last_carried
