-- The tables that a change of the office writes; each other one is as it was.
use Rattle.std.specs.Prelude.{◌≡◌, ◌==◌, ◌&&◌, not, ℕ, Bool, true, List, [], ◌∷◌}
use Rattle.std.specs.List.{list_all, list_any}
use Rattle.sqlite.specs.Tree.{Trees}
use Rattle.cpi_store.specs.Office.{Change, PutsItem, PutsPlan, PutsCalendar, Registers, PutsOutlet, Assigns, HandsOver}
use Rattle.cpi_store.specs.Office.{Quotes, Freezes}
use Rattle.cpi_sql_rows.specs.Tables.{table_of_assignments_2, table_of_calendar, table_of_carried_2}
use Rattle.cpi_sql_rows.specs.Tables.{table_of_collectors, table_of_frozen_2, table_of_items, table_of_levels_2}
use Rattle.cpi_sql_rows.specs.Tables.{table_of_nodes}
use Rattle.cpi_sql_rows.specs.Tables.{office_schema, table_of_outlets, table_of_plan_items, table_of_plan_refs}
use Rattle.cpi_sql_rows.specs.Tables.{table_of_quotes_2, table_of_releases_2}

-- whether the table with this tree is one of the office's, and none of those
abbrev pub is_beside : List ℕ → ℕ → Bool
is_beside changed tree =
    list_any (λ t. t.tree == tree) office_schema.tables && list_all (λ n. not (n == tree)) changed

-- each table of the office but those with these trees is as it was
abbrev pub SameBut : List ℕ → Trees → Trees → Type 0
SameBut changed old new = (tree : ℕ) → is_beside changed tree ≡ true → new tree ≡ old tree

-- the trees of the tables that a change writes
abbrev pub written_by : Change → List ℕ
written_by (PutsItem i) = table_of_items.tree ∷ []
written_by (PutsPlan p) = table_of_nodes.tree ∷ table_of_plan_items.tree ∷ table_of_plan_refs.tree ∷ []
written_by (PutsCalendar r) = table_of_calendar.tree ∷ []
written_by (Registers b) = table_of_collectors.tree ∷ []
written_by (PutsOutlet u) = table_of_outlets.tree ∷ []
written_by (Assigns b a) = table_of_assignments_2.tree ∷ []
written_by (HandsOver h) = table_of_assignments_2.tree ∷ []
written_by (Quotes b q) = table_of_quotes_2.tree ∷ []
written_by (Freezes r) = table_of_releases_2.tree ∷ table_of_frozen_2.tree ∷ table_of_carried_2.tree ∷
    table_of_levels_2.tree ∷ []
