-- The tables that the statements of a transaction leave as they were.
use Rattle.std.proofs.Common.{◌≡◌, ℕ, ◌==◌, Bool, true, List, ◌++◌, IsTrue, subst}
use Rattle.std.specs.List.{list_any}
use Rattle.sqlite.specs.Table.{Table}
use Rattle.sqlite_rules.specs.Lists.{Has}
use Rattle.sqlite_rules.proofs.ListLemmas.{some_has}
use Rattle.cpi_rows.proofs.Truth.{same_of_equal}
use Rattle.cpi_sql_rows.specs.Steps.{SameBut}
use Rattle.cpi_sql_rows.specs.Tables.{office_schema}
use Rattle.cpi_sql_rows.proofs.Unchanged.{same_then}
use Rattle.cpi_sql_open.specs.Stages.{Stage}

-- one of the tables has this tree
abbrev pub has_tree : List Table → ℕ → Bool
has_tree tables n = list_any (λ t. t.tree == n) tables

-- what is so of each of the tables
pub at_tree : (P : ℕ → Type 0) (tables : List Table) → ((t : Table) → Has tables t → P t.tree) → (n : ℕ)
    → has_tree tables n ≡ true → P n
at_tree P tables each n is =
    let it = some_has (λ (t : Table). t.tree == n) tables is in
    subst P (same_of_equal it.0.tree n it.2) (each it.0 it.1)

-- a step leaves each table but these as it was
pub record IsLeft (trees : List ℕ) (old new : Stage) : Type 0 where
  pub inside : IsTrue new.in_transaction
  pub schema : new.now.schema ≡ office_schema
  pub others : SameBut trees old.now.trees new.now.trees

pub left_then : (xs ys : List ℕ) (a b c : Stage) → IsLeft xs a b → IsLeft ys b c → IsLeft (xs ++ ys) a c
left_then xs ys a b c p q = record {
  inside = q.inside;
  schema = q.schema;
  others = same_then xs ys a.now.trees b.now.trees c.now.trees p.others q.others;
}
