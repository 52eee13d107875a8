-- The office after a write of some tables: the lists of every other table are as they were.
use Rattle.std.proofs.Common.{◌≡◌, ℕ, false, List, [], ◌∷◌, Option, map, inl, inr, refl, ◌∙◌}
use Rattle.std.specs.Prelude.{if◌then◌else◌}
use Rattle.std.specs.Cmp.{IsTotalOrder}
use Rattle.std.specs.List.{AllByRecursion}
use Rattle.std.specs.declared.cmp.Ordering.{Ordering}
use Rattle.std.proofs.lemmas.Bool.{cases_Bool}
use Rattle.sqlite.specs.Order.{Row}
use Rattle.sqlite.specs.State.{State}
use Rattle.sqlite.specs.Tree.{Trees}
use Rattle.cpi_rows.specs.Keyed.{with_row}
use Rattle.cpi_store.specs.Office.{Change, office_with}
use Rattle.cpi_sql_rows.specs.Lists.{rows_in_key_order, office_in}
use Rattle.cpi_sql_rows.specs.Shelf.{HasTables, IsKeyed}
use Rattle.cpi_sql_rows.specs.Frames.{SameBut, is_beside, written_by}
use Rattle.cpi_sql_writes.specs.Rest.{KeepsRest, MakesOnly}
use Rattle.cpi_sql_rows.specs.Making.{HasAllTables}
use Rattle.cpi_sql_rows.specs.Tables.{office_schema}
use Rattle.cpi_sql_rows.proofs.Frame.{OfficeTable, Writes, Written, row_written, table_written, tree_of}
use Rattle.cpi_sql_rows.proofs.Listed.{PutsRow, listed_put}

-- the tables with these trees as they are now, and every other of the office as it was
abbrev pub beside : List ℕ → Trees → Trees → Trees
beside trees old new n = if is_beside trees n then old n else new n

office_beside : (trees : List ℕ) (old new : Trees) → SameBut trees old new
    → office_in new ≡ office_in (beside trees old new)
office_beside trees old new others = λ i. office_in (λ n. same n i)
  where
    same : (n : ℕ) → new n ≡ beside trees old new n
    same n = elim (cases_Bool (is_beside trees n)) [ inl other ↦ rw other (others n other) | inr among ↦ rw among refl ]

module _ (change : Change) (old new : State) (has : HasTables old) (schema : new.now.schema ≡ office_schema)
    (alone : new.in_transaction ≡ false) (all : HasAllTables new.now.trees) where
  -- some tables are written
  pub tables_written : (tables : List OfficeTable) → written_by change ≡ map tree_of tables
      → SameBut (map tree_of tables) old.now.trees new.now.trees
      → AllByRecursion (λ t. Written t (old.now.trees (tree_of t)) (new.now.trees (tree_of t))) tables
      → office_in (beside (map tree_of tables) old.now.trees new.now.trees)
      ≡ office_with change (office_in old.now.trees)
      → KeepsRest change old.now.trees new.now.trees
      → MakesOnly change old new
  tables_written tables writes others written office rest = record {
    done = table_written tables change old new writes schema alone all others written
        (office_beside (map tree_of tables) old.now.trees new.now.trees others ∙ office) has;
    rest = rest;
  }

  -- one row is put into one table
  pub row_done : {X K : Type 0} {R : K → K → Ordering} (t : OfficeTable)
      → written_by change ≡ tree_of t ∷ [] → SameBut (tree_of t ∷ []) old.now.trees new.now.trees
      → (o : IsTotalOrder R) (key : X → K)
      (entry : Row → Option X) (x : X) → IsKeyed R key entry (old.now.trees (tree_of t))
      → PutsRow o key entry x (old.now.trees (tree_of t)) (new.now.trees (tree_of t))
      → (Writes R key entry (old.now.trees (tree_of t)) (new.now.trees (tree_of t))
      → Written t (old.now.trees (tree_of t)) (new.now.trees (tree_of t)))
      → (rows_in_key_order R key entry (new.now.trees (tree_of t))
      ≡ with_row R key x (rows_in_key_order R key entry (old.now.trees (tree_of t)))
      → office_in (beside (tree_of t ∷ []) old.now.trees new.now.trees) ≡ office_with change (office_in old.now.trees))
      → KeepsRest change old.now.trees new.now.trees
      → MakesOnly change old new
  row_done t writes others o key entry x keyed puts written office =
      tables_written (t ∷ []) writes others (written (row_written o key entry x _ _ puts), tt)
      (office (listed_put o key entry x _ _ keyed puts))
