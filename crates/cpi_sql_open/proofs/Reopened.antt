-- An open of what a crash leaves of a book.
use Rattle.std.proofs.Common.{◌≡◌, ◌==◌, ℕ, true, false, inl, inr, sym, ap, subst, ◌∙◌}
use Rattle.std.specs.Prelude.{Bool, length}
use Rattle.sqlite.specs.Effect.{Database}
use Rattle.sqlite.specs.Schema.{Schema}
use Rattle.sqlite.specs.State.{State}
use Rattle.sqlite.specs.Tree.{Trees}
use Rattle.sqlite_catalog.specs.Listing.{IsSound, Lists}
use Rattle.sqlite_catalog.proofs.ReadLemmas.{lists_once}
use Rattle.sqlite_trees.specs.Objects.{catalog_tree}
use Rattle.cpi_store.specs.Office.{Office}
use Rattle.cpi_sql_rows.specs.Finding.{IsOpened}
use Rattle.cpi_sql_rows.specs.Lists.{office_in}
use Rattle.cpi_sql_rows.specs.Making.{HasAllTables, IsOfficeDatabase}
use Rattle.cpi_sql_rows.specs.Shelf.{office_state}
use Rattle.cpi_sql_rows.specs.Tables.{office_schema}
use Rattle.cpi_sql_open.specs.Left.{ShowsDatabase}

-- a database lists one schema
all_listed : (trees : Trees) → HasAllTables trees → IsSound office_schema trees
unfolding HasAllTables
all_listed trees all = all

-- what a connection shows of the database of an office
shown_trees : (db : Trees) (s : State) → ShowsDatabase db s → s.now.trees ≡ db
shown_trees db s h = ap (λ (d : Database). d.trees) h.opens.clean ∙ h.shows

pub shown_schema : (db : Trees) (s : State) → IsOfficeDatabase db → ShowsDatabase db s → s.now.schema ≡ office_schema
shown_schema db s is h =
    let listed = (h.live h.opens.is_open).0.lists in
    lists_once (db catalog_tree) s.now.schema office_schema
    (subst (λ (trees : Trees). Lists (trees catalog_tree) s.now.schema) (shown_trees db s h) listed)
    (all_listed db is.tables).lists

-- an office has more tables than an empty database and than schema 1
abbrev has_twenty : Schema → Bool
has_twenty schema = length schema.tables == 20

pub taken_as_it_is : (db : Trees) (was now : State) → IsOfficeDatabase db → ShowsDatabase db was → IsOpened was now
    → now.now ≡ was.now
taken_as_it_is db was now is shows opened =
    let schema = shown_schema db was is shows in
    elim opened.0 [
      | inl new ↦ absurd (let no : true ≡ false = ap has_twenty (sym schema ∙ new.0) in cc)
      | inr (inl second) ↦ second.1
      | inr (inr first) ↦ absurd (let no : true ≡ false = ap has_twenty (sym schema ∙ first.0) in cc)
    ]

pub finds_what_is_left : (s : State) (failures : ℕ) (db : Trees) (was now : State) → s.may_leave db
    → ShowsDatabase db was → IsOpened was now → (office_state s failures).may_leave (office_in now.now.trees)
finds_what_is_left s failures db was now leaves shows opened = (
  db,
  leaves,
  λ is. ap (λ (d : Database). office_in d.trees) (taken_as_it_is db was now is shows opened)
      ∙ ap office_in (shown_trees db was shows),
)

pub leaves_offices_only : (s : State) (failures : ℕ) (other : Office)
    → ((office_state s failures).may_leave other → ⊥) → (db : Trees) → s.may_leave db → (IsOfficeDatabase db → ⊥) → ⊥
leaves_offices_only s failures other cannot db leaves none = cannot (db, leaves, λ is. absurd (none is))
