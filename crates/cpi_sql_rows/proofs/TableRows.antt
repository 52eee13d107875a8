-- One statement on the rows of a table of the office, and the INSERT of one row.
use Rattle.std.proofs.Common.{◌≡◌, inl, inr, ℕ, ◌==◌, List, [], ◌∷◌, true, length, slice_get, Some, None, Option, Ok}
use Rattle.std.proofs.Common.{refl, sym, ap, subst, ◌∙◌}
use Rattle.std.proofs.lemmas.Bool.{cases_Bool}
use Rattle.sqlite.specs.Command.{Command}
use Rattle.sqlite.specs.Command.TheVariants.{Insert}
use Rattle.sqlite.specs.Does.{Tally, AtPlace, OnRows, OnTable}
use Rattle.sqlite.specs.Edit.{are_fresh, edit_of, edited, put_all}
use Rattle.sqlite.specs.Effect.{Database}
use Rattle.sqlite.specs.Order.{Row}
use Rattle.sqlite.specs.Rows.{Sourced, Task, stamped}
use Rattle.sqlite.specs.Rowids.TheVariants.{Chosen}
use Rattle.sqlite.specs.Source.{Source}
use Rattle.sqlite.specs.State.{State, mode_of}
use Rattle.sqlite.specs.Table.{Table}
use Rattle.sqlite.specs.Tree.{Trees, put_row}
use Rattle.sqlite_rules.proofs.TableLemmas.{put_all_keeps}
use Rattle.sqlite_rules.specs.Action.{works}
use Rattle.sqlite_rules.specs.Lists.{Has}
use Rattle.sqlite_schema.specs.declared.schema.Keys.TheVariants.{Enforced}
use Rattle.cpi_sql_rows.proofs.Change.{IsChange, is_change}
use Rattle.cpi_sql_rows.proofs.KeptRowids.{put_shaped}
use Rattle.cpi_sql_rows.proofs.Texts.{Makes}
use Rattle.cpi_sql_rows.proofs.Unchanged.{others_same}
use Rattle.cpi_sql_rows.proofs.Writing as writing
use Rattle.cpi_sql_rows.proofs.Writing.{as_plain, went, same_value}
use Rattle.cpi_sql_rows.specs.Shelf.{HasRowids}
use Rattle.cpi_sql_rows.specs.Steps.{SameBut}
use Rattle.cpi_sql_rows.specs.Tables.{office_schema}

-- the rows are added, each with a rowid that no other has
pub record AddsRows (tree : ℕ) (news : List Row) (old : Trees) (after : Database) : Type 0 where
  pub schema : after.schema ≡ office_schema
  pub rows : after.trees tree ≡ put_all (old tree) news
  pub fresh : are_fresh (old tree) news ≡ true
  pub rowids : HasRowids (old tree) → HasRowids (after.trees tree)
  pub others : SameBut (tree ∷ []) old after.trees

-- the same of one row
pub record AddsRow (tree : ℕ) (row : Row) (old : Trees) (after : Database) : Type 0 where
  pub schema : after.schema ≡ office_schema
  pub rows : after.trees tree ≡ put_row row (old tree)
  pub kept : (r : Row) → Has (old tree) r → Has (after.trees tree) r
  pub rowids : HasRowids (old tree) → HasRowids (after.trees tree)
  pub others : SameBut (tree ∷ []) old after.trees

-- no foreign key of the office acts on the rows that refer to another
pub no_work : (tree : ℕ) (olds news : List Row) → works office_schema Enforced 0 tree olds news ≡ []
no_work tree olds news =
    elim (cases_Bool (length news == 0)) [ inl none ↦ rw none refl | inr some ↦ rw some refl ]

-- the source of an INSERT gives these rows and no others
abbrev pub Gives : Table → Row → Source → List Row → Type 0
Gives it params from sources = (limit : Option ℕ) (db : Trees) (rows : List Row) → Sourced limit (record {
  schema = office_schema;
  trees = db;
}) (stamped (as_plain it) params) from (Ok rows) → rows ≡ sources

-- this row and no other
abbrev pub GivesOne : Table → Row → Source → Row → Type 0
GivesOne it params from source = Gives it params from (source ∷ [])

module _ (it : Table) (at : ℕ) (stands : slice_get office_schema.tables at ≡ Some (as_plain it)) where
  abbrev pub task_on : Option ℕ → State → Row → Task
  task_on limit s params = writing.task limit (mode_of s).keys office_schema it params

  -- what the statement does, with the table at hand
  pub on_table : (limit : Option ℕ) (s : State) (params : Row) (db : Trees) (command : Command) (out : Tally × Database)
      → OnTable limit (mode_of s) params (record { schema = office_schema; trees = db }) at
      (λ task. OnRows task (mode_of s) None command db) (Ok out)
      → OnRows (task_on limit s params) (mode_of s) None command db (Ok out)
  on_table limit s params db command out does = subst
      (λ found. AtPlace (λ table. OnRows (record (task_on limit s params) { table = table }) (mode_of s) None command
      db) found (Ok out)) stands does

  module _ (params : Row) (from : Source) (sources : List Row) (gives : Gives it params from sources) where
    -- the rows that the sources become
    abbrev pub news_of : Trees → List Row
    news_of db = (edit_of db (as_plain it) [] Chosen 0 sources).news

    rows_added : (limit : Option ℕ) (s : State) (db : Trees) (tally : Tally) (after : Database)
        → OnRows (task_on limit s params) (mode_of s) None (Insert at from) db (Ok (tally, after))
        → AddsRows it.tree (news_of db) db after
    rows_added limit s db tally after done =
        let made = went done in
        let now = ap (λ (p : Tally × Database). p.1) (same_value (went (went made.2).2).2) in
        let applied = writing.insert_rows limit (mode_of s).keys office_schema it params from sources db made.0
        (gives limit db) made.1 in
        let same : (t : ℕ) → after.trees t ≡ made.0.trees t = λ t. ap (λ (d : Database). d.trees t) now in
        record {
          schema = ap (λ (d : Database). d.schema) now;
          rows = same it.tree ∙ applied.rows;
          fresh = applied.fresh;
          rowids = λ h. subst HasRowids (sym (same it.tree ∙ applied.rows))
              (put_shaped (news_of db) (db it.tree) h applied.keyed applied.fresh);
          others = others_same it.tree db made.0.trees after.trees same applied.tables;
        }

    inserts : (text : List ℕ) (Done : Trees → Database → Type 0)
        → ((db : Trees) (after : Database) → AddsRows it.tree (news_of db) db after → Done db after)
        → Makes text (Insert at from) → IsChange text params Done
    inserts text Done turn is =
        is_change text (Insert at from) is params (λ o n t c w. w)
        (λ e. elim e [ inl commit ↦ absurd cc | inr release ↦ absurd (let f = release.1 in cc) ]) Done
        (λ limit s db tally after does. turn db after (rows_added limit s db tally after
        (on_table limit s params db (Insert at from) (tally, after) does)))

    -- an INSERT of rows: their sources, and the rows that they become
    pub adds_rows : (text : List ℕ) → Makes text (Insert at from)
        → IsChange text params (λ db. AddsRows it.tree (news_of db) db)
    adds_rows text = inserts text (λ db. AddsRows it.tree (news_of db) db) (λ db after added. added)

  -- an INSERT of one row
  pub adds_one : (params : Row) (from : Source) (source : Row) (row : Trees → Row) → GivesOne it params from source
      → ((db : Trees) → edited db (edit_of db (as_plain it) [] Chosen 0 (source ∷ [])) ≡ put_row (row db) (db it.tree))
      → (text : List ℕ) → Makes text (Insert at from) → IsChange text params (λ db. AddsRow it.tree (row db) db)
  adds_one params from source row one becomes text =
      inserts params from (source ∷ []) one text (λ db. AddsRow it.tree (row db) db) (λ db after added. record {
        schema = added.schema;
        rows = added.rows ∙ becomes db;
        kept = λ r h. subst (λ l. Has l r) (sym added.rows)
            (put_all_keeps (news_of params from (source ∷ []) one db) (db it.tree) r added.fresh h);
        rowids = added.rowids;
        others = added.others;
      })
