-- What an INSERT and a DELETE of each row do within a transaction, for any table of the office.
use Rattle.std.proofs.Common.{◌≡◌, ◌∷◌, ◌<◌, ℕ, List, [], length, Some, None, Option, refl, sym, ap, subst}
use Rattle.std.proofs.Common.{◌∙◌, IsTrue}
use Rattle.std.proofs.lemmas.List.{get_or-map}
use Rattle.std.proofs.lemmas.Option.{slice_get-get_or}
use Rattle.std.specs.Prelude.{slice_get}
use Rattle.sqlite.specs.declared.types.Value.TheVariants.{Null}
use Rattle.sqlite.specs.Order.{Row}
use Rattle.sqlite.specs.Tree.{Trees}
use Rattle.sqlite.specs.Term.{col}
use Rattle.sqlite.specs.Edit.{Edit, Applies, edit_of, taken_by}
use Rattle.sqlite.specs.Rowids.TheVariants.{Chosen, Given}
use Rattle.sqlite.specs.Source.{Source}
use Rattle.sqlite.specs.Does.{AtPlace, OnRows, Tally}
use Rattle.sqlite.specs.Effect.{Database, IsDatabase, IsSource}
use Rattle.sqlite.specs.Program.{overlay}
use Rattle.sqlite.specs.Rows.{Outcome, Task, Written}
use Rattle.sqlite.specs.Command.{Command}
use Rattle.sqlite.specs.Command.TheVariants.{Insert}
use Rattle.sqlite.proofs.Callers.{one_step}
use Rattle.sqlite_catalog.specs.Listing.{IsSound}
use Rattle.sqlite_schema.specs.declared.schema.Keys.TheVariants.{Enforced}
use Rattle.sqlite_rules.specs.Action.{works}
use Rattle.sqlite_rules.specs.Calls.{ids_of}
use Rattle.sqlite_rules.proofs.ActionLemmas.{no_works}
use Rattle.cpi_sql_rows.specs.Tables.{office_schema, table_of_version}
use Rattle.cpi_sql_rows.proofs.Reading.{Members, members}
use Rattle.cpi_sql_rows.proofs.Texts.{Makes}
use Rattle.cpi_sql_rows.proofs.Unchanged.{others_same}
use Rattle.cpi_sql_rows.proofs.Writing.{as_plain, went, same_value}
use Rattle.cpi_sql_open.specs.Stages.{RanAtStage, Stage, usual}
use Rattle.cpi_sql_open.proofs.Frames.{IsLeft}
use Rattle.cpi_sql_open.proofs.Looks.{overlay_none}
use Rattle.cpi_sql_open.proofs.Moves.{clears, command, table_at}

-- a table of the office has its columns, keys and foreign keys, and nothing else
stands : (at : ℕ) → at < length office_schema.tables
    → slice_get office_schema.tables at ≡ Some (as_plain (table_at at))
stands at less =
    let same : table_at at ≡ as_plain (table_at at) =
    get_or-map as_plain office_schema.tables at table_of_version table_of_version less in
    slice_get-get_or office_schema.tables at table_of_version less ∙ ap Some same

-- the statement made the edit, and no other
pub record Wrote (edit : Edit) (old new : Stage) : Type 0 where
  pub applied : Applies office_schema Enforced old.now.trees edit new.now.trees
  pub left : IsLeft (edit.table.tree ∷ []) old new
  pub sound : IsSound office_schema new.now.trees

-- no foreign key of the office acts when a row is taken out
none_acts : (tree : ℕ) (olds : List Row) → works office_schema Enforced 0 tree olds [] ≡ []
none_acts tree olds = refl

module _ (at : ℕ) (less : at < length office_schema.tables) (text : List ℕ) (old new : Stage)
    (inside : IsTrue old.in_transaction) (has : old.now.schema ≡ office_schema) where
  abbrev db : Trees
  db = old.now.trees

  abbrev task : Option ℕ → Task
  task limit = record {
    limit = limit;
    keys = Enforced;
    schema = office_schema;
    table = as_plain (table_at at);
    params = [];
  }

  at_place : (limit : Option ℕ) (c : Command) (out : Outcome (Tally × Database))
      → AtPlace (λ table. OnRows (record (task limit) { table = table }) usual None c db)
      (slice_get office_schema.tables at) out → OnRows (task limit) usual None c db out
  at_place limit c out = subst
      (λ o. AtPlace (λ table. OnRows (record (task limit) { table = table }) usual None c db) o out) (stands at less)

  wrote : (edit : Edit) (made : Trees) → new.now ≡ record { schema = office_schema; trees = made }
      → Applies office_schema Enforced db edit made → new.in_transaction ≡ old.in_transaction → IsDatabase new.now
      → Wrote edit old new
  wrote edit made now applied mode sound =
      let schema : new.now.schema ≡ office_schema = ap (λ (d : Database). d.schema) now in
      let it = subst (Applies office_schema Enforced db edit) (sym (ap (λ (d : Database). d.trees) now)) applied in
      record {
        applied = it;
        left = record {
          inside = mode ∙ inside;
          schema = schema;
          others = others_same edit.table.tree db new.now.trees new.now.trees (λ n. refl) it.tables;
        };
        sound = subst (λ s. IsSound s new.now.trees) schema sound;
      }

  -- rows are put, each with a rowid that is chosen if it has none
  pub inserted : (from : Source) → Makes text (Insert at from) → RanAtStage text old new
      → (rows : List Row) × IsSource (record { schema = office_schema; trees = db }) [] from rows
      × Wrote (edit_of db (as_plain (table_at at)) [] Chosen 0 rows) old new
  inserted from is ran =
      let d = ran office_schema (Insert at from) refl is.0 is.1 inside has in
      let done = went (at_place d.limit (Insert at from) _ d.does) in
      let now = ap (λ (p : Tally × Database). p.1) (same_value (went (went done.2).2).2) in
      let sourced = went done.1 in
      let edit = edit_of db (as_plain (table_at at)) [] Chosen 0 sourced.0 in
      let made = went (went sourced.2).2 in
      let kept = went made.2 in
      let trees : done.0.trees ≡ made.0 = ap (λ (w : Written). w.trees) (same_value kept.2) ∙ same_value kept.1 in (
        sourced.0,
        sourced.1,
        wrote edit made.0 (now ∙ ap (λ t. record { schema = office_schema; trees = t }) trees)
            (one_step office_schema Enforced db made.0 edit
            (no_works office_schema Enforced 0 edit.table.tree edit.news) made.1) d.mode d.sound,
      )

  -- each row is taken out
  pub deleted : Makes text (command (clears at)) → RanAtStage text old new
      → (found : List Row) × Members [] (col 1 0 ∷ []) (db (table_at at).tree) [] found
      × Wrote (edit_of db (as_plain (table_at at)) (ids_of found) Given 0 []) old new
  deleted is ran =
      let d = ran office_schema (command (clears at)) refl is.0 is.1 inside has in
      let done = went (at_place d.limit (command (clears at)) _ d.does) in
      let now = ap (λ (p : Tally × Database). p.1) (same_value (went (went done.2).2).2) in
      let asked = went done.1 in
      let made = went asked.2 in
      let edit = edit_of db (as_plain (table_at at)) (ids_of asked.0) Given 0 [] in
      let trees : done.0.trees ≡ made.0 = ap (λ (w : Written). w.trees) (same_value made.2) in
      let tree = (table_at at).tree in (
        asked.0,
        subst (λ l. Members [] (col 1 0 ∷ []) l [] asked.0) (overlay_none db tree)
            (members tree [] (col 1 0 ∷ []) [] (overlay db []) [] asked.0 (asked.1.answer Null)),
        wrote edit made.0 (now ∙ ap (λ t. record { schema = office_schema; trees = t }) trees)
            (one_step office_schema Enforced db made.0 edit (none_acts edit.table.tree (taken_by db edit)) made.1)
            d.mode d.sound,
      )
