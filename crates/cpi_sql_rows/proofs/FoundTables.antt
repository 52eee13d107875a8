-- The tests of an open, taken together.
use Rattle.std.proofs.Common.{◌≡◌, inl, inr, ℕ, List, [], ◌∷◌, codes, false, Result, OnOk, Ok, Err, IsTrue, refl}
use Rattle.std.proofs.Common.{sym, subst}
use Rattle.sqlite.specs.Tree.{Trees}
use Rattle.sqlite.specs.Effect.{Database}
use Rattle.sqlite.specs.Listing.{understood, reads_listing}
use Rattle.sqlite.specs.Program.{overlay}
use Rattle.sqlite.specs.State.{State, IsLive}
use Rattle.sqlite.proofs.Callers.{IsPlain, command_of}
use Rattle.sqlite_catalog.specs.Listing.{IsSound}
use Rattle.sqlite_trees.specs.View.{doubt}
use Rattle.sqlite_trees.specs.Memory.{memory_view}
use Rattle.sqlite_trees.specs.declared.memory.MemStore.{MemStore}
use Rattle.sqlite_tied.specs.Compute.{everything}
use Rattle.sqlite.specs.Schema.{Schema}
use Rattle.cpi_sql_rows.specs.Making.{HasAllTables, IsOfficeDatabase}
use Rattle.cpi_sql_rows.specs.Numbered.{IsVersion}
use Rattle.cpi_sql_rows.specs.Tables.{first_schema, table_of_nodes, office_schema, table_of_plan_items}
use Rattle.cpi_sql_rows.specs.Tables.{table_of_version}
use Rattle.cpi_sql_rows.specs.Finding.{AreWhole, AsksRowids, AsksYears, HavePlanRowids, HaveRowids, IsFirstSchema}
use Rattle.cpi_sql_rows.specs.Finding.{IsOfOffice}
use Rattle.cpi_sql_rows.specs.Finding.{IsSecond}
use Rattle.cpi_sql_rows.specs.Finding.{AreOfYears, HavePlanYears, IsMigrated, IsMoved, KeepsLists}
use Rattle.cpi_sql_rows.specs.Texts.{select}
use Rattle.cpi_sql_rows.specs.Shelf.{AllStand, HasTables, HasRowids, IsKept}
use Rattle.cpi_sql_rows.specs.WholeTables.{under_either, second}
use Rattle.cpi_sql_rows.proofs.Found.{assignments_keyed, quotes_keyed}
use Rattle.cpi_sql_rows.proofs.FoundPlans.{nodes_keyed, places_keyed, references_keyed}
use Rattle.cpi_sql_rows.proofs.FoundReleases.{headers_keyed, frozen_keyed, carried_keyed, levels_keyed}

-- ---- the texts that ask for rowids

asked : {schema : Schema} {text : List ℕ} {tree : ℕ} (name : List ℕ)
    → command_of (understood schema text) ≡ select tree [] (0 ∷ []) (0 ∷ []) (name ∷ [])
    → reads_listing schema text ≡ false → IsPlain (understood schema text) → AsksRowids schema text tree
asked name command listing plain = record {
  names = name ∷ [];
  command = command;
  listing = listing;
  plain = plain;
}

-- so they do under a schema of the office, if they do under both, or under the one that fits
under_both : (text : List ℕ) (tree : ℕ) → AsksRowids first_schema text tree → AsksRowids office_schema text tree
    → (schema : Schema) → IsOfOffice schema → AsksRowids schema text tree
under_both text tree one two schema (inl e) = subst (λ s. AsksRowids s text tree) (sym e) one
under_both text tree one two schema (inr e) = subst (λ s. AsksRowids s text tree) (sym e) two

under_one : (known : Schema) (text : List ℕ) (tree : ℕ) → AsksRowids known text tree → (schema : Schema)
    → schema ≡ known → AsksRowids schema text tree
under_one known text tree asks schema e = subst (λ s. AsksRowids s text tree) (sym e) asks

pub calendar_rowids : (schema : Schema) → IsOfOffice schema
    → AsksRowids schema (codes "SELECT rowid FROM calendar ORDER BY rowid") 10
unfolding understood everything
calendar_rowids = under_both _ 10 (asked (codes "month") refl refl (refl, refl))
    (asked (codes "month") refl refl (refl, refl))

pub assignment_rowids : (schema : Schema) → IsSecond schema
    → AsksRowids schema (codes "SELECT rowid FROM assignment_2 ORDER BY rowid") 22
unfolding understood everything
assignment_rowids = under_one office_schema _ 22 (asked (codes "rowid") refl refl (refl, refl))

pub quote_rowids : (schema : Schema) → IsSecond schema
    → AsksRowids schema (codes "SELECT rowid FROM quote_2 ORDER BY rowid") 24
unfolding understood everything
quote_rowids = under_one office_schema _ 24 (asked (codes "rowid") refl refl (refl, refl))

pub release_rowids : (schema : Schema) → IsSecond schema
    → AsksRowids schema (codes "SELECT rowid FROM release_2 ORDER BY rowid") 26
unfolding understood everything
release_rowids = under_one office_schema _ 26 (asked (codes "rowid") refl refl (refl, refl))

pub frozen_rowids : (schema : Schema) → IsSecond schema
    → AsksRowids schema (codes "SELECT rowid FROM frozen_2 ORDER BY rowid") 28
unfolding understood everything
frozen_rowids = under_one office_schema _ 28 (asked (codes "rowid") refl refl (refl, refl))

pub carried_rowids : (schema : Schema) → IsSecond schema
    → AsksRowids schema (codes "SELECT rowid FROM carried_2 ORDER BY rowid") 30
unfolding understood everything
carried_rowids = under_one office_schema _ 30 (asked (codes "rowid") refl refl (refl, refl))

pub level_rowids : (schema : Schema) → IsSecond schema
    → AsksRowids schema (codes "SELECT rowid FROM level_2 ORDER BY rowid") 32
unfolding understood everything
level_rowids = under_one office_schema _ 32 (asked (codes "rowid") refl refl (refl, refl))

-- those of schema 1 only

pub first_assignment_rowids : (schema : Schema) → IsFirstSchema schema
    → AsksRowids schema (codes "SELECT rowid FROM assignment ORDER BY rowid") 11
unfolding understood everything
first_assignment_rowids = under_one first_schema _ 11 (asked (codes "rowid") refl refl (refl, refl))

pub first_quote_rowids : (schema : Schema) → IsFirstSchema schema
    → AsksRowids schema (codes "SELECT rowid FROM quote ORDER BY rowid") 13
unfolding understood everything
first_quote_rowids = under_one first_schema _ 13 (asked (codes "rowid") refl refl (refl, refl))

pub first_release_rowids : (schema : Schema) → IsFirstSchema schema
    → AsksRowids schema (codes "SELECT rowid FROM release ORDER BY rowid") 15
unfolding understood everything
first_release_rowids = under_one first_schema _ 15 (asked (codes "month") refl refl (refl, refl))

pub first_frozen_rowids : (schema : Schema) → IsFirstSchema schema
    → AsksRowids schema (codes "SELECT rowid FROM frozen ORDER BY rowid") 16
unfolding understood everything
first_frozen_rowids = under_one first_schema _ 16 (asked (codes "rowid") refl refl (refl, refl))

pub first_carried_rowids : (schema : Schema) → IsFirstSchema schema
    → AsksRowids schema (codes "SELECT rowid FROM carried ORDER BY rowid") 18
unfolding understood everything
first_carried_rowids = under_one first_schema _ 18 (asked (codes "rowid") refl refl (refl, refl))

pub first_level_rowids : (schema : Schema) → IsFirstSchema schema
    → AsksRowids schema (codes "SELECT rowid FROM level ORDER BY rowid") 20
unfolding understood everything
first_level_rowids = under_one first_schema _ 20 (asked (codes "rowid") refl refl (refl, refl))

-- ---- the texts that ask for rowids and years

years_asked : {schema : Schema} {text : List ℕ} {tree place : ℕ} (names : List (List ℕ))
    → command_of (understood schema text) ≡ select tree [] (0 ∷ place ∷ []) (0 ∷ []) names
    → reads_listing schema text ≡ false → IsPlain (understood schema text)
    → ((trees : Trees) → overlay trees [] tree ≡ trees tree) → AsksYears schema text tree place
years_asked names command listing plain stored = record {
  order = 0 ∷ [];
  names = names;
  command = command;
  listing = listing;
  plain = plain;
  stored = stored;
}

pub node_years : (schema : Schema) → IsOfOffice schema
    → AsksYears schema (codes "SELECT rowid, year FROM node ORDER BY rowid") 6 1
unfolding understood everything
node_years = under_either (λ s. AsksYears s (codes "SELECT rowid, year FROM node ORDER BY rowid") 6 1)
    (years_asked (codes "rowid" ∷ codes "year" ∷ []) refl refl (refl, refl) (λ _. refl))
    (years_asked (codes "rowid" ∷ codes "year" ∷ []) refl refl (refl, refl) (λ _. refl))

pub plan_item_years : (schema : Schema) → IsOfOffice schema
    → AsksYears schema (codes "SELECT rowid, year FROM plan_item ORDER BY rowid") 8 1
unfolding understood everything
plan_item_years = under_either (λ s. AsksYears s (codes "SELECT rowid, year FROM plan_item ORDER BY rowid") 8 1)
    (years_asked (codes "rowid" ∷ codes "year" ∷ []) refl refl (refl, refl) (λ _. refl))
    (years_asked (codes "rowid" ∷ codes "year" ∷ []) refl refl (refl, refl) (λ _. refl))

pub reference_years : (schema : Schema) → IsSecond schema
    → AsksYears schema (codes "SELECT rowid, year FROM plan_ref ORDER BY rowid") 34 0
unfolding understood everything
reference_years = second (λ s. AsksYears s (codes "SELECT rowid, year FROM plan_ref ORDER BY rowid") 34 0)
    (years_asked (codes "year" ∷ codes "year" ∷ []) refl refl (refl, refl) (λ _. refl))

-- ---- what is found

pub schema_after : (Fits : Schema → Type 0) (a b : State) → IsKept a b → Fits a.now.schema → Fits b.now.schema
schema_after Fits a b k has = subst (λ (d : Database). Fits d.schema) (sym k.now) has

-- what follows from the fact about an answer holds if the call answers
pub on_ok_implies : {A E : Type 0} (r : Result A E) (P Q : Type 0) → OnOk r P → (P → Q) → OnOk r Q
on_ok_implies (Ok a) P Q h f = f h
on_ok_implies (Err e) P Q h f = tt

pub on_any : {A E : Type 0} (r : Result A E) (P : Type 0) → P → OnOk r P
on_any (Ok a) P h = h
on_any (Err e) P h = tt

pub found_tables : (s : State) → s.in_transaction ≡ false → s.now.schema ≡ office_schema → IsTrue s.is_open → IsLive s
    → AreWhole s.now.trees → HavePlanYears s.now.trees → HaveRowids s.now.trees
    → IsVersion 2 (s.now.trees table_of_version.tree) → HasTables s
unfolding HasAllTables
found_tables s alone has is_open live whole years rise number =
    let sound : IsSound office_schema s.now.trees = subst (λ x. IsSound x s.now.trees) has (live is_open).0 in
    record {
      schema = has;
      alone = alone;
      office = record { tables = sound; version = number; whole = whole; years = years };
      rowids = rise.survey.quotes;
      days = rise.plans.calendar;
      assignment_ids = rise.survey.assignments;
      collectors = whole.collectors.keyed;
      outlets = whole.outlets.keyed;
      items = whole.items.keyed;
      calendar = whole.calendar.keyed;
      assignments = assignments_keyed s.now.trees sound rise.survey.assignments;
      quotes = quotes_keyed s.now.trees sound rise.survey.quotes;
      plans = record {
        node_ids = rise.plans.nodes;
        place_ids = rise.plans.places;
        reference_ids = rise.survey.references;
        nodes = nodes_keyed s.now.trees sound rise.plans.nodes;
        places = places_keyed s.now.trees sound rise.plans.places;
        references = references_keyed (s.now.trees 34);
      };
      releases = record {
        frozen_ids = rise.releases.frozen;
        carried_ids = rise.releases.carried;
        level_ids = rise.releases.levels;
        releases = headers_keyed s.now.trees sound rise.releases.headers;
        frozen = frozen_keyed s.now.trees sound rise.releases.frozen;
        carried = carried_keyed s.now.trees sound rise.releases.carried;
        levels = levels_keyed s.now.trees sound rise.releases.levels;
      };
    }

pub clean_memory : (s : MemStore) → doubt (memory_view s).is_clean ≡ 0
unfolding doubt
clean_memory s = refl

-- ---- what a migration leaves

pub moved_whole : (old new : Trees) → KeepsLists old new → AreWhole old → AreWhole new
moved_whole old new k h = record {
  collectors = rw k.collectors h.collectors;
  outlets = rw k.outlets h.outlets;
  items = rw k.items h.items;
  calendar = rw k.calendar h.calendar;
}

pub moved_years : (old new : Trees) → AreOfYears 1 (old table_of_nodes.tree) → AreOfYears 1
    (old table_of_plan_items.tree)
    → IsMigrated old new → HavePlanYears new
unfolding AllStand
moved_years old new nodes places m = record {
  nodes = subst (AreOfYears 1) (sym m.lists.nodes) nodes;
  places = subst (AreOfYears 1) (sym m.lists.places) places;
  references = subst (AreOfYears 0) (sym m.references) (λ r h. absurd h);
}

-- a migration of tables that were found so makes the database of an office
pub moved_database : (old new : Trees) → AreWhole old → AreOfYears 1 (old table_of_nodes.tree) → AreOfYears 1
    (old table_of_plan_items.tree)
    → IsMigrated old new → IsOfficeDatabase new
moved_database old new whole nodes places m = record {
  tables = m.tables;
  version = m.version;
  whole = moved_whole old new m.lists whole;
  years = moved_years old new nodes places m;
}

moved_rowids : (old new : Trees) → KeepsLists old new → HavePlanRowids old → HavePlanRowids new
moved_rowids old new k h = record {
  nodes = subst HasRowids (sym k.nodes) h.nodes;
  places = subst HasRowids (sym k.places) h.places;
  calendar = subst HasRowids (sym k.calendar) h.calendar;
}

pub moved_tables : (old new : State) → new.in_transaction ≡ false → IsTrue new.is_open → IsLive new
    → AreWhole old.now.trees → AreOfYears 1 (old.now.trees table_of_nodes.tree) → AreOfYears 1
    (old.now.trees table_of_plan_items.tree)
    → HavePlanRowids old.now.trees → IsMoved old new → HasTables new
moved_tables old new alone is_open live whole nodes places rise moved =
    found_tables new alone moved.schema is_open live
    (moved_whole old.now.trees new.now.trees moved.migrated.lists whole)
    (moved_years old.now.trees new.now.trees nodes places moved.migrated) (record {
      plans = moved_rowids old.now.trees new.now.trees moved.migrated.lists rise;
      survey = moved.survey;
      releases = moved.releases;
    }) moved.migrated.version
