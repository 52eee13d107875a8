-- The tables that lists of CREATE TABLEs make.
use Rattle.std.proofs.Common.{◌≡◌, ℕ, List, [], ◌∷◌, ◌++◌, map, inl, inr, false, None, Ok, IsTrue, refl, sym, ap}
use Rattle.std.proofs.Common.{subst, ◌∙◌}
use Rattle.sqlite.specs.Change.{created, next_tree}
use Rattle.sqlite.specs.Command.TheVariants.{CreateTable}
use Rattle.sqlite.specs.Does.{Tally, Does, lacks_sequence}
use Rattle.sqlite.specs.Effect.{Database}
use Rattle.sqlite.specs.Listing.{understood}
use Rattle.sqlite.specs.Schema.{Schema}
use Rattle.sqlite.specs.Table.{Table}
use Rattle.sqlite_rules.specs.Lists.{Has}
use Rattle.sqlite_rules.proofs.ListLemmas.{all_has, has_either, has_left, has_right}
use Rattle.sqlite_tied.specs.Compute.{everything}
use Rattle.cpi_sql_rows.specs.Making.{no_schema, second_tables}
use Rattle.cpi_sql_rows.specs.Tables.{first_tables, first_schema, office_schema}
use Rattle.cpi_sql_rows.proofs.Writing.{went, same_value}
use Rattle.cpi_sql_open.specs.Making.{MakeEach, MakesTable}
use Rattle.cpi_sql_open.specs.Stages.{RanAtStage, RanEach, Stage, usual}
use Rattle.cpi_sql_open.proofs.Texts.{◌▸◌}
use Rattle.cpi_sql_open.specs.declared.make.TheConstants.{FIRST_TABLES, SECOND_TABLES}

-- ---- the texts

abbrev pub first_texts : List (List ℕ)
first_texts = map (λ t. t.now) FIRST_TABLES

pub first_make : MakeEach first_texts first_tables no_schema first_schema
unfolding understood everything
first_make =
    record { command = refl; plain = (refl, refl); whole = refl; defined = refl; counted = refl; place = refl } ▸
    record { command = refl; plain = (refl, refl); whole = refl; defined = refl; counted = refl; place = refl } ▸
    record { command = refl; plain = (refl, refl); whole = refl; defined = refl; counted = refl; place = refl } ▸
    record { command = refl; plain = (refl, refl); whole = refl; defined = refl; counted = refl; place = refl } ▸
    record { command = refl; plain = (refl, refl); whole = refl; defined = refl; counted = refl; place = refl } ▸
    record { command = refl; plain = (refl, refl); whole = refl; defined = refl; counted = refl; place = refl } ▸
    record { command = refl; plain = (refl, refl); whole = refl; defined = refl; counted = refl; place = refl } ▸
    record { command = refl; plain = (refl, refl); whole = refl; defined = refl; counted = refl; place = refl } ▸
    record { command = refl; plain = (refl, refl); whole = refl; defined = refl; counted = refl; place = refl } ▸
    record { command = refl; plain = (refl, refl); whole = refl; defined = refl; counted = refl; place = refl } ▸
    record { command = refl; plain = (refl, refl); whole = refl; defined = refl; counted = refl; place = refl } ▸
    record { command = refl; plain = (refl, refl); whole = refl; defined = refl; counted = refl; place = refl } ▸
    record { command = refl; plain = (refl, refl); whole = refl; defined = refl; counted = refl; place = refl } ▸
    refl

abbrev pub second_texts : List (List ℕ)
second_texts = map (λ t. t.now) SECOND_TABLES

pub second_make : MakeEach second_texts second_tables first_schema office_schema
unfolding understood everything
second_make =
    record { command = refl; plain = (refl, refl); whole = refl; defined = refl; counted = refl; place = refl } ▸
    record { command = refl; plain = (refl, refl); whole = refl; defined = refl; counted = refl; place = refl } ▸
    record { command = refl; plain = (refl, refl); whole = refl; defined = refl; counted = refl; place = refl } ▸
    record { command = refl; plain = (refl, refl); whole = refl; defined = refl; counted = refl; place = refl } ▸
    record { command = refl; plain = (refl, refl); whole = refl; defined = refl; counted = refl; place = refl } ▸
    record { command = refl; plain = (refl, refl); whole = refl; defined = refl; counted = refl; place = refl } ▸
    record { command = refl; plain = (refl, refl); whole = refl; defined = refl; counted = refl; place = refl } ▸
    refl

-- ---- tables that are made in turn

-- after the tables of the one schema come these, which are empty, and the others are as they were
pub record Made (from to : Schema) (tables : List Table) (old new : Stage) : Type 0 where
  pub inside : IsTrue new.in_transaction
  pub schema : new.now.schema ≡ to
  pub empty : (t : Table) → Has tables t → new.now.trees t.tree ≡ []
  pub others : (t : Table) → Has from.tables t → new.now.trees t.tree ≡ old.now.trees t.tree

pub made_then : (from mid to : Schema) (ts us : List Table) (a b c : Stage) → mid.tables ≡ from.tables ++ ts
    → Made from mid ts a b → Made mid to us b c → Made from to (ts ++ us) a c
made_then from mid to ts us a b c is one two =
    let kept = λ (t : Table) (h : Has (from.tables ++ ts) t). two.others t (subst (λ l. Has l t) (sym is) h) in
    record {
      inside = two.inside;
      schema = two.schema;
      empty = λ t h. elim (has_either ts us t h) [
        | inl early ↦ kept t (has_right from.tables ts t early) ∙ one.empty t early
        | inr late ↦ two.empty t late
      ];
      others = λ t h. kept t (has_left from.tables ts t h) ∙ one.others t h;
    }

table_made : (schema : Schema) (text : List ℕ) (table : Table) (old new : Stage) → MakesTable schema text table
    → RanAtStage text old new → IsTrue old.in_transaction → old.now.schema ≡ schema
    → Made schema (created schema table) (table ∷ []) old new
table_made schema text table old new m ran inside has =
    let d = ran schema CreateTable refl m.command m.plain inside has in
    let all = went (subst (λ t. Does d.limit usual [] (record { schema = schema; trees = old.now.trees }) t None
    CreateTable (Ok (d.tally, new.now))) m.whole d.does) in
    let first = went all.1 in
    let made = first.1 in
    let blank : Table = record table { tree = 0 } in
    let both : Ok made.table ≡ Ok blank = sym made.defined ∙ m.defined in
    let same : made.table ≡ blank = cc in
    let is : first.0.schema ≡ created schema table = made.is ∙ ap (created schema) same in
    let none : lacks_sequence first.0.schema ≡ false = ap lacks_sequence is ∙ m.counted in
    let now : new.now ≡ first.0 = ap (λ (p : Tally × Database). p.1) (same_value all.2)
    ∙ same_value (rw none at first.2) in
    let tree : next_tree schema ≡ table.tree = ap (λ (t : Table). t.tree) m.place in
    record {
      inside = d.mode ∙ inside;
      schema = ap (λ (d : Database). d.schema) now ∙ is;
      empty = λ t h. elim h [
        | inl one ↦ ap (λ (t : Table). new.now.trees t.tree) one ∙ ap (λ (d : Database). d.trees table.tree) now
            ∙ subst (λ n. first.0.trees n ≡ []) tree made.empty
        | inr none ↦ absurd none
      ];
      others = λ t h. ap (λ (d : Database). d.trees t.tree) now
          ∙ all_has (λ (t : Table). first.0.trees t.tree ≡ old.now.trees t.tree) schema.tables t made.others h;
    }

pub made_each : (texts : List (List ℕ)) (tables : List Table) (from to : Schema) (a b : Stage)
    → MakeEach texts tables from to → RanEach texts a b → IsTrue a.in_transaction → a.now.schema ≡ from
    → Made from to tables a b
made_each [] [] from to a b each ran inside has = subst (Made from to [] a) ran (record {
  inside = inside;
  schema = has ∙ each;
  empty = λ t none. absurd none;
  others = λ t h. refl;
})
made_each [] (table ∷ tables) from to a b each ran inside has = absurd each
made_each (text ∷ texts) [] from to a b each ran inside has = absurd each
made_each (text ∷ texts) (table ∷ tables) from to a b each ran inside has =
    let one = table_made from text table a ran.0 each.0 ran.1 inside has in
    let rest = made_each texts tables (created from table) to ran.0 b each.1 ran.2 one.inside one.schema in
    made_then from (created from table) to (table ∷ []) tables a ran.0 b
    (ap (λ t. from.tables ++ t ∷ []) each.0.place) one rest
