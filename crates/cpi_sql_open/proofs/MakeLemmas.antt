-- Tables that hold nothing.
use Rattle.std.proofs.Common.{◌≡◌, ℕ, true, false, List, [], ◌∷◌, IsTrue, arith, refl, sym, subst, ◌∙◌}
use Rattle.std.proofs.lemmas.Bool.{and_parts}
use Rattle.std.specs.Ordering.{nat_cmp}
use Rattle.sqlite.specs.Schema.{Schema}
use Rattle.sqlite.specs.Table.{Table}
use Rattle.sqlite.specs.Tree.{Trees}
use Rattle.sqlite.specs.State.{State, Survives, HasCleanDisk}
use Rattle.sqlite.proofs.StateLemmas.{survives_then}
use Rattle.cpi_sql_rows.specs.Steps.{is_beside}
use Rattle.cpi_sql_rows.specs.Tables.{first_tables, first_schema, office_schema}
use Rattle.cpi_sql_rows.specs.Making.{HoldsNothing, IsBlank, IsNewDatabase, IsOfficeDatabase, no_schema, second_tables}
use Rattle.cpi_sql_rows.specs.Lists.{plans_of, years, releases_in}
use Rattle.cpi_sql_rows.specs.Lists.{collector_in, outlet_in, item_in, calendar_in}
use Rattle.cpi_sql_rows.specs.Finding.{AreWhole, HavePlanYears}
use Rattle.cpi_sql_rows.specs.Shelf.{AllStand, HasRowids, HasTables, IsKeyed, IsWhole}
use Rattle.cpi_sql_rows.specs.Texts.{put_version_text}
use Rattle.cpi_sql_rows.proofs.Found.{none_whole}
use Rattle.cpi_sql_open.specs.Making.{MakeEach}
use Rattle.cpi_sql_open.specs.Stages.{RanAtStage, RanEach, Stage, stage_of}
use Rattle.cpi_sql_open.proofs.CopiedRows.{no_rowids}
use Rattle.cpi_sql_open.proofs.Frames.{at_tree}
use Rattle.cpi_sql_open.proofs.Numbered.{all_there, version_put}
use Rattle.cpi_sql_open.proofs.Making.{Made, first_make, made_each, made_then, second_make}
use Rattle.cpi_sql_open.proofs.Making.{first_texts, second_texts}

-- ---- the tables of an office are made, and their number is put

blank_made : (a b : Stage) (new : State) → Made no_schema office_schema office_schema.tables a b
    → RanAtStage put_version_text b (stage_of new) → IsBlank new
blank_made a b new m ran =
    let empty = at_tree (λ n. b.now.trees n ≡ []) office_schema.tables m.empty in
    let put = version_put b (stage_of new) ran m.inside m.schema (empty 0 refl) in
    let none = λ (n : ℕ) (other : is_beside (0 ∷ []) n ≡ true).
    put.left.others n other ∙ empty n (and_parts _ _ other).0 in
    record {
      schema = put.left.schema;
      tables = all_there new.now.trees put.sound;
      version = put.version;
      collectors = none 1 refl;
      outlets = none 3 refl;
      items = none 4 refl;
      nodes = none 6 refl;
      places = none 8 refl;
      calendar = none 10 refl;
      assignments = none 22 refl;
      quotes = none 24 refl;
      releases = none 26 refl;
      frozen = none 28 refl;
      carried = none 30 refl;
      levels = none 32 refl;
      references = none 34 refl;
    }

pub all_blank : (a b c : Stage) (new : State) → RanEach first_texts a b
    → RanEach second_texts b c → RanEach (put_version_text ∷ []) c (stage_of new)
    → IsTrue a.in_transaction → a.now.schema ≡ no_schema → IsBlank new
all_blank a b c new first second last inside none =
    let one = made_each first_texts first_tables no_schema first_schema a b first_make first inside none in
    let two = made_each second_texts second_tables first_schema office_schema b c second_make second one.inside
    one.schema in
    let all = made_then no_schema first_schema office_schema first_tables second_tables a b c refl one two in
    blank_made a c new all (subst (RanAtStage put_version_text c) last.2 last.1)

-- those of schema 1, and those after them
pub some_made : (more : List (List ℕ)) (tables : List Table) (to : Schema) (a b c : Stage) → RanEach first_texts a b
    → RanEach more b c → IsTrue a.in_transaction → a.now.schema ≡ no_schema → MakeEach more tables first_schema to
    → c.now.schema ≡ to
some_made more tables to a b c first second inside none each =
    let one = made_each first_texts first_tables no_schema first_schema a b first_make first inside none in
    (made_each more tables first_schema to b c each second one.inside one.schema).schema

-- ---- what is blank

pub blank_whole : (s : State) → IsBlank s → AreWhole s.now.trees
blank_whole s b = record {
  collectors = subst (IsWhole nat_cmp (λ b. b.number) collector_in) (sym b.collectors) (none_whole nat_cmp _ _);
  outlets = subst (IsWhole nat_cmp (λ u. u.number) outlet_in) (sym b.outlets) (none_whole nat_cmp _ _);
  items = subst (IsWhole nat_cmp (λ i. i.code) item_in) (sym b.items) (none_whole nat_cmp _ _);
  calendar = subst (IsWhole nat_cmp (λ r. r.month) calendar_in) (sym b.calendar) (none_whole nat_cmp _ _);
}

pub blank_years : (s : State) → IsBlank s → HavePlanYears s.now.trees
unfolding AllStand
blank_years s b = record {
  nodes = rw b.nodes (λ r h. absurd h);
  places = rw b.places (λ r h. absurd h);
  references = rw b.references (λ r h. absurd h);
}

pub blank_database : (s : State) → IsBlank s → IsOfficeDatabase s.now.trees
blank_database s b =
    record { tables = b.tables; version = b.version; whole = blank_whole s b; years = blank_years s b }

pub blank_tables : (s : State) → IsBlank s → s.in_transaction ≡ false → HasTables s
unfolding IsKeyed
blank_tables s b alone = record {
  schema = b.schema;
  alone = alone;
  office = blank_database s b;
  rowids = subst HasRowids (sym b.quotes) no_rowids;
  days = subst HasRowids (sym b.calendar) no_rowids;
  assignment_ids = subst HasRowids (sym b.assignments) no_rowids;
  collectors = rw b.collectors (λ r t x y hr ht er et same. absurd hr);
  outlets = rw b.outlets (λ r t x y hr ht er et same. absurd hr);
  items = rw b.items (λ r t x y hr ht er et same. absurd hr);
  calendar = rw b.calendar (λ r t x y hr ht er et same. absurd hr);
  assignments = rw b.assignments (λ r t x y hr ht er et same. absurd hr);
  quotes = rw b.quotes (λ r t x y hr ht er et same. absurd hr);
  plans = record {
    node_ids = subst HasRowids (sym b.nodes) no_rowids;
    place_ids = subst HasRowids (sym b.places) no_rowids;
    reference_ids = subst HasRowids (sym b.references) no_rowids;
    nodes = rw b.nodes (λ r t x y hr ht er et same. absurd hr);
    places = rw b.places (λ r t x y hr ht er et same. absurd hr);
    references = rw b.references (λ r t x y hr ht er et same. absurd hr);
  };
  releases = record {
    frozen_ids = subst HasRowids (sym b.frozen) no_rowids;
    carried_ids = subst HasRowids (sym b.carried) no_rowids;
    level_ids = subst HasRowids (sym b.levels) no_rowids;
    releases = rw b.releases (λ r t x y hr ht er et same. absurd hr);
    frozen = rw b.frozen (λ r t x y hr ht er et same. absurd hr);
    carried = rw b.carried (λ r t x y hr ht er et same. absurd hr);
    levels = rw b.levels (λ r t x y hr ht er et same. absurd hr);
  };
}

no_plans : (ys : List ℕ) → plans_of ys [] [] [] ≡ []
no_plans [] = refl
no_plans (y ∷ ys) = no_plans ys

no_releases : (trees : Trees) → trees 26 ≡ [] → releases_in trees ≡ []
unfolding releases_in
no_releases trees none = rw none refl

pub blank_office : (s : State) → IsBlank s → HoldsNothing s.now.trees
unfolding HoldsNothing
blank_office s b = rw (
  no_releases s.now.trees b.releases,
  b.collectors,
  b.outlets,
  b.items,
  b.calendar,
  b.assignments,
  b.quotes,
  b.nodes,
  b.places,
  b.references,
  no_plans (years 200),
) refl

-- what a crash may leave of a making
pub made_survives : (a b c : State) → Survives a b (λ _. ⊥) → (HasCleanDisk b → a.now.schema ≡ no_schema → IsBlank b)
    → Survives b c (λ db. db ≡ b.now.trees) → Survives a c (λ db. a.now.schema ≡ no_schema → IsNewDatabase db)
made_survives a b c one made two =
    survives_then a b c _ _ _ (λ _ db no. absurd no)
    (λ clean db is none. let disk : HasCleanDisk b = omega (arith, two.clean) in
    let blank = made disk none in
    subst IsNewDatabase (sym is) (record { database = blank_database b blank; office = blank_office b blank })) one two

pub unmade_survives : (a b c : State) → Survives a b (λ _. ⊥) → Survives b c (λ _. ⊥)
    → Survives a c (λ db. a.now.schema ≡ no_schema → IsNewDatabase db)
unmade_survives a b c one two = survives_then a b c _ _ _ (λ _ db no. absurd no) (λ _ db no. absurd no) one two
