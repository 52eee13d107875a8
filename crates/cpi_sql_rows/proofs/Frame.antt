-- What a write of some tables makes of the office: each other table is as it was.
use Rattle.std.proofs.Common.{◌≡◌, ℕ, ◌==◌, true, false, List, [], ◌∷◌, Option, Some, None, IsSome, map, not}
use Rattle.std.proofs.Common.{inl, inr, refl, sym, ap, subst, ◌∙◌}
use Rattle.std.specs.Prelude.{if◌then◌else◌}
use Rattle.std.specs.Ordering.{nat_cmp}
use Rattle.std.specs.Cmp.{IsTotalOrder}
use Rattle.std.specs.declared.cmp.Ordering.{Ordering}
use Rattle.std.specs.List.{AllByRecursion, list_all, list_any}
use Rattle.std.proofs.lemmas.Bool.{cases_Bool}
use Rattle.std.proofs.lemmas.Bool.Decides.{eqb_tells}
use Rattle.sqlite.specs.Order.{Row}
use Rattle.sqlite.specs.Table.{Table}
use Rattle.sqlite.specs.Tree.{Trees}
use Rattle.sqlite.specs.State.{State}
use Rattle.cpi_codes.specs.CodeOrder.{code_cmp}
use Rattle.cpi_rows.specs.Held.{held_cmp, held_key}
use Rattle.cpi_survey.specs.Quote.{quote_cmp, quote_key}
use Rattle.cpi_index.specs.Series.{frozen_serial, carried_serial}
use Rattle.cpi_release.specs.FrozenMonths.{release_cmp}
use Rattle.sqlite.specs.Effect.{Database, IsDatabase}
use Rattle.sqlite_catalog.specs.Listing.{IsSound}
use Rattle.cpi_store.specs.Office.{Change, PutsItem, PutsPlan, PutsCalendar, Registers, PutsOutlet, Assigns, HandsOver}
use Rattle.cpi_store.specs.Office.{Quotes as PutsQuote, Freezes, office_with}
use Rattle.cpi_sql_rows.specs.Tables.{office_schema, table_of_version}
use Rattle.cpi_sql_rows.specs.Making.{HasAllTables}
use Rattle.cpi_sql_rows.specs.Numbered.{IsVersion}
use Rattle.cpi_sql_rows.specs.Lists.{office_in, collector_in, outlet_in, item_in, calendar_in, assignment_in_row}
use Rattle.cpi_sql_rows.specs.Lists.{quote_in}
use Rattle.cpi_sql_rows.specs.Lists.{node_in, place_in_row, reference_month_in_row, header_in, header_key, frozen_in}
use Rattle.cpi_sql_rows.specs.Lists.{carried_in_row}
use Rattle.cpi_sql_rows.specs.Lists.{and_then, level_in_row}
use Rattle.cpi_sql_rows.specs.Shelf.{AllStand, HasRowids, HasTables, IsDone, IsKeyed, IsWhole, Takes, WritesTaken}
use Rattle.cpi_sql_rows.specs.Frames.{SameBut, is_beside, written_by}
use Rattle.cpi_sql_rows.specs.WholeRows.{AreOfYears, year_in}
use Rattle.cpi_sql_rows.proofs.Listed.{PutsRow, still_keyed}

-- the tables of the office, by what their rows are
pub data OfficeTable : Type 0 where
  Collectors : OfficeTable
  Outlets : OfficeTable
  Items : OfficeTable
  Nodes : OfficeTable
  Places : OfficeTable
  References : OfficeTable
  Calendar : OfficeTable
  Assignments : OfficeTable
  Quotes : OfficeTable
  Headers : OfficeTable
  Frozen : OfficeTable
  Carried : OfficeTable
  Levels : OfficeTable

abbrev pub tree_of : OfficeTable → ℕ
tree_of Collectors = 1
tree_of Outlets = 3
tree_of Items = 4
tree_of Nodes = 6
tree_of Places = 8
tree_of References = 34
tree_of Calendar = 10
tree_of Assignments = 22
tree_of Quotes = 24
tree_of Headers = 26
tree_of Frozen = 28
tree_of Carried = 30
tree_of Levels = 32

-- rows with one key each have so after it, and the types take what is put
pub record Writes {X K : Type 0} (cmp : K → K → Ordering) (key : X → K) (entry : Row → Option X) (old new : List Row)
    : Type 0 where
  pub keyed : IsKeyed cmp key entry old → IsKeyed cmp key entry new
  pub takes : Takes entry old new

-- rowids that are right are right after it
pub record WritesIds {X K : Type 0} (cmp : K → K → Ordering) (key : X → K) (entry : Row → Option X)
    (old new : List Row) : Type 0 where
  pub rows : Writes cmp key entry old new
  pub rowids : HasRowids old → HasRowids new

-- what a write of one table's rows comes to
abbrev pub Written : OfficeTable → List Row → List Row → Type 0
Written Collectors = Writes nat_cmp (λ b. b.number) collector_in
Written Outlets = Writes nat_cmp (λ u. u.number) outlet_in
Written Items = Writes nat_cmp (λ i. i.code) item_in
Written Nodes = WritesIds (held_cmp code_cmp) (held_key (λ n. n.code)) node_in
Written Places = WritesIds (held_cmp nat_cmp) (held_key (λ p. p.item)) place_in_row
Written References = WritesIds (held_cmp nat_cmp) (held_key (λ m. m.month)) reference_month_in_row
Written Calendar = WritesIds nat_cmp (λ r. r.month) calendar_in
Written Assignments = WritesIds (held_cmp nat_cmp) (held_key (λ g. g.assignment.slot)) assignment_in_row
Written Quotes = WritesIds (held_cmp quote_cmp) (held_key quote_key) quote_in
Written Headers = Writes release_cmp header_key header_in
Written Frozen = WritesIds (held_cmp nat_cmp) (held_key frozen_serial) frozen_in
Written Carried = WritesIds (held_cmp nat_cmp) (held_key carried_serial) carried_in_row
Written Levels = WritesIds (held_cmp code_cmp) (held_key (λ l. l.code)) level_in_row

-- one row that is put
pub row_written : {X K : Type 0} {R : K → K → Ordering} (o : IsTotalOrder R) (key : X → K) (entry : Row → Option X)
    (x : X) (old new : List Row) → PutsRow o key entry x old new → Writes R key entry old new
row_written o key entry x old new puts =
    record { keyed = λ k. still_keyed o key entry x old new k puts; takes = puts.takes }

-- ---- a table that is left

module _ {X K : Type 0} {cmp : K → K → Ordering} {key : X → K} {entry : Row → Option X} (rows : List Row) where
  still : Writes cmp key entry rows rows
  unfolding Takes
  still = record { keyed = λ k. k; takes = λ r h. inl h }

  still_ids : WritesIds cmp key entry rows rows
  still_ids = record { rows = still; rowids = λ h. h }

left : (t : OfficeTable) (rows : List Row) → Written t rows rows
left Collectors rows = still rows
left Outlets rows = still rows
left Items rows = still rows
left Nodes rows = still_ids rows
left Places rows = still_ids rows
left References rows = still_ids rows
left Calendar rows = still_ids rows
left Assignments rows = still_ids rows
left Quotes rows = still_ids rows
left Headers rows = still rows
left Frozen rows = still_ids rows
left Carried rows = still_ids rows
left Levels rows = still_ids rows

-- ---- a table is known by its tree

abbrev all_tables : List OfficeTable
all_tables =
    Collectors ∷ Outlets ∷ Items ∷ Nodes ∷ Places ∷ References ∷ Calendar ∷ Assignments ∷ Quotes ∷ Headers ∷ Frozen
    ∷ Carried ∷ Levels ∷ []

find : ℕ → List OfficeTable → Option OfficeTable
find n [] = None
find n (t ∷ tables) = if tree_of t == n then Some t else find n tables

found : (t : OfficeTable) → (find (tree_of t) all_tables ≡ Some t)
    × (list_any (λ (it : Table). it.tree == tree_of t) office_schema.tables ≡ true)
unfolding find
found Collectors = (refl, refl)
found Outlets = (refl, refl)
found Items = (refl, refl)
found Nodes = (refl, refl)
found Places = (refl, refl)
found References = (refl, refl)
found Calendar = (refl, refl)
found Assignments = (refl, refl)
found Quotes = (refl, refl)
found Headers = (refl, refl)
found Frozen = (refl, refl)
found Carried = (refl, refl)
found Levels = (refl, refl)

one_table : (t u : OfficeTable) → tree_of t ≡ tree_of u → t ≡ u
one_table t u e =
    let both : Some t ≡ Some u = sym (found t).0 ∙ ap (λ n. find n all_tables) e ∙ (found u).0 in
    cc

-- ---- all tables

module _ (tables : List OfficeTable) (old new : Trees) (others : SameBut (map tree_of tables) old new)
    (written : AllByRecursion (λ t. Written t (old (tree_of t)) (new (tree_of t))) tables) where
  abbrev Of : OfficeTable → Type 0
  Of t = Written t (old (tree_of t)) (new (tree_of t))

  one_of : (t : OfficeTable) (us : List OfficeTable) → list_all (λ n. not (n == tree_of t)) (map tree_of us) ≡ false
      → AllByRecursion Of us → Of t
  one_of t [] e all = absurd (let no : true ≡ false = e in cc)
  one_of t (u ∷ us) e all = elim (eqb_tells (tree_of u) (tree_of t)) [
    | inl same ↦ subst Of (one_table u t same.1) all.0
    | inr other ↦ one_of t us (rw other.0 at e) all.1
  ]

  each : (t : OfficeTable) → Of t
  each t = elim (cases_Bool (is_beside (map tree_of tables) (tree_of t))) [
    | inl beside ↦ subst (Written t (old (tree_of t))) (sym (others (tree_of t) beside)) (left t (old (tree_of t)))
    | inr among ↦ one_of t tables (rw (found t).1 at among) written
  ]

  rows_taken : WritesTaken old new
  rows_taken = record {
    collectors = (each Collectors).takes;
    outlets = (each Outlets).takes;
    items = (each Items).takes;
    nodes = (each Nodes).rows.takes;
    places = (each Places).rows.takes;
    references = (each References).rows.takes;
    calendar = (each Calendar).rows.takes;
    assignments = (each Assignments).rows.takes;
    quotes = (each Quotes).rows.takes;
    headers = (each Headers).takes;
    frozen = (each Frozen).rows.takes;
    carried = (each Carried).rows.takes;
    levels = (each Levels).rows.takes;
  }

-- no change writes the number of the schema
spares_number : (change : Change) → is_beside (written_by change) table_of_version.tree ≡ true
spares_number (PutsItem i) = refl
spares_number (PutsPlan p) = refl
spares_number (PutsCalendar r) = refl
spares_number (Registers b) = refl
spares_number (PutsOutlet u) = refl
spares_number (Assigns b a) = refl
spares_number (HandsOver h) = refl
spares_number (PutsQuote b q) = refl
spares_number (Freezes r) = refl

-- a table that is whole is so once its rows are written
still_whole : {X K : Type 0} {cmp : K → K → Ordering} {key : X → K} {entry : Row → Option X} (old new : List Row)
    → Writes cmp key entry old new → IsWhole cmp key entry old → IsWhole cmp key entry new
unfolding AllStand Takes
still_whole old new written was = record {
  keyed = written.keyed was.keyed;
  stand = λ r h. elim (written.takes r h) [ inl there ↦ was.stand r there | inr stands ↦ stands ];
}

-- rows of plans that are of years which an office can have still are once rows are put that stand for something
still_years : {X : Type 0} (entry : Row → Option X) (place : ℕ)
    → ((r : Row) → IsSome (entry r) → IsSome (year_in place r)) → (old new : List Row) → Takes entry old new
    → AreOfYears place old → AreOfYears place new
unfolding AllStand Takes
still_years entry place of_year old new takes was r h =
    elim (takes r h) [ inl there ↦ was r there | inr stands ↦ of_year r stands ]

-- what stands for something has its year first
has_first : {A B : Type 0} (a : Option A) (f : A → Option B) → IsSome (and_then a f) → IsSome a
has_first None f h = h
has_first (Some a) f h = refl

-- the database has the office's schema, and obeys it
pub all_tables_of : (db : Database) → db.schema ≡ office_schema → IsDatabase db → HasAllTables db.trees
unfolding HasAllTables
all_tables_of db has sound = subst (λ s. IsSound s db.trees) has sound

-- what is done if these tables are written, and no others
pub table_written : (tables : List OfficeTable) (change : Change) (old new : State)
    → written_by change ≡ map tree_of tables → new.now.schema ≡ office_schema → new.in_transaction ≡ false
    → HasAllTables new.now.trees → SameBut (map tree_of tables) old.now.trees new.now.trees
    → AllByRecursion (λ t. Written t (old.now.trees (tree_of t)) (new.now.trees (tree_of t))) tables
    → office_in new.now.trees ≡ office_with change (office_in old.now.trees) → HasTables old → IsDone change old new
table_written tables change old new writes schema alone all others written office has =
    let it = each tables old.now.trees new.now.trees others written in
    let spared : SameBut (written_by change) old.now.trees new.now.trees =
    subst (λ trees. SameBut trees old.now.trees new.now.trees) (sym writes) others in
    let was = has.office in
    record {
      tables = record {
        schema = schema;
        alone = alone;
        office = record {
          tables = all;
          version = subst (IsVersion 2) (sym (spared table_of_version.tree (spares_number change)))
              was.version;
          whole = record {
            collectors = still_whole _ _ (it Collectors) was.whole.collectors;
            outlets = still_whole _ _ (it Outlets) was.whole.outlets;
            items = still_whole _ _ (it Items) was.whole.items;
            calendar = still_whole _ _ (it Calendar).rows was.whole.calendar;
          };
          years = record {
            nodes = still_years node_in 1 (λ r. has_first _ _) _ _ (it Nodes).rows.takes was.years.nodes;
            places = still_years place_in_row 1 (λ r. has_first _ _) _ _ (it Places).rows.takes was.years.places;
            references = still_years reference_month_in_row 0 (λ r. has_first _ _) _ _ (it References).rows.takes
                was.years.references;
          };
        };
        rowids = (it Quotes).rowids has.rowids;
        days = (it Calendar).rowids has.days;
        assignment_ids = (it Assignments).rowids has.assignment_ids;
        collectors = (it Collectors).keyed has.collectors;
        outlets = (it Outlets).keyed has.outlets;
        items = (it Items).keyed has.items;
        calendar = (it Calendar).rows.keyed has.calendar;
        assignments = (it Assignments).rows.keyed has.assignments;
        quotes = (it Quotes).rows.keyed has.quotes;
        plans = record {
          node_ids = (it Nodes).rowids has.plans.node_ids;
          place_ids = (it Places).rowids has.plans.place_ids;
          reference_ids = (it References).rowids has.plans.reference_ids;
          nodes = (it Nodes).rows.keyed has.plans.nodes;
          places = (it Places).rows.keyed has.plans.places;
          references = (it References).rows.keyed has.plans.references;
        };
        releases = record {
          frozen_ids = (it Frozen).rowids has.releases.frozen_ids;
          carried_ids = (it Carried).rowids has.releases.carried_ids;
          level_ids = (it Levels).rowids has.releases.level_ids;
          releases = (it Headers).keyed has.releases.releases;
          frozen = (it Frozen).rows.keyed has.releases.frozen;
          carried = (it Carried).rows.keyed has.releases.carried;
          levels = (it Levels).rows.keyed has.releases.levels;
        };
      };
      made = record {
        office = office;
        rows = rows_taken tables old.now.trees new.now.trees others written;
        others = spared;
      };
    }
