-- The view that contracts have of a book over a database, and what the book keeps true.
use Rattle.std.specs.Prelude.{◌≡◌, ◌⊎◌, ℕ, Bool, false, List, [], Option, Some, IsSome, IsTrue, Result, OnOk, refl}
use Rattle.std.specs.Coded.{Coded, code_by, coded×, coded_ℕ, coded_bool}
use Rattle.std.specs.Ordering.{nat_cmp, is_eq}
use Rattle.std.specs.declared.cmp.Ordering.TheVariants.{Equal}
use Rattle.sqlite.specs.declared.types.Value.{Value}
use Rattle.sqlite.specs.Order.{Row, column, value_cmp}
use Rattle.sqlite.specs.Tree.{Trees, rowid}
use Rattle.sqlite_trees.specs.declared.store.Store.{Ghosts}
use Rattle.sqlite_trees.specs.View.{is_int}
use Rattle.sqlite_rules.specs.Lists.{Has}
use Rattle.sqlite.specs.State.{State, HasCleanDisk, Survives}
use Rattle.sqlite.specs.Held.{Held, held_code, state}
use Rattle.cpi_release.specs.State.{State as BookState}
use Rattle.cpi_release.specs.FrozenMonths.{release_cmp}
use Rattle.cpi_rows.specs.Held.{held_cmp, held_key}
use Rattle.cpi_survey.specs.Quote.{quote_cmp, quote_key}
use Rattle.cpi_store.specs.Office.{Office, Change, office_with, with_releases}
use Rattle.cpi_codes.specs.CodeOrder.{code_cmp}
use Rattle.cpi_index.specs.Series.{frozen_serial, carried_serial}
use Rattle.cpi_sql_rows.specs.Tables.{table_of_assignments_2, table_of_calendar, table_of_carried_2}
use Rattle.cpi_sql_rows.specs.Tables.{table_of_collectors, table_of_frozen_2, table_of_items, table_of_levels_2}
use Rattle.cpi_sql_rows.specs.Tables.{table_of_nodes, office_schema, table_of_outlets, table_of_plan_items}
use Rattle.cpi_sql_rows.specs.Tables.{table_of_plan_refs, table_of_quotes_2, table_of_releases_2}
use Rattle.cpi_sql_rows.specs.Lists.{office_in, collector_in, outlet_in, item_in, calendar_in, assignment_in_row}
use Rattle.cpi_sql_rows.specs.Lists.{quote_in, node_in, place_in_row, reference_month_in_row, header_in, header_key}
use Rattle.cpi_sql_rows.specs.Lists.{frozen_in}
use Rattle.cpi_sql_rows.specs.Lists.{carried_in_row, level_in_row, release_from_key}
use Rattle.cpi_sql_rows.specs.Frames.{SameBut, written_by}
unfoldable pub use Rattle.cpi_sql_rows.specs.WholeRows.{AllStand, IsKeyed}
use Rattle.cpi_sql_rows.specs.WholeRows.{AreWhole}
pub use Rattle.cpi_sql_rows.specs.WholeRows.{IsWhole, year_in}
use Rattle.cpi_sql_rows.specs.Making.{IsOfficeDatabase}

-- the view that contracts have of a book over a database
pub record Shelf (S : Type 0) : Type 0 where
  pub held : Held S
  -- whether the survey was read, which is kept from then on
  pub is_read : Bool
  -- whether the headers of the releases were read, which are kept until the next release
  pub has_headers : Bool
  pub failures : ℕ

-- its code
abbrev pub shelf_code : {S : Type 0} → Coded S → Coded (Shelf S)
shelf_code {S} store = code_by (Held S × (Bool × (Bool × ℕ)))
    (coded× (held_code store) (coded× coded_bool (coded× coded_bool coded_ℕ)))
    (λ b. (b.held, (b.is_read, (b.has_headers, b.failures))))
    (λ p. record { held = p.0; is_read = p.1.0; has_headers = p.1.1.0; failures = p.1.1.1 })
    (λ _. refl)

-- as SQL compares
abbrev pub equals : Value → Value → Bool
equals a b = is_eq (value_cmp a b)

-- the rowids are numbers, and no two rows have one
unfoldable pub HasRowids : List Row → Type 0
HasRowids rows = ((r : Row) → Has rows r → IsTrue (is_int (rowid r)))
    × ((r s : Row) → Has rows r → Has rows s → value_cmp (rowid r) (rowid s) ≡ Equal → r ≡ s)

-- each row of the holder with that number stands for something; its number is what the row says
unfoldable pub AllStandFor : {X : Type 0} → (Row → Option ℕ) → (Row → Option X) → ℕ → List Row → Type 0
AllStandFor holder entry number rows = (r : Row) → Has rows r → holder r ≡ Some number → IsSome (entry r)

-- the same of a release
abbrev pub AllStandOf : {X : Type 0} → (Row → Option X) → ℕ → List Row → Type 0
AllStandOf entry number rows = AllStandFor (λ r. release_from_key (column r 1) (column r 2)) entry number rows

-- the types take each row of a year's plan
pub record IsPlanTaken (year : ℕ) (trees : Trees) : Type 0 where
  pub nodes : AllStandFor (year_in 1) node_in year (trees table_of_nodes.tree)
  pub places : AllStandFor (year_in 1) place_in_row year (trees table_of_plan_items.tree)
  pub references : AllStandFor (year_in 0) reference_month_in_row year (trees table_of_plan_refs.tree)

-- the types take each row of each plan
abbrev pub ArePlansTaken : Trees → Type 0
ArePlansTaken trees = (year : ℕ) → IsPlanTaken year trees

-- the types take each row that the survey is read from
pub record AreTaken (trees : Trees) : Type 0 where
  pub whole : AreWhole trees
  pub plans : ArePlansTaken trees
  pub assignments : AllStand assignment_in_row (trees table_of_assignments_2.tree)
  pub quotes : AllStand quote_in (trees table_of_quotes_2.tree)

-- the tables of the plans
pub record HasPlans (trees : Trees) : Type 0 where
  pub node_ids : HasRowids (trees table_of_nodes.tree)
  pub place_ids : HasRowids (trees table_of_plan_items.tree)
  pub reference_ids : HasRowids (trees table_of_plan_refs.tree)
  pub nodes : IsKeyed (held_cmp code_cmp) (held_key (λ n. n.code)) node_in (trees table_of_nodes.tree)
  pub places : IsKeyed (held_cmp nat_cmp) (held_key (λ p. p.item)) place_in_row (trees table_of_plan_items.tree)
  pub references : IsKeyed (held_cmp nat_cmp) (held_key (λ m. m.month)) reference_month_in_row
      (trees table_of_plan_refs.tree)

-- the tables of the releases
pub record HasReleases (trees : Trees) : Type 0 where
  pub frozen_ids : HasRowids (trees table_of_frozen_2.tree)
  pub carried_ids : HasRowids (trees table_of_carried_2.tree)
  pub level_ids : HasRowids (trees table_of_levels_2.tree)
  pub releases : IsKeyed release_cmp header_key header_in (trees table_of_releases_2.tree)
  pub frozen : IsKeyed (held_cmp nat_cmp) (held_key frozen_serial) frozen_in (trees table_of_frozen_2.tree)
  pub carried : IsKeyed (held_cmp nat_cmp) (held_key carried_serial) carried_in_row (trees table_of_carried_2.tree)
  pub levels : IsKeyed (held_cmp code_cmp) (held_key (λ l. l.code)) level_in_row (trees table_of_levels_2.tree)

-- the tables of the office
pub record HasTables (s : State) : Type 0 where
  pub schema : s.now.schema ≡ office_schema
  pub alone : s.in_transaction ≡ false
  pub office : IsOfficeDatabase s.now.trees
  pub rowids : HasRowids (s.now.trees table_of_quotes_2.tree)
  pub days : HasRowids (s.now.trees table_of_calendar.tree)
  pub assignment_ids : HasRowids (s.now.trees table_of_assignments_2.tree)
  pub collectors : IsKeyed nat_cmp (λ b. b.number) collector_in (s.now.trees table_of_collectors.tree)
  pub outlets : IsKeyed nat_cmp (λ u. u.number) outlet_in (s.now.trees table_of_outlets.tree)
  pub items : IsKeyed nat_cmp (λ i. i.code) item_in (s.now.trees table_of_items.tree)
  pub calendar : IsKeyed nat_cmp (λ r. r.month) calendar_in (s.now.trees table_of_calendar.tree)
  pub assignments : IsKeyed (held_cmp nat_cmp) (held_key (λ g. g.assignment.slot)) assignment_in_row
      (s.now.trees table_of_assignments_2.tree)
  pub quotes : IsKeyed (held_cmp quote_cmp) (held_key quote_key) quote_in (s.now.trees table_of_quotes_2.tree)
  pub plans : HasPlans s.now.trees
  pub releases : HasReleases s.now.trees

-- the disk returned what was written, and no failure shut the connection
pub record IsCleanBook (s : State) : Type 0 where
  pub disk : HasCleanDisk s
  pub is_open : IsTrue s.is_open

-- the rows are as they were, and no transaction is open
pub record IsKept (old new : State) : Type 0 where
  pub now : new.now ≡ old.now
  pub alone : new.in_transaction ≡ false

-- nothing has changed, and a crash leaves what it left before
pub record IsLook (old new : State) : Type 0 where
  pub clean : IsCleanBook new → IsCleanBook old
  pub kept : IsCleanBook new → HasTables old → IsKept old new
  pub crash : Survives old new (λ _. IsCleanBook old → HasTables old → ⊥)

-- a connection that was open is open, unless the disk fell
abbrev pub StaysOpen : State → State → Type 0
StaysOpen old new = HasCleanDisk new → IsTrue old.is_open → IsTrue new.is_open

-- the state that a read of the tables leaves, and a fact about the connection
pub record Looked (old new : State) (Open : Type 0) : Type 0 where
  pub still : IsLook old new
  pub stays : Open

-- the state that a read of the tables leaves: if it is answered, the connection stays open
abbrev pub Looks : {A E : Type 0} → State → State → Result A E → Type 0
Looks old new result = Looked old new (OnOk result (StaysOpen old new))

-- each row was there, or stands for something
unfoldable pub Takes : {X : Type 0} → (Row → Option X) → List Row → List Row → Type 0
Takes entry old new = (r : Row) → Has new r → Has old r ⊎ IsSome (entry r)

-- the types take each row that a write puts
pub record WritesTaken (old new : Trees) : Type 0 where
  pub collectors : Takes collector_in (old table_of_collectors.tree) (new table_of_collectors.tree)
  pub outlets : Takes outlet_in (old table_of_outlets.tree) (new table_of_outlets.tree)
  pub items : Takes item_in (old table_of_items.tree) (new table_of_items.tree)
  pub nodes : Takes node_in (old table_of_nodes.tree) (new table_of_nodes.tree)
  pub places : Takes place_in_row (old table_of_plan_items.tree) (new table_of_plan_items.tree)
  pub references : Takes reference_month_in_row (old table_of_plan_refs.tree) (new table_of_plan_refs.tree)
  pub calendar : Takes calendar_in (old table_of_calendar.tree) (new table_of_calendar.tree)
  pub assignments : Takes assignment_in_row (old table_of_assignments_2.tree) (new table_of_assignments_2.tree)
  pub quotes : Takes quote_in (old table_of_quotes_2.tree) (new table_of_quotes_2.tree)
  pub headers : Takes header_in (old table_of_releases_2.tree) (new table_of_releases_2.tree)
  pub frozen : Takes frozen_in (old table_of_frozen_2.tree) (new table_of_frozen_2.tree)
  pub carried : Takes carried_in_row (old table_of_carried_2.tree) (new table_of_carried_2.tree)
  pub levels : Takes level_in_row (old table_of_levels_2.tree) (new table_of_levels_2.tree)

-- the tables after a change: the office has it, the types take each row that is put, and each table that the change
-- doesn't write is as it was
pub record IsChangedBy (change : Change) (old new : Trees) : Type 0 where
  pub office : office_in new ≡ office_with change (office_in old)
  pub rows : WritesTaken old new
  pub others : SameBut (written_by change) old new

-- the change is made
pub record IsDone (change : Change) (old new : State) : Type 0 where
  pub tables : HasTables new
  pub made : IsChangedBy change old.now.trees new.now.trees

-- an office without its releases
abbrev pub survey_of : Office → Office
survey_of office = with_releases [] office

-- the survey that the tables hold, made of rows that the types take
pub record IsSurveyOf (trees : Trees) (survey : Office) : Type 0 where
  pub read : survey ≡ survey_of (office_in trees)
  pub taken : AreTaken trees

-- the office that an open of the database finds; of one that isn't an office's nothing is known, so it may be any
abbrev pub MayOpenAs : Trees → Office → Type 0
MayOpenAs db office = IsOfficeDatabase db → office ≡ office_in db

-- the office that the tables of a database hold, as a book over it shows that
abbrev pub office_state : State → ℕ → BookState Office
office_state s failures = record {
  held = office_in s.now.trees;
  failures = failures;
  is_kept = HasCleanDisk s;
  is_clean = IsCleanBook s;
  clean_is_kept = λ clean. clean.disk;
  may_leave = λ office. (db : Trees) × s.may_leave db × MayOpenAs db office;
}

-- the same of a book
abbrev pub book_state : {S : Type 0} → Ghosts S → Shelf S → BookState Office
book_state store b = office_state (state store b.held) b.failures
