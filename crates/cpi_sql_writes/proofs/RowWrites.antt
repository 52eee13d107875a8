-- The statements that write one row, by their texts, as changes of the office.
use Rattle.std.proofs.Common.{◌≡◌, ℕ, pos, List, [], ◌∷◌, Some, None, Result, refl, ap}
use Rattle.std.specs.Prelude.{⊤}
use Rattle.std.specs.Ordering.{nat_cmp}
use Rattle.std.proofs.lemmas.Cmp.{nat_cmp_total}
use Rattle.sqlite.specs.declared.types.Value.{Value}
use Rattle.sqlite.specs.declared.types.Value.TheVariants.{Null, Int, Text}
use Rattle.sqlite.specs.Edit.{next_rowid}
use Rattle.sqlite.specs.Order.{Row}
use Rattle.sqlite.specs.Source.TheVariants.{Values}
use Rattle.sqlite.specs.State.{State}
use Rattle.sqlite.specs.Term.{col, lit}
use Rattle.sqlite.specs.Tree.{Trees}
use Rattle.cpi_plan.specs.Calendar.{CalendarPart}
use Rattle.cpi_plan.specs.declared.items.Item.{Item}
use Rattle.cpi_rows.specs.Held.{held_key}
use Rattle.cpi_rows.specs.Keyed.{row_by_number}
use Rattle.cpi_survey.specs.Quote.{QuoteRow, quote_key}
use Rattle.cpi_survey.specs.declared.assignment.Assigned.{Assigned}
use Rattle.cpi_store.specs.declared.registration.Registration.{Registration}
use Rattle.cpi_store.specs.declared.outlet.Outlet.{Outlet}
use Rattle.cpi_store.specs.Office.{Assigns, PutsCalendar, PutsItem, PutsOutlet, Quotes, Registers}
use Rattle.cpi_store.specs.Series.{first_of_series}
use Rattle.cpi_sql_rows.specs.Shelf.{HasRowids}
use Rattle.cpi_sql_rows.specs.Tables.{table_of_collectors, table_of_items, table_of_outlets}
use Rattle.cpi_sql_rows.specs.Texts.{given_pair, put_assignment_text, put_calendar_text, put_collector_text}
use Rattle.cpi_sql_rows.specs.Texts.{put_item_text, put_outlet_text, put_quote_text}
use Rattle.cpi_sql_rows.specs.Lists.{assignment_in_row, registration_from, calendar_in, collector_in, item_in}
use Rattle.cpi_sql_rows.specs.Lists.{item_of_values, office_in}
use Rattle.cpi_sql_rows.specs.Lists.{outlet_from, outlet_in, quote_in, releases_in}
use Rattle.cpi_sql_rows.proofs.Frame as tables
use Rattle.cpi_sql_rows.proofs.Frame.{Assignments, Calendar, Collectors, Items, Outlets, all_tables_of}
use Rattle.cpi_sql_rows.proofs.Inserting.{inserted, none_apart}
use Rattle.cpi_survey.proofs.Latest.{quote_order}
use Rattle.cpi_sql_rows.proofs.Lists.{held_total}
use Rattle.cpi_sql_rows.proofs.QuoteOffice.{quote_puts}
use Rattle.cpi_sql_rows.proofs.QuoteRows.{quote_columns, quote_places, quote_put}
use Rattle.cpi_sql_rows.proofs.TableRows.{AddsRow, adds_one}
use Rattle.cpi_sql_rows.proofs.Texts.{put_collector_is, put_item_is, put_outlet_is}
use Rattle.cpi_sql_rows.proofs.Upserts.{IsPutOver}
use Rattle.cpi_sql_rows.proofs.Writing.{cast_int, cast_null}
use Rattle.cpi_sql_writes.specs.GivenColumns.{IsNumberFree, columns_of, given_of}
use Rattle.cpi_sql_writes.specs.Within.{RunsAlone}
use Rattle.cpi_sql_writes.specs.Written.{Written}
use Rattle.cpi_sql_writes.specs.declared.given_columns.GivenColumns.{GivenColumns}
use Rattle.cpi_sql_writes.proofs.Kept.{all_kept, quote_kept}
use Rattle.cpi_sql_writes.proofs.Alone.{alone_written}
use Rattle.cpi_sql_writes.proofs.Beside.{row_done}
use Rattle.cpi_sql_writes.proofs.CalendarOffice.{day_kept, day_key, day_puts}
use Rattle.cpi_sql_writes.proofs.CalendarRows.{calendar_places, day_behind, day_columns, day_put}
use Rattle.cpi_sql_writes.proofs.SlotOffice.{Added, added_puts, row_made, slot_key}

-- a row that has its number as its rowid, and a text
abbrev numbered : ℕ → List ℕ → Row
numbered n t = Int (pos n) ∷ Null ∷ Text t ∷ []

-- the columns of an item
abbrev item_columns : (c t u : List ℕ) (l h : ℕ) → Row
item_columns c t u l h = Text c ∷ Text t ∷ Text u ∷ Int (pos l) ∷ Int (pos h) ∷ []

abbrev item_row : (c t u : List ℕ) (l h : ℕ) → Trees → Row
item_row c t u l h db = Int (next_rowid (db 4)) ∷ item_columns c t u l h

module _ {A E : Type 0} (old new : State) (result : Result A E) where
  pub collector_written : (b : Registration) (n : ℕ) (k : List ℕ) → registration_from (Int (pos n)) (Text k) ≡ Some b
      → RunsAlone put_collector_text (Int (pos n) ∷ Text k ∷ []) old new result
      → Written (Registers b) (λ o. row_by_number (λ (b : Registration). b.number) b.number o.collectors ≡ None)
      old new result
  unfolding releases_in
  collector_written b n k is =
      let key : Registration → ℕ = λ b. b.number in
      alone_written put_collector_text (Int (pos n) ∷ Text k ∷ []) (AddsRow 1 (numbered n k))
      (adds_one table_of_collectors 1 refl (Int (pos n) ∷ Text k ∷ []) (Values given_pair 3) (numbered n k)
      (λ db. numbered n k) (λ limit db rows h. h.1) (λ db. simp (cast_null, cast_int)) put_collector_text
      put_collector_is) (Registers b) (λ o. row_by_number key b.number o.collectors ≡ None)
      (λ a s has free made alone sound.
      row_done (Registers b) a s has made.schema alone (all_tables_of s.now made.schema sound) Collectors refl
      made.others nat_cmp_total key collector_in b has.collectors (inserted nat_cmp_total key collector_in b _ _
      (numbered n k) is made.rows made.kept has.collectors (λ y h. none_apart nat_cmp key b.number _ y free h)) (λ w. w)
      (ap (λ rows. record (office_in a.now.trees) { collectors = rows })) (all_kept _ _ made.kept)) old new result

  pub outlet_written : (u : Outlet) (n : ℕ) (k : List ℕ) → outlet_from (Int (pos n)) (Text k) ≡ Some u
      → RunsAlone put_outlet_text (Int (pos n) ∷ Text k ∷ []) old new result
      → Written (PutsOutlet u) (λ o. row_by_number (λ (u : Outlet). u.number) u.number o.outlets ≡ None) old new result
  unfolding releases_in
  outlet_written u n k is =
      let key : Outlet → ℕ = λ u. u.number in
      alone_written put_outlet_text (Int (pos n) ∷ Text k ∷ []) (AddsRow 3 (numbered n k))
      (adds_one table_of_outlets 2 refl (Int (pos n) ∷ Text k ∷ []) (Values given_pair 3) (numbered n k)
      (λ db. numbered n k) (λ limit db rows h. h.1) (λ db. simp (cast_null, cast_int)) put_outlet_text
      put_outlet_is) (PutsOutlet u) (λ o. row_by_number key u.number o.outlets ≡ None)
      (λ a s has free made alone sound.
      row_done (PutsOutlet u) a s has made.schema alone (all_tables_of s.now made.schema sound) Outlets refl made.others
      nat_cmp_total key outlet_in u has.outlets (inserted nat_cmp_total key outlet_in u _ _ (numbered n k) is made.rows
      made.kept has.outlets (λ y h. none_apart nat_cmp key u.number _ y free h)) (λ w. w) (ap (λ rows. record (office_in
      a.now.trees) { outlets = rows })) (all_kept _ _ made.kept)) old new result

  pub item_written : (i : Item) (c t u : List ℕ) (l h : ℕ)
      → item_of_values (Text c) (Text t) (Text u) (Int (pos l)) (Int (pos h)) ≡ Some i
      → RunsAlone put_item_text (item_columns c t u l h) old new result
      → Written (PutsItem i) (λ o. row_by_number (λ (i : Item). i.code) i.code o.items ≡ None) old new result
  unfolding releases_in
  item_written i c t u l h is =
      let key : Item → ℕ = λ i. i.code in
      alone_written put_item_text (item_columns c t u l h) (λ db. AddsRow 4 (item_row c t u l h db) db)
      (adds_one table_of_items 3 refl (item_columns c t u l h)
      (Values (lit Null ∷ col 0 0 ∷ col 0 1 ∷ col 0 2 ∷ col 0 3 ∷ col 0 4 ∷ []) 6) (Null ∷ item_columns c t u l h)
      (item_row c t u l h) (λ limit db rows h. h.1) (λ db. simp (cast_null, cast_int)) put_item_text put_item_is)
      (PutsItem i) (λ o. row_by_number key i.code o.items ≡ None)
      (λ a s has free made alone sound.
      row_done (PutsItem i) a s has made.schema alone (all_tables_of s.now made.schema sound) Items refl made.others
      nat_cmp_total key item_in i has.items (inserted nat_cmp_total key item_in i _ _ (item_row c t u l h a.now.trees)
      is made.rows made.kept has.items (λ y h. none_apart nat_cmp key i.code _ y free h)) (λ w. w) (ap (λ rows. record
      (office_in a.now.trees) { items = rows })) (all_kept _ _ made.kept)) old new result

  pub assignment_written : (b : Registration) (a : Assigned) (c : GivenColumns)
      → given_of c ≡ Some (b.number, first_of_series b.number a.assignment)
      → RunsAlone put_assignment_text (columns_of c) old new result
      → Written (Assigns b a) (λ o. IsNumberFree b.number a.assignment.slot o.assignments) old new result
  unfolding releases_in
  assignment_written b a c is =
      let g = first_of_series b.number a.assignment in
      alone_written put_assignment_text (columns_of c) (Added c) (row_made c) (Assigns b a)
      (λ o. IsNumberFree b.number a.assignment.slot o.assignments)
      (λ s t has free made alone sound.
      row_done (Assigns b a) s t has made.schema alone (all_tables_of t.now made.schema sound) Assignments refl
      made.others (held_total nat_cmp_total) slot_key assignment_in_row (b.number, g) has.assignments
      (added_puts b.number g
      c is s.now.trees t.now free made has.assignments) (λ w. record { rows = w; rowids = made.rowids }) (ap (λ rows.
      record (office_in s.now.trees) { assignments = rows })) (all_kept _ _ made.kept)) old new result

  pub quote_written : (b : Registration) (q : QuoteRow) (m : ℕ) (mark : List ℕ) (v : ℕ)
      → ((id : Value) → quote_in (id ∷ quote_columns b.number q.slot m mark v q.receipt) ≡ Some (b.number, q))
      → RunsAlone put_quote_text (quote_columns b.number q.slot m mark v q.receipt) old new result
      → Written (Quotes b q) (λ _. ⊤) old new result
  unfolding releases_in
  quote_written b q m mark v is =
      let columns = quote_columns b.number q.slot m mark v q.receipt in
      alone_written put_quote_text columns
      (λ db after. HasRowids (db 24) → IsPutOver quote_places Null columns 24 db after)
      (quote_put b.number q.slot m mark v q.receipt) (Quotes b q) (λ _. ⊤)
      (λ a s has _ made alone sound.
      let done = made has.rowids in
      row_done (Quotes b q) a s has done.schema alone (all_tables_of s.now done.schema sound) tables.Quotes refl
      done.others (held_total quote_order) (held_key quote_key) quote_in (b.number, q) has.quotes (quote_puts b q
      columns is (a.now.trees 24) (s.now.trees 24) done.rows) (λ w. record { rows = w; rowids = λ _. done.rowids }) (ap
      (λ rows. record (office_in a.now.trees) { quotes = rows })) (quote_kept b q columns is (a.now.trees 24)
      (s.now.trees 24) done.rows)) old new result

  pub day_written : (x : CalendarPart) (m o c p : ℕ) → calendar_in (Int (pos m) ∷ day_behind o c p) ≡ Some x
      → RunsAlone put_calendar_text (day_columns m o c p) old new result
      → Written (PutsCalendar x) (λ _. ⊤) old new result
  unfolding releases_in
  day_written x m o c p is =
      alone_written put_calendar_text (day_columns m o c p)
      (λ db after. HasRowids (db 10) → IsPutOver calendar_places (Int (pos m)) (day_behind o c p) 10 db after)
      (day_put m o c p) (PutsCalendar x) (λ _. ⊤)
      (λ a s has _ made alone sound.
      let done = made has.days in
      row_done (PutsCalendar x) a s has done.schema alone (all_tables_of s.now done.schema sound) Calendar refl
      done.others nat_cmp_total day_key calendar_in x has.calendar (day_puts x m o c p is (a.now.trees 10) (s.now.trees
      10) done.rows) (λ w. record { rows = w; rowids = λ _. done.rowids }) (ap (λ rows. record (office_in a.now.trees) {
        calendar = rows;
      })) (day_kept x m o c p is (a.now.trees 10) (s.now.trees 10) done.rows)) old new result
