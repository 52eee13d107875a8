-- The tables that are read whole, each by one statement.
use Rattle.std.proofs.Common.{inl, inr, ℕ, List, [], ◌∷◌, Option, codes, refl, sym, subst}
use Rattle.sqlite.specs.Listing.{understood}
use Rattle.sqlite.specs.Order.{Row}
use Rattle.sqlite.specs.Schema.{Schema}
use Rattle.sqlite_tied.specs.Compute.{everything}
use Rattle.cpi_plan.specs.Calendar.{CalendarPart}
use Rattle.cpi_plan.specs.declared.items.Item.{Item}
use Rattle.cpi_store.specs.declared.registration.Registration.{Registration}
use Rattle.cpi_store.specs.declared.given.Given.{Given}
use Rattle.cpi_store.specs.declared.outlet.Outlet.{Outlet}
use Rattle.cpi_sql_rows.specs.Asked.{AsksFor}
use Rattle.cpi_sql_rows.specs.Finding.{IsOfOffice, IsSecond}
use Rattle.cpi_sql_rows.specs.Lists.{collector_in, outlet_in, item_in, calendar_in, assignment_in_row, header_in}
use Rattle.cpi_sql_rows.specs.declared.release_rows.Header.{Header}
use Rattle.cpi_sql_rows.specs.Tables.{first_schema, office_schema, table_of_collectors, table_of_outlets}
use Rattle.cpi_sql_rows.specs.Tables.{table_of_items, table_of_calendar, table_of_assignments_2}
use Rattle.cpi_sql_rows.specs.Tables.{table_of_quotes_2, table_of_releases_2}
use Rattle.cpi_sql_rows.specs.Texts.{registrations_text, outlets_text, items_text, calendar_text, all_assignments_text}
use Rattle.cpi_sql_rows.specs.Texts.{all_quotes_text, headers_text}

-- a table that these schemas have, the text that reads it, and what its rows stand for
pub record WholeTable (X : Type 0) (IsIn : Schema → Type 0) : Type 0 where
  pub tree : ℕ
  pub text : List ℕ
  -- the columns that are read
  pub shown : List ℕ
  pub entry : Row → Option X
  pub asks : (schema : Schema) → IsIn schema → AsksFor schema text tree [] shown
  pub in_office : IsIn office_schema

-- what holds under both schemas of the office holds under any schema of the office
pub under_either : (P : Schema → Type 0) → P first_schema → P office_schema → (schema : Schema) → IsOfOffice schema
    → P schema
under_either P one two schema (inl e) = subst P (sym e) one
under_either P one two schema (inr e) = subst P (sym e) two

-- the same of schema 2 only
pub second : (P : Schema → Type 0) → P office_schema → (schema : Schema) → IsSecond schema → P schema
second P is schema e = subst P (sym e) is

-- ---- registrations

pub first_registrations : AsksFor first_schema registrations_text table_of_collectors.tree [] (0 ∷ 2 ∷ [])
unfolding understood everything
first_registrations = record {
  order = 0 ∷ [];
  names = codes "number" ∷ codes "key" ∷ [];
  command = refl;
  listing = refl;
  plain = (refl, refl);
  stored = λ _. refl;
}

pub second_registrations : AsksFor office_schema registrations_text table_of_collectors.tree [] (0 ∷ 2 ∷ [])
unfolding understood everything
second_registrations = record {
  order = 0 ∷ [];
  names = codes "number" ∷ codes "key" ∷ [];
  command = refl;
  listing = refl;
  plain = (refl, refl);
  stored = λ _. refl;
}

-- all collectors
abbrev pub registrations_table : WholeTable Registration IsOfOffice
registrations_table = record {
  tree = table_of_collectors.tree;
  text = registrations_text;
  shown = 0 ∷ 2 ∷ [];
  entry = collector_in;
  asks = under_either (λ s. AsksFor s registrations_text table_of_collectors.tree [] (0 ∷ 2 ∷ [])) first_registrations
      second_registrations;
  in_office = inr refl;
}

-- ---- outlets

pub first_outlets : AsksFor first_schema outlets_text table_of_outlets.tree [] (0 ∷ 2 ∷ [])
unfolding understood everything
first_outlets = record {
  order = 0 ∷ [];
  names = codes "number" ∷ codes "name" ∷ [];
  command = refl;
  listing = refl;
  plain = (refl, refl);
  stored = λ _. refl;
}

pub second_outlets : AsksFor office_schema outlets_text table_of_outlets.tree [] (0 ∷ 2 ∷ [])
unfolding understood everything
second_outlets = record {
  order = 0 ∷ [];
  names = codes "number" ∷ codes "name" ∷ [];
  command = refl;
  listing = refl;
  plain = (refl, refl);
  stored = λ _. refl;
}

-- all outlets
abbrev pub outlets_table : WholeTable Outlet IsOfOffice
outlets_table = record {
  tree = table_of_outlets.tree;
  text = outlets_text;
  shown = 0 ∷ 2 ∷ [];
  entry = outlet_in;
  asks = under_either (λ s. AsksFor s outlets_text table_of_outlets.tree [] (0 ∷ 2 ∷ [])) first_outlets second_outlets;
  in_office = inr refl;
}

-- ---- items

pub first_items : AsksFor first_schema items_text table_of_items.tree [] (1 ∷ 2 ∷ 3 ∷ 4 ∷ 5 ∷ [])
unfolding understood everything
first_items = record {
  order = 1 ∷ [];
  names = codes "code" ∷ codes "text" ∷ codes "unit" ∷ codes "low" ∷ codes "high" ∷ [];
  command = refl;
  listing = refl;
  plain = (refl, refl);
  stored = λ _. refl;
}

pub second_items : AsksFor office_schema items_text table_of_items.tree [] (1 ∷ 2 ∷ 3 ∷ 4 ∷ 5 ∷ [])
unfolding understood everything
second_items = record {
  order = 1 ∷ [];
  names = codes "code" ∷ codes "text" ∷ codes "unit" ∷ codes "low" ∷ codes "high" ∷ [];
  command = refl;
  listing = refl;
  plain = (refl, refl);
  stored = λ _. refl;
}

-- all items
abbrev pub items_table : WholeTable Item IsOfOffice
items_table = record {
  tree = table_of_items.tree;
  text = items_text;
  shown = 1 ∷ 2 ∷ 3 ∷ 4 ∷ 5 ∷ [];
  entry = item_in;
  asks = under_either (λ s. AsksFor s items_text table_of_items.tree [] (1 ∷ 2 ∷ 3 ∷ 4 ∷ 5 ∷ [])) first_items
      second_items;
  in_office = inr refl;
}

-- ---- calendar

pub first_calendar : AsksFor first_schema calendar_text table_of_calendar.tree [] (0 ∷ 2 ∷ 3 ∷ 4 ∷ [])
unfolding understood everything
first_calendar = record {
  order = 0 ∷ [];
  names = codes "month" ∷ codes "opens" ∷ codes "closes" ∷ codes "publishes" ∷ [];
  command = refl;
  listing = refl;
  plain = (refl, refl);
  stored = λ _. refl;
}

pub second_calendar : AsksFor office_schema calendar_text table_of_calendar.tree [] (0 ∷ 2 ∷ 3 ∷ 4 ∷ [])
unfolding understood everything
second_calendar = record {
  order = 0 ∷ [];
  names = codes "month" ∷ codes "opens" ∷ codes "closes" ∷ codes "publishes" ∷ [];
  command = refl;
  listing = refl;
  plain = (refl, refl);
  stored = λ _. refl;
}

-- the calendar
abbrev pub calendar_table : WholeTable CalendarPart IsOfOffice
calendar_table = record {
  tree = table_of_calendar.tree;
  text = calendar_text;
  shown = 0 ∷ 2 ∷ 3 ∷ 4 ∷ [];
  entry = calendar_in;
  asks = under_either (λ s. AsksFor s calendar_text table_of_calendar.tree [] (0 ∷ 2 ∷ 3 ∷ 4 ∷ [])) first_calendar
      second_calendar;
  in_office = inr refl;
}

-- ---- all_assignments

pub second_all_assignments : AsksFor office_schema all_assignments_text table_of_assignments_2.tree []
    (1 ∷ 2 ∷ 3 ∷ 4 ∷ 5 ∷ 6 ∷ 7 ∷ 8 ∷ 9 ∷ [])
unfolding understood everything
second_all_assignments = record {
  order = 1 ∷ 2 ∷ [];
  names = codes "collector" ∷ codes "slot" ∷ codes "outlet" ∷ codes "item" ∷ codes "first_month"
      ∷ codes "last_month" ∷ codes "series_collector" ∷ codes "series_slot" ∷ codes "copied" ∷ [];
  command = refl;
  listing = refl;
  plain = (refl, refl);
  stored = λ _. refl;
}

-- all assignments
abbrev pub all_assignments_table : WholeTable (ℕ × Given) IsSecond
all_assignments_table = record {
  tree = table_of_assignments_2.tree;
  text = all_assignments_text;
  shown = 1 ∷ 2 ∷ 3 ∷ 4 ∷ 5 ∷ 6 ∷ 7 ∷ 8 ∷ 9 ∷ [];
  entry = assignment_in_row;
  asks = second (λ s. AsksFor s all_assignments_text table_of_assignments_2.tree []
      (1 ∷ 2 ∷ 3 ∷ 4 ∷ 5 ∷ 6 ∷ 7 ∷ 8 ∷ 9 ∷ []))
      second_all_assignments;
  in_office = refl;
}

-- ---- headers

pub second_headers : AsksFor office_schema headers_text table_of_releases_2.tree [] (1 ∷ 2 ∷ 3 ∷ 4 ∷ 5 ∷ [])
unfolding understood everything
second_headers = record {
  order = 1 ∷ 2 ∷ [];
  names = codes "month" ∷ codes "revision" ∷ codes "frozen_at" ∷ codes "publishes" ∷ codes "carry" ∷ [];
  command = refl;
  listing = refl;
  plain = (refl, refl);
  stored = λ _. refl;
}

-- all headers
abbrev pub headers_table : WholeTable Header IsSecond
headers_table = record {
  tree = table_of_releases_2.tree;
  text = headers_text;
  shown = 1 ∷ 2 ∷ 3 ∷ 4 ∷ 5 ∷ [];
  entry = header_in;
  asks = second (λ s. AsksFor s headers_text table_of_releases_2.tree [] (1 ∷ 2 ∷ 3 ∷ 4 ∷ 5 ∷ [])) second_headers;
  in_office = refl;
}

-- ---- quotes, which are read in the order of their rows

pub second_all_quotes : AsksFor office_schema all_quotes_text table_of_quotes_2.tree [] (1 ∷ 2 ∷ 3 ∷ 4 ∷ 5 ∷ 6 ∷ [])
unfolding understood everything
second_all_quotes = record {
  order = [];
  names = codes "collector" ∷ codes "slot" ∷ codes "month" ∷ codes "mark" ∷ codes "value" ∷ codes "receipt" ∷ [];
  command = refl;
  listing = refl;
  plain = (refl, refl);
  stored = λ _. refl;
}

pub all_quotes_asked : (schema : Schema) → IsSecond schema
    → AsksFor schema all_quotes_text table_of_quotes_2.tree [] (1 ∷ 2 ∷ 3 ∷ 4 ∷ 5 ∷ 6 ∷ [])
all_quotes_asked =
    second (λ s. AsksFor s all_quotes_text table_of_quotes_2.tree [] (1 ∷ 2 ∷ 3 ∷ 4 ∷ 5 ∷ 6 ∷ [])) second_all_quotes
