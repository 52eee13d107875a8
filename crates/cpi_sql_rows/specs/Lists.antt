-- The lists of the office that the rows of the tables of schema 2 stand for.
use Rattle.std.specs.Prelude.{ℕ, zero, suc, ◌+◌, ◌*◌, ◌/◌, ◌%◌, ◌&&◌, ◌||◌, not, ◌==◌, ℤ, map, filter_map, pos, negsuc}
use Rattle.std.specs.Prelude.{Bool, true, false, if◌then◌else◌, nat_le, nat_lt, bytes_eq, List, [], ◌∷◌, codes}
use Rattle.std.specs.Prelude.{Option, Some, None, Result, Ok, Err}
use Rattle.std.specs.declared.cmp.Ordering.{Ordering}
use Rattle.std.specs.Ordering.{nat_cmp}
use Rattle.sqlite.specs.declared.types.Value.{Value}
use Rattle.sqlite.specs.declared.types.Value.TheVariants.{Null, Int, Real, Text, Blob}
use Rattle.sqlite.specs.Order.{Row, column}
use Rattle.sqlite.specs.Tree.{Trees}
use Rattle.cpi_rows.specs.Keyed.{with_row}
use Rattle.cpi_rows.specs.Held.{held_by, held_cmp, held_key}
use Rattle.cpi_codes.specs.declared.limits.TheConstants.{GREATEST_COLLECTOR, GREATEST_OUTLET, GREATEST_PRICE}
use Rattle.cpi_codes.specs.declared.limits.TheConstants.{GREATEST_SLOT, LAST_MOMENT}
use Rattle.cpi_codes.specs.declared.months.MonthFault.{MonthFault}
use Rattle.cpi_codes.specs.Key.{key_of}
use Rattle.cpi_codes.specs.ItemCode.{item_code_of}
use Rattle.cpi_codes.specs.Month.{month_in}
use Rattle.cpi_codes.specs.Name.{is_text_of_name}
use Rattle.cpi_codes.specs.declared.series.SeriesId.{SeriesId}
use Rattle.cpi_plan.specs.declared.items.Item.{Item}
use Rattle.cpi_plan.specs.Plan.{Plan}
use Rattle.cpi_plan.specs.Stored.{plan_from, is_whole}
use Rattle.cpi_plan.specs.declared.plan_rows.Node.{Node}
use Rattle.cpi_plan.specs.declared.plan_rows.Place.{Place}
use Rattle.cpi_codes.specs.CodeOf.{spelled_code}
use Rattle.cpi_codes.specs.CodeOrder.{code_cmp, is_code_elementary}
use Rattle.cpi_codes.specs.declared.codes.Code.{Code}
use Rattle.cpi_plan.specs.Calendar.{CalendarPart}
use Rattle.cpi_survey.specs.declared.limits.TheConstants.{LAST_RECEIPT}
use Rattle.cpi_survey.specs.declared.mark.Reason.TheVariants.{Stock, Closed, Gone, Refused}
use Rattle.cpi_survey.specs.declared.mark.Mark.{Mark}
use Rattle.cpi_survey.specs.declared.mark.Mark.TheVariants.{Price, Missing, Comparable, Other}
use Rattle.cpi_survey.specs.declared.assignment.Assignment.{Assignment}
use Rattle.cpi_survey.specs.Quote.{QuoteRow, quote_cmp, quote_key}
use Rattle.cpi_store.specs.declared.registration.Registration.{Registration}
use Rattle.cpi_store.specs.declared.given.Given.{Given}
use Rattle.cpi_store.specs.declared.outlet.Outlet.{Outlet}
use Rattle.cpi_store.specs.Office.{Office}
use Rattle.cpi_index.specs.declared.limits.TheConstants.{MOST_INDEX, MOST_LEVEL, MOST_NODE_WEIGHT, MOST_TICKS}
use Rattle.cpi_index.specs.Frozen.{Frozen}
use Rattle.cpi_index.specs.Carried.{Carried}
use Rattle.cpi_index.specs.Series.{frozen_serial, carried_serial}
use Rattle.cpi_index.specs.Weights.{is_effective}
use Rattle.cpi_release.specs.declared.level.Level.{Level}
use Rattle.cpi_release.specs.declared.release.Release.{Release}
use Rattle.cpi_release.specs.FrozenMonths.{ReleaseKey, release_cmp}
use Rattle.std.specs.List.{slice_split}
use Rattle.cpi_sql_rows.specs.declared.reference_months.ReferenceMonth.{ReferenceMonth}
use Rattle.cpi_sql_rows.specs.declared.release_rows.Header.{Header}
use Rattle.cpi_sql_rows.specs.Tables.{table_of_assignments_2, table_of_calendar, table_of_carried_2}
use Rattle.cpi_sql_rows.specs.Tables.{table_of_collectors, table_of_frozen_2, table_of_items, table_of_levels_2}
use Rattle.cpi_sql_rows.specs.Tables.{table_of_nodes, table_of_outlets, table_of_plan_items, table_of_plan_refs}
use Rattle.cpi_sql_rows.specs.Tables.{table_of_quotes_2, table_of_releases_2}

-- ---- values

-- a whole number, not below 0
abbrev pub number_in_value : Value → Option ℕ
number_in_value (Int (pos n)) = Some n
number_in_value (Int (negsuc n)) = None
number_in_value Null = None
number_in_value (Real x) = None
number_in_value (Text t) = None
number_in_value (Blob b) = None

-- a text
abbrev pub text_in : Value → Option (List ℕ)
text_in (Text t) = Some t
text_in (Int n) = None
text_in Null = None
text_in (Real x) = None
text_in (Blob b) = None

-- a whole number, or NULL if there is none
abbrev pub whole_or_none : Value → Option (Option ℤ)
whole_or_none Null = Some None
whole_or_none (Int z) = Some (Some z)
whole_or_none (Real x) = None
whole_or_none (Text t) = None
whole_or_none (Blob b) = None

-- what the function makes of the value, if there is one
abbrev pub and_then : {A B : Type 0} → Option A → (A → Option B) → Option B
and_then None f = None
and_then (Some a) f = f a

-- a number from `low` to `high`
abbrev pub if_within : ℕ → ℕ → ℕ → Option ℕ
if_within low high n = if nat_le low n && nat_le n high then Some n else None

-- a number within limits
abbrev pub number_within : ℕ → ℕ → Value → Option ℕ
number_within low high v = and_then (number_in_value v) (if_within low high)

-- a month that was made
abbrev pub month_out : Result ℕ MonthFault → Option ℕ
month_out (Ok m) = Some m
month_out (Err e) = None

-- a month as year * 100 + month
abbrev pub month_at : ℕ → Option ℕ
month_at n = month_out (month_in (n / 100) (n % 100))

-- a month, written as year * 100 + month
abbrev pub month_from : Value → Option ℕ
month_from v = and_then (number_in_value v) month_at

-- a text that is a name
abbrev pub name_of : List ℕ → Option (List ℕ)
name_of t = if is_text_of_name t then Some t else None

-- a name
abbrev pub name_from : Value → Option (List ℕ)
name_from v = and_then (text_in v) name_of

-- the code of an item
abbrev pub item_from : Value → Option ℕ
item_from v = and_then (text_in v) item_code_of

-- ---- rows

-- a collector, of number and key
abbrev pub registration_from : Value → Value → Option Registration
registration_from number key = and_then (number_within 1 GREATEST_COLLECTOR number)
    (λ n. and_then (and_then (text_in key) key_of) (λ k. Some (record { number = n; key = k })))

-- the collector of a row
abbrev pub collector_in : Row → Option Registration
collector_in r = registration_from (column r 0) (column r 2)

-- an outlet, of number and name
abbrev pub outlet_from : Value → Value → Option Outlet
outlet_from number name = and_then (number_within 1 GREATEST_OUTLET number)
    (λ n. and_then (name_from name) (λ t. Some (record { number = n; name = t })))

-- the outlet of a row
abbrev pub outlet_in : Row → Option Outlet
outlet_in r = outlet_from (column r 0) (column r 2)

-- an item, of code, text, unit and tolerances
abbrev pub item_of_values : Value → Value → Value → Value → Value → Option Item
item_of_values code text unit low high =
    and_then (item_from code) (λ c. and_then (name_from text) (λ t. and_then (name_from unit) (λ u.
    and_then (number_within 1 1000 low)
    (λ l. and_then (number_within 1000 10000 high)
    (λ h. Some (record { code = c; text = t; unit = u; low = l; high = h }))))))

-- the item of a row
abbrev pub item_in : Row → Option Item
item_in r = item_of_values (column r 1) (column r 2) (column r 3) (column r 4) (column r 5)

-- the moments are in turn
abbrev pub in_turn : ℕ → ℕ → ℕ → ℕ → Option CalendarPart
in_turn m o c p = if nat_lt o c
    && nat_le c p then Some (record { month = m; opens = o; closes = c; publishes = p }) else None

-- a row of the calendar, of month and moments
abbrev pub calendar_from : Value → Value → Value → Value → Option CalendarPart
calendar_from month opens closes publishes =
    and_then (month_from month)
    (λ m. and_then (number_within 0 LAST_MOMENT opens) (λ o. and_then (number_within 0 LAST_MOMENT closes) (λ c.
    and_then (number_within 0 LAST_MOMENT publishes) (λ p. in_turn m o c p))))

-- the calendar row of a row
abbrev pub calendar_in : Row → Option CalendarPart
calendar_in r = calendar_from (column r 0) (column r 2) (column r 3) (column r 4)

-- a price, or NULL if there is none
abbrev pub price_or_none : Value → Option (Option ℕ)
price_or_none Null = Some None
price_or_none (Int z) = and_then (number_within 1 GREATEST_PRICE (Int z)) (λ p. Some (Some p))
price_or_none (Real x) = None
price_or_none (Text t) = None
price_or_none (Blob b) = None

-- a series, of collector and slot
abbrev pub series_from : Value → Value → Option SeriesId
series_from collector slot = and_then (number_within 1 GREATEST_COLLECTOR collector)
    (λ c. and_then (number_within 1 GREATEST_SLOT slot) (λ s. Some (record { collector = c; slot = s })))

-- an assignment, of its columns
abbrev pub assignment_from : Value → Value → Value → Value → Value → Value → Option Assignment
assignment_from slot outlet item first last copied =
    and_then (number_within 1 GREATEST_SLOT slot) (λ s. and_then (number_within 1 GREATEST_OUTLET outlet)
    (λ o. and_then (item_from item) (λ i.
    and_then (month_from first) (λ f. and_then (month_from last) (λ l. and_then (price_or_none copied) (λ p.
    Some (record { slot = s; outlet = o; item = i; first_month = f; last_month = l; copied = p })))))))

-- what a slot of a collector was given, with the collector's number
abbrev pub given_from : Value → Value → Value → Value → Value → Value → Value → Value → Value → Option (ℕ × Given)
given_from number slot outlet item first last series_collector series_slot copied =
    and_then (number_within 1 GREATEST_COLLECTOR number) (λ n. and_then
    (assignment_from slot outlet item first last copied) (λ a.
    and_then (series_from series_collector series_slot) (λ s. Some (n, record { assignment = a; series = s }))))

-- what a row gives a slot, with its collector's number
abbrev pub assignment_in_row : Row → Option (ℕ × Given)
assignment_in_row r = given_from (column r 1) (column r 2) (column r 3) (column r 4) (column r 5)
    (column r 6) (column r 7) (column r 8) (column r 9)

-- a mark by its word and its value
abbrev pub mark_from : List ℕ → ℕ → Option Mark
mark_from t v =
    if bytes_eq t (codes "price") then and_then (if_within 1 GREATEST_PRICE v) (λ p. Some (Price p))
    else (if bytes_eq t (codes "comparable") then and_then (if_within 1 GREATEST_PRICE v) (λ p. Some (Comparable p))
    else (if bytes_eq t (codes "other") then and_then (if_within 1 GREATEST_PRICE v) (λ p. Some (Other p))
    else (if bytes_eq t (codes "stock") then Some (Missing Stock)
    else (if bytes_eq t (codes "closed") then Some (Missing Closed)
    else (if bytes_eq t (codes "gone") then Some (Missing Gone)
    else (if bytes_eq t (codes "refused") then Some (Missing Refused) else None))))))

-- the word of a mark
abbrev pub mark_word : Mark → List ℕ
mark_word (Price p) = codes "price"
mark_word (Comparable p) = codes "comparable"
mark_word (Other p) = codes "other"
mark_word (Missing Stock) = codes "stock"
mark_word (Missing Closed) = codes "closed"
mark_word (Missing Gone) = codes "gone"
mark_word (Missing Refused) = codes "refused"

-- a mark, of word and number
abbrev pub mark_in : Value → Value → Option Mark
mark_in mark value = and_then (text_in mark) (λ t. and_then (number_in_value value) (λ v. mark_from t v))

-- a receipt
abbrev pub receipt_from : Value → Option ℕ
receipt_from v = number_within 1 LAST_RECEIPT v

-- a quote, of its columns
abbrev pub quote_from : Value → Value → Value → Value → Value → Option QuoteRow
quote_from slot month mark value receipt =
    and_then (number_within 1 GREATEST_SLOT slot) (λ s. and_then (month_from month) (λ m. and_then (mark_in mark value) (λ k.
    and_then (receipt_from receipt) (λ n. Some (record { slot = s; month = m; mark = k; receipt = n })))))

-- a quote as an answer shows it, after its collector's number
abbrev pub shown_quote : Row → Option (ℕ × QuoteRow)
shown_quote x = and_then (number_within 1 GREATEST_COLLECTOR (column x 0))
    (λ c. and_then (quote_from (column x 1) (column x 2) (column x 3) (column x 4) (column x 5)) (λ q. Some (c, q)))

-- what an answer shows of an assignment
abbrev pub shown_given : Row → Option (ℕ × Given)
shown_given x = given_from (column x 0) (column x 1) (column x 2) (column x 3) (column x 4) (column x 5)
    (column x 6) (column x 7) (column x 8)

-- the quote of a row, with its collector's number
abbrev pub quote_in : Row → Option (ℕ × QuoteRow)
quote_in r = and_then (number_within 1 GREATEST_COLLECTOR (column r 1))
    (λ c. and_then (quote_from (column r 2) (column r 3) (column r 4) (column r 5) (column r 6)) (λ q. Some (c, q)))

-- ---- lists

-- the row is put, if it stands for something
abbrev pub put_entry : {X K : Type 0} → (K → K → Ordering) → (X → K) → Option X → List X → List X
put_entry cmp key None xs = xs
put_entry cmp key (Some x) xs = with_row cmp key x xs

-- what the rows stand for, in order; a row that the types refuse stands for nothing
abbrev pub rows_in_key_order : {X K : Type 0} → (K → K → Ordering) → (X → K) → (Row → Option X) → List Row → List X
rows_in_key_order cmp key entry [] = []
rows_in_key_order cmp key entry (r ∷ rows) = put_entry cmp key (entry r) (rows_in_key_order cmp key entry rows)

-- the collectors of a table
abbrev pub collectors_in : List Row → List Registration
collectors_in rows = rows_in_key_order nat_cmp (λ b. b.number) collector_in rows

-- the outlets of a table
abbrev pub outlets_in : List Row → List Outlet
outlets_in rows = rows_in_key_order nat_cmp (λ u. u.number) outlet_in rows

-- the items of a table
abbrev pub items_in : List Row → List Item
items_in rows = rows_in_key_order nat_cmp (λ i. i.code) item_in rows

-- the calendar of a table
abbrev pub calendar_rows_in : List Row → List CalendarPart
calendar_rows_in rows = rows_in_key_order nat_cmp (λ r. r.month) calendar_in rows

-- what a table gives all slots
abbrev pub assignments_in : List Row → List (ℕ × Given)
assignments_in rows = rows_in_key_order (held_cmp nat_cmp) (held_key (λ g. g.assignment.slot)) assignment_in_row rows

-- the quotes of a table
abbrev pub quotes_in : List Row → List (ℕ × QuoteRow)
quotes_in rows = rows_in_key_order (held_cmp quote_cmp) (held_key quote_key) quote_in rows

-- ---- plans

-- a code
abbrev pub code_from : Value → Option Code
code_from v = and_then (text_in v) spelled_code

-- a node, of code, title and weight
abbrev pub node_from : Value → Value → Value → Option Node
node_from code title weight = and_then (code_from code)
    (λ c. and_then (name_from title)
    (λ t. and_then (number_in_value weight) (λ w. Some (record { code = c; title = t; weight = w }))))

-- the place of an item, of item and aggregate
abbrev pub place_from : Value → Value → Option Place
place_from item code = and_then (item_from item)
    (λ i. and_then (code_from code) (λ c. Some (record { item = i; aggregate = c })))

-- a node as an answer shows it, after its year
abbrev pub shown_node : Row → Option Node
shown_node x = and_then (number_within 2000 2199 (column x 0)) (λ _. node_from (column x 1) (column x 2) (column x 3))

-- what an answer shows of a place
abbrev pub shown_place : Row → Option Place
shown_place x = and_then (number_within 2000 2199 (column x 0)) (λ _. place_from (column x 1) (column x 2))

-- the node of a row, with its year
abbrev pub node_in : Row → Option (ℕ × Node)
node_in r = and_then (number_within 2000 2199 (column r 1))
    (λ y. and_then (node_from (column r 2) (column r 3) (column r 4))
    (λ n. Some (y, n)))

-- the place of a row, with its year
abbrev pub place_in_row : Row → Option (ℕ × Place)
place_in_row r = and_then (number_within 2000 2199 (column r 1))
    (λ y. and_then (place_from (column r 2) (column r 3)) (λ p. Some (y, p)))

-- nodes with their years, by year and code
abbrev pub nodes_in : List Row → List (ℕ × Node)
nodes_in rows = rows_in_key_order (held_cmp code_cmp) (held_key (λ n. n.code)) node_in rows

-- places with their years, by year and item
abbrev pub places_in : List Row → List (ℕ × Place)
places_in rows = rows_in_key_order (held_cmp nat_cmp) (held_key (λ p. p.item)) place_in_row rows

-- a reference month
abbrev pub reference_from : Value → Option ReferenceMonth
reference_from month = and_then (month_from month) (λ m. Some (record { month = m }))

-- a node, a place and a reference month, as they are in a row
abbrev pub node_at : Row → Option Node
node_at r = node_from (column r 2) (column r 3) (column r 4)

abbrev pub place_at : Row → Option Place
place_at r = place_from (column r 2) (column r 3)

abbrev pub reference_at : Row → Option ReferenceMonth
reference_at r = reference_from (column r 2)

-- what an answer shows of a reference month
abbrev pub shown_reference : Row → Option ReferenceMonth
shown_reference x = and_then (number_within 2000 2199 (column x 0)) (λ _. reference_from (column x 1))

-- the year of a reference month is its rowid
abbrev pub reference_month_in_row : Row → Option (ℕ × ReferenceMonth)
reference_month_in_row r = and_then (number_within 2000 2199 (column r 0))
    (λ y. and_then (reference_from (column r 2)) (λ m. Some (y, m)))

-- reference months with their years
abbrev pub references_in : List Row → List (ℕ × ReferenceMonth)
references_in rows = rows_in_key_order (held_cmp nat_cmp) (held_key (λ m. m.month)) reference_month_in_row rows

-- the reference month of a year, if it has one
abbrev pub reference_of : List ReferenceMonth → Option ℕ
reference_of [] = None
reference_of (m ∷ _) = Some m.month

-- the rows of a year that has this reference month, or none
abbrev pub references_for : Option ℕ → List ReferenceMonth
references_for None = []
references_for (Some month) = record { month = month } ∷ []

-- so many numbers, from one on
abbrev pub numbers : ℕ → ℕ → List ℕ
numbers first zero = []
numbers first (suc n) = first ∷ numbers (first + 1) n

-- the plan, if it is whole
abbrev pub if_whole : Plan → Option Plan
if_whole p = if is_whole p then Some p else None

-- the plan of a year, if its rows make one
abbrev pub plan_at : List (ℕ × Node) → List (ℕ × Place) → List (ℕ × ReferenceMonth) → ℕ → Option Plan
plan_at nodes places references year =
    if_whole (plan_from year (held_by year nodes) (held_by year places) (reference_of (held_by year references)))

-- the plans of some years
abbrev pub plans_of : List ℕ → List (ℕ × Node) → List (ℕ × Place) → List (ℕ × ReferenceMonth) → List Plan
plans_of years nodes places references = filter_map (plan_at nodes places references) years

-- so many years from 2000 on
unfoldable pub years : ℕ → List ℕ
years count = numbers 2000 count

-- of the years 2000 to 2199
abbrev pub plans_in : Trees → List Plan
plans_in trees = plans_of (years 200) (nodes_in (trees table_of_nodes.tree))
    (places_in (trees table_of_plan_items.tree))
    (references_in (trees table_of_plan_refs.tree))

-- ---- releases

-- 0 or 1, which are no and yes
abbrev pub flag_in_value : Value → Option Bool
flag_in_value (Int (pos zero)) = Some false
flag_in_value (Int (pos (suc zero))) = Some true
flag_in_value (Int (pos (suc (suc n)))) = None
flag_in_value (Int (negsuc n)) = None
flag_in_value Null = None
flag_in_value (Real x) = None
flag_in_value (Text t) = None
flag_in_value (Blob b) = None

-- a change, in tenths of a percent
abbrev pub change_in : Value → Option ℤ
change_in (Int z) = Some z
change_in Null = None
change_in (Real x) = None
change_in (Text t) = None
change_in (Blob b) = None

-- what all of them stand for, if each stands for something
abbrev pub each_of : {X Y : Type 0} → (X → Option Y) → List X → Option (List Y)
each_of f [] = Some []
each_of f (x ∷ xs) = and_then (f x) (λ y. and_then (each_of f xs) (λ ys. Some (y ∷ ys)))

-- codes parted by one space
abbrev pub spelled_codes : List ℕ → Option (List Code)
spelled_codes [] = Some []
spelled_codes (b ∷ text) = each_of spelled_code (slice_split (λ x. x == 32) (b ∷ text))

-- codes with a space between each two
abbrev pub codes_from : Value → Option (List Code)
codes_from v = and_then (text_in v) spelled_codes

-- a revision
abbrev pub revision_from : Value → Option ℕ
revision_from v = number_within 1 9 v

-- a header, of its columns
abbrev pub header_from : Value → Value → Value → Value → Value → Option Header
header_from month revision frozen_at publishes carry =
    and_then (month_from month) (λ m. and_then (revision_from revision) (λ v.
    and_then (number_within 0 LAST_MOMENT frozen_at) (λ f. and_then (number_within 0 LAST_MOMENT publishes) (λ p.
    and_then (codes_from carry) (λ c.
    Some (record { month = m; revision = v; frozen_at = f; publishes = p; carry = c }))))))

-- the header of a row
abbrev pub header_in : Row → Option Header
header_in r = header_from (column r 1) (column r 2) (column r 3) (column r 4) (column r 5)

-- what a header is listed by: its month, and then its revision
abbrev pub header_key : Header → ReleaseKey
header_key h = (h.month, h.revision)

-- the number of a release: that of its month, and then the digit of its revision
abbrev pub release_number : ℕ → ℕ → ℕ
release_number month revision = 10 * month + revision

-- the number of a release, of month and revision
abbrev pub release_from_key : Value → Value → Option ℕ
release_from_key month revision =
    and_then (month_from month) (λ m. and_then (revision_from revision) (λ v. Some (release_number m v)))

-- a frozen quote, of its columns
abbrev pub frozen_from : Value → Value → Value → Value → Value → Value → Option Frozen
frozen_from number slot item last mark value =
    and_then (number_within 1 GREATEST_COLLECTOR number) (λ n. and_then (number_within 1 GREATEST_SLOT slot)
    (λ s. and_then (item_from item) (λ i.
    and_then (month_from last) (λ l. and_then (mark_in mark value) (λ k.
    Some (record { series = record { collector = n; slot = s }; item = i; last_month = l; mark = k }))))))

-- the frozen quote of a row, with the number of its release
abbrev pub frozen_in : Row → Option (ℕ × Frozen)
frozen_in r = and_then (release_from_key (column r 1) (column r 2)) (λ n.
    and_then (frozen_from (column r 3) (column r 4) (column r 5) (column r 6) (column r 7) (column r 8))
    (λ q. Some (n, q)))

-- a price in ticks and its scale, a fraction, within their limits
pub record Priced : Type 0 where
  pub ticks : ℕ
  pub knum : ℕ
  pub kden : ℕ

-- a price in ticks, and the factor of a replacement as a fraction
abbrev pub priced_from : Value → Value → Value → Option Priced
priced_from ticks knum kden =
    and_then (number_within 1 MOST_TICKS ticks) (λ t. and_then (number_within 1 MOST_TICKS knum) (λ n.
    and_then (number_within 1 GREATEST_PRICE kden) (λ d. Some (record { ticks = t; knum = n; kden = d }))))

-- a carried price, of its columns
abbrev pub carried_from : Value → Value → Value → Value → Value → Value → Value → Value → Value → Option Carried
carried_from number slot item last ticks knum kden observed imputed =
    and_then (number_within 1 GREATEST_COLLECTOR number) (λ n. and_then (number_within 1 GREATEST_SLOT slot)
    (λ s. and_then (item_from item) (λ i.
    and_then (month_from last) (λ l. and_then (priced_from ticks knum kden) (λ p.
    and_then (flag_in_value observed) (λ o. and_then (flag_in_value imputed) (λ u. Some (record {
      series = record { collector = n; slot = s };
      item = i;
      last_month = l;
      ticks = p.ticks;
      knum = p.knum;
      kden = p.kden;
      observed = o;
      imputed = u;
    }))))))))

-- the carried price of a row, with the number of its release
abbrev pub carried_in_row : Row → Option (ℕ × Carried)
carried_in_row r = and_then (release_from_key (column r 1) (column r 2)) (λ n.
    and_then (carried_from (column r 3) (column r 4) (column r 5) (column r 6) (column r 7) (column r 8) (column r 9)
    (column r 10) (column r 11)) (λ c. Some (n, c)))

-- whether a node with this code can have the weight in use; an elementary aggregate has limits of its own
abbrev pub may_weigh : Code → ℕ → Bool
may_weigh code weight = not (is_code_elementary code) || is_effective weight

-- the weight in use of a node with this code
abbrev pub weight_from : Code → Value → Option ℕ
weight_from code v =
    and_then (number_within 1 MOST_NODE_WEIGHT v) (λ w. if may_weigh code w then Some w else None)

-- a row of a table, of its columns
abbrev pub level_from : Value → Value → Value → Value → Value → Value → Value → Value → Option Level
level_from code title weight within chained month_change year_change imputed =
    and_then (code_from code) (λ c. and_then (name_from title) (λ t.
    and_then (weight_from c weight) (λ w.
    and_then (number_within 1 MOST_INDEX within) (λ i. and_then (number_within 1 MOST_LEVEL chained) (λ l.
    and_then (change_in month_change) (λ m. and_then (whole_or_none year_change) (λ y.
    and_then (flag_in_value imputed) (λ u. Some (record {
      code = c;
      title = t;
      weight = w;
      within = i;
      chained = l;
      month_change = m;
      year_change = y;
      imputed = u;
    })))))))))

-- the row of a printed table, with the number of its release
abbrev pub level_in_row : Row → Option (ℕ × Level)
level_in_row r = and_then (release_from_key (column r 1) (column r 2)) (λ n.
    and_then (level_from (column r 3) (column r 4) (column r 5) (column r 6) (column r 7) (column r 8) (column r 9)
    (column r 10)) (λ l. Some (n, l)))

-- the headers of a table
abbrev pub headers_in : List Row → List Header
headers_in rows = rows_in_key_order release_cmp header_key header_in rows

-- frozen quotes with the numbers of their releases, by release and series
abbrev pub frozens_in : List Row → List (ℕ × Frozen)
frozens_in rows = rows_in_key_order (held_cmp nat_cmp) (held_key frozen_serial) frozen_in rows

-- carried prices with the numbers of their releases, by release and series
abbrev pub carrieds_in : List Row → List (ℕ × Carried)
carrieds_in rows = rows_in_key_order (held_cmp nat_cmp) (held_key carried_serial) carried_in_row rows

-- rows of printed tables with the numbers of their releases, by release and code
abbrev pub levels_in : List Row → List (ℕ × Level)
levels_in rows = rows_in_key_order (held_cmp code_cmp) (held_key (λ l. l.code)) level_in_row rows

-- the release of a header, with the rows of its number
abbrev pub release_from : List (ℕ × Frozen) → List (ℕ × Carried) → List (ℕ × Level) → Header → Release
release_from frozen carried levels h = record {
  month = h.month;
  revision = h.revision;
  frozen_at = h.frozen_at;
  publishes = h.publishes;
  frozen = held_by (release_number h.month h.revision) frozen;
  carry = h.carry;
  carried = held_by (release_number h.month h.revision) carried;
  levels = held_by (release_number h.month h.revision) levels;
}

-- the releases of all tables
unfoldable pub releases_in : Trees → List Release
releases_in trees =
    map (release_from (frozens_in (trees table_of_frozen_2.tree)) (carrieds_in (trees table_of_carried_2.tree))
    (levels_in (trees table_of_levels_2.tree))) (headers_in (trees table_of_releases_2.tree))

-- the office of all tables
abbrev pub office_in : Trees → Office
office_in trees = record {
  items = items_in (trees table_of_items.tree);
  plans = plans_in trees;
  calendar = calendar_rows_in (trees table_of_calendar.tree);
  collectors = collectors_in (trees table_of_collectors.tree);
  outlets = outlets_in (trees table_of_outlets.tree);
  assignments = assignments_in (trees table_of_assignments_2.tree);
  quotes = quotes_in (trees table_of_quotes_2.tree);
  releases = releases_in trees;
}
