-- Rows of the tables, computed: what each stands for, and rows that stand for nothing.
use Rattle.std.specs.Prelude.{◌≡◌, ℕ, ℤ, pos, negsuc, true, false, refl, List, [], ◌∷◌, Option, Some, None, codes}
use Rattle.sqlite.specs.declared.types.Value.{Value}
use Rattle.sqlite.specs.declared.types.Value.TheVariants.{Null, Int, Text}
use Rattle.sqlite.specs.Order.{Row}
use Rattle.cpi_codes.specs.declared.codes.Code.{Code}
use Rattle.cpi_codes.specs.declared.series.SeriesId.{SeriesId}
use Rattle.cpi_survey.specs.declared.mark.Mark.TheVariants.{Price, Missing}
use Rattle.cpi_survey.specs.declared.mark.Reason.TheVariants.{Stock}
use Rattle.cpi_store.specs.declared.given.Given.{Given}
use Rattle.cpi_index.specs.Carried.{Carried}
use Rattle.cpi_release.specs.declared.level.Level.{Level}
use Rattle.cpi_sql_rows.specs.Lists.{item_in, calendar_in, assignment_in_row, quote_in, node_in, header_in}
use Rattle.cpi_sql_rows.specs.Lists.{frozen_in, carried_in_row, level_in_row}

-- ---- values. A row is its rowid, and then its columns; if the key is the rowid, its column is NULL

-- a value that is this number
abbrev pub cell : ℕ → Value
cell n = Int (pos n)

-- a text as a value
abbrev pub word : List ℕ → Value
word text = Text text

-- the code RICE, whose bytes with eight zeros after them are this number
abbrev pub rice_code : ℕ
rice_code = 25466340061561856917373976576

-- the code of rice
abbrev pub rice : Code
rice = record { division = 1; group = Some 1; class = Some 1; subclass = Some 1; aggregate = Some 1; valid = refl }

-- the code of flour
abbrev pub flour : Code
flour = record { division = 1; group = Some 1; class = Some 1; subclass = Some 2; aggregate = Some 1; valid = refl }

-- the code of the subclass above it
abbrev pub flours : Code
flours = record { division = 1; group = Some 1; class = Some 1; subclass = Some 2; aggregate = None; valid = refl }

-- ---- items

-- a row of an item with these tolerances
abbrev pub item_row : ℕ → ℕ → Row
item_row low high =
    cell 1 ∷ word (codes "RICE") ∷ word (codes "Rice, white") ∷ word (codes "1 kg") ∷ cell low ∷ cell high ∷ []

-- which rows are items
abbrev pub Items : Type 0
Items =
    (item_in (item_row 700 1500) ≡ Some (record {
      code = rice_code;
      text = codes "Rice, white";
      unit = codes "1 kg";
      low = 700;
      high = 1500;
    }))
    × (item_in (item_row 0 1500) ≡ None)
    × (item_in (item_row 700 999) ≡ None)

-- ---- calendar: January 2026 is month 312

-- a row of the calendar with these moments
abbrev pub worked_calendar_row : ℕ → ℕ → ℕ → ℕ → Row
worked_calendar_row month opens closes publishes =
    cell month ∷ Null ∷ cell opens ∷ cell closes ∷ cell publishes ∷ []

-- which rows are of the calendar
abbrev pub Calendar : Type 0
Calendar =
    (calendar_in (worked_calendar_row 202601 1000 2000 3000) ≡ Some (record {
      month = 312;
      opens = 1000;
      closes = 2000;
      publishes = 3000;
    }))
    × (calendar_in (worked_calendar_row 202613 1000 2000 3000) ≡ None)
    × (calendar_in (worked_calendar_row 202600 1000 2000 3000) ≡ None)
    × (calendar_in (worked_calendar_row 202601 2000 2000 3000) ≡ None)

-- ---- quotes of collector 7: December 2025 is month 311

-- a row of a quote with this mark, value and receipt
abbrev pub quote_with : List ℕ → ℕ → ℕ → Row
quote_with mark value receipt =
    cell 5 ∷ cell 7 ∷ cell 4 ∷ cell 202512 ∷ word mark ∷ cell value ∷ cell receipt ∷ []

-- a row of a quote with this mark and value
abbrev pub quote_row : List ℕ → ℕ → Row
quote_row mark value = quote_with mark value 9

-- which rows are quotes
abbrev pub Quotes : Type 0
Quotes =
    (quote_in (quote_row (codes "price") 200)
    ≡ Some (7, record { slot = 4; month = 311; mark = Price 200; receipt = 9 }))
    × (quote_in (quote_row (codes "stock") 0)
    ≡ Some (7, record { slot = 4; month = 311; mark = Missing Stock; receipt = 9 }))
    × (quote_in (quote_row (codes "price") 0) ≡ None)
    × (quote_in (quote_row (codes "prices") 200) ≡ None)

-- a price that was stored with this receipt
abbrev pub receipt_row : ℕ → Row
receipt_row receipt = quote_with (codes "price") 200 receipt

-- the receipts of a collector: 1 to 1,000,000
abbrev pub Receipts : Type 0
Receipts =
    (quote_in (receipt_row 1) ≡ Some (7, record { slot = 4; month = 311; mark = Price 200; receipt = 1 }))
    × (quote_in (receipt_row 1000000) ≡ Some (7, record { slot = 4; month = 311; mark = Price 200; receipt = 1000000 }))
    × (quote_in (receipt_row 0) ≡ None)
    × (quote_in (receipt_row 1000001) ≡ None)

-- ---- assignments of collector 7: December 2026 is month 323

-- a row of an assignment with this series and copied price
abbrev pub assignment_row : ℕ → ℕ → ℕ → Value → Row
assignment_row slot series_collector series_slot copied =
    cell 5 ∷ cell 7 ∷ cell slot ∷ cell 10 ∷ word (codes "RICE") ∷ cell 202512 ∷ cell 202612
    ∷ cell series_collector ∷ cell series_slot ∷ copied ∷ []

-- what a slot was given with this series and copied price
abbrev pub given_with : SeriesId → Option ℕ → Given
given_with series copied = record {
  assignment = record {
    slot = 400;
    outlet = 10;
    item = rice_code;
    first_month = 311;
    last_month = 323;
    copied = copied;
  };
  series = series;
}

-- a slot with its own series, and one that took over slot 2 of collector 9 with and without a price
abbrev pub Assignments : Type 0
Assignments =
    (assignment_in_row (assignment_row 400 7 400 Null)
    ≡ Some (7, given_with (record { collector = 7; slot = 400 }) None))
    × (assignment_in_row (assignment_row 400 9 2 Null) ≡ Some (7, given_with (record { collector = 9; slot = 2 }) None))
    × (assignment_in_row (assignment_row 400 9 2 (cell 1250))
    ≡ Some (7, given_with (record { collector = 9; slot = 2 }) (Some 1250)))
    × (assignment_in_row (assignment_row 401 7 401 Null) ≡ None)
    × (assignment_in_row (assignment_row 400 10000 2 Null) ≡ None)
    × (assignment_in_row (assignment_row 400 9 401 Null) ≡ None)
    × (assignment_in_row (assignment_row 400 9 2 (cell 0)) ≡ None)
    × (assignment_in_row (assignment_row 400 9 2 (cell 100000001)) ≡ None)
    × (assignment_in_row (assignment_row 400 9 2 (word (codes "1250"))) ≡ None)

-- ---- nodes

-- a row of a node with this code
abbrev pub node_row : List ℕ → Row
node_row code = cell 5 ∷ cell 2026 ∷ word code ∷ word (codes "Rice, packed") ∷ cell 600000 ∷ []

-- which rows are nodes
abbrev pub Nodes : Type 0
Nodes =
    (node_in (node_row (codes "01.1.1.1-01"))
    ≡ Some (2026, record { code = rice; title = codes "Rice, packed"; weight = 600000 }))
    × (node_in (node_row (codes "01.1.1.1-00")) ≡ None)

-- ---- releases: revision 2 of January 2026 has the number 3122

-- a row of a header with these aggregates that may be carried
abbrev pub header_row : List ℕ → Row
header_row carry = cell 5 ∷ cell 202601 ∷ cell 2 ∷ cell 2000 ∷ cell 3000 ∷ word carry ∷ []

-- which rows are headers
abbrev pub Headers : Type 0
Headers =
    (header_in (header_row (codes "01.1.1.1-01 01.1.1.2-01"))
    ≡ Some (record { month = 312; revision = 2; frozen_at = 2000; publishes = 3000; carry = rice ∷ flour ∷ [] }))
    × (header_in (header_row []) ≡ Some (record {
      month = 312;
      revision = 2;
      frozen_at = 2000;
      publishes =
          3000;
      carry = [];
    }))
    × (header_in (header_row (codes "01.1.1.1-01  01.1.1.2-01")) ≡ None)

-- a row of a frozen quote with this revision
abbrev pub worked_frozen_row : ℕ → Row
worked_frozen_row last =
    cell 5 ∷ cell 202601 ∷ cell 2 ∷ cell 7 ∷ cell 1 ∷ word (codes "RICE") ∷ cell last ∷ word (codes "price")
    ∷ cell 210 ∷ []

-- which rows are frozen quotes
abbrev pub FrozenQuotes : Type 0
FrozenQuotes =
    (frozen_in (worked_frozen_row 202612) ≡ Some (
      3122,
      record {
        series = record { collector = 7; slot = 1 };
        item = rice_code;
        last_month = 323;
        mark = Price 210;
      },
    ))
    × (frozen_in (worked_frozen_row 202613) ≡ None)

-- observed as a replacement, at 3,040,000 ticks for 400
abbrev pub worked_carried_row : ℕ → Row
worked_carried_row imputed =
    cell 5 ∷ cell 202603 ∷ cell 1 ∷ cell 7 ∷ cell 2 ∷ word (codes "RICE") ∷ cell 202612 ∷ cell 3040000
    ∷ cell 3040000 ∷ cell 400 ∷ cell 1 ∷ cell imputed ∷ []

-- the carried price of the row
abbrev pub worked_carried_price : Carried
worked_carried_price = record {
  series = record { collector = 7; slot = 2 };
  item = rice_code;
  last_month = 323;
  ticks = 3040000;
  knum = 3040000;
  kden = 400;
  observed = true;
  imputed = false;
}

-- which rows are carried prices
abbrev pub CarriedPrices : Type 0
CarriedPrices =
    (carried_in_row (worked_carried_row 0) ≡ Some (3141, worked_carried_price))
    × (carried_in_row (worked_carried_row 1) ≡ Some (3141, record worked_carried_price { imputed = true }))
    × (carried_in_row (worked_carried_row 2) ≡ None)

-- a row of a table with this code, weight in use and annual change: 98 points, which is 2.0 percent less than the
-- month before
abbrev pub worked_row : List ℕ → ℕ → Value → ℕ → Row
worked_row code weight year_change imputed =
    cell 5 ∷ cell 202601 ∷ cell 2 ∷ word code ∷ word (codes "Flour, wheat") ∷ cell weight
    ∷ cell 98000000 ∷ cell 98000000 ∷ Int (negsuc 19) ∷ year_change ∷ cell imputed ∷ []

-- the row of the elementary aggregate of flour
abbrev pub worked_level_row : ℕ → Value → ℕ → Row
worked_level_row = worked_row (codes "01.1.1.2-01")

-- the row of a table with this code, weight and annual change
abbrev pub level_of : Code → ℕ → Option ℤ → Level
level_of code weight year_change = record {
  code = code;
  title = codes "Flour, wheat";
  weight = weight;
  within = 98000000;
  chained = 98000000;
  month_change = negsuc 19;
  year_change = year_change;
  imputed = false;
}

-- the same of the elementary aggregate of flour
abbrev pub worked_level : ℕ → Option ℤ → Level
worked_level = level_of flour

-- which rows are rows of a table
abbrev pub Levels : Type 0
Levels =
    (level_in_row (worked_level_row 400000 Null 0) ≡ Some (3122, worked_level 400000 None))
    × (level_in_row (worked_level_row 400000 (cell 35) 0) ≡ Some (3122, worked_level 400000 (Some (pos 35))))
    × (level_in_row (worked_level_row 400000 (Int (negsuc 19)) 0) ≡ Some (3122, worked_level 400000 (Some (negsuc 19))))
    × (level_in_row (worked_level_row 400000 (word (codes "0")) 0) ≡ None)
    × (level_in_row (worked_level_row 400000 Null 2) ≡ None)

-- the weights in use of an elementary aggregate: 1 to 10^9
abbrev pub Weights : Type 0
Weights =
    (level_in_row (worked_level_row 1 Null 0) ≡ Some (3122, worked_level 1 None))
    × (level_in_row (worked_level_row 1000000000 Null 0) ≡ Some (3122, worked_level 1000000000 None))
    × (level_in_row (worked_level_row 0 Null 0) ≡ None)
    × (level_in_row (worked_level_row 1000000001 Null 0) ≡ None)

-- the row of the node above that of flour, its subclass
abbrev pub above_row : ℕ → Row
above_row weight = worked_row (codes "01.1.1.2") weight Null 0

-- the level in it
abbrev pub above_with : ℕ → Level
above_with weight = level_of flours weight None

-- the sums of weights in use: 1 to 10^15
abbrev pub SumsOfWeights : Type 0
SumsOfWeights =
    (level_in_row (above_row 1) ≡ Some (3122, above_with 1))
    × (level_in_row (above_row 1000000001) ≡ Some (3122, above_with 1000000001))
    × (level_in_row (above_row 1000000000000000) ≡ Some (3122, above_with 1000000000000000))
    × (level_in_row (above_row 0) ≡ None)
    × (level_in_row (above_row 1000000000000001) ≡ None)
