-- The line of a reply: one JSON text, and a line feed.
use Rattle.std.specs.Prelude.{ℕ, List, [], ◌∷◌, ◌++◌, true, map, filter, codes, Option, Some, None}
use Rattle.std.specs.Int.Digits.{digits_of}
use Rattle.serde_json.specs.Data.{Data, null, boolean}
use Rattle.serde_json.specs.Written.{compact_text}
use Rattle.cpi_codes.specs.ItemCode.{is_no_zero}
use Rattle.cpi_codes.specs.Month.{month_text}
use Rattle.cpi_plan.specs.declared.items.Item.{Item}
use Rattle.cpi_survey.specs.declared.mark.Mark.{Mark}
use Rattle.cpi_survey.specs.declared.mark.Mark.TheVariants.{Price, Missing, Comparable, Other}
use Rattle.cpi_survey.specs.declared.mark.Reason.{Reason}
use Rattle.cpi_survey.specs.declared.mark.Reason.TheVariants.{Stock, Closed, Gone, Refused}
use Rattle.cpi_survey.specs.Quote.{QuoteRow}
use Rattle.cpi_survey.specs.WorkPart.{WorkPart}
use Rattle.cpi_release.specs.declared.frozen_month.FrozenMonth.{FrozenMonth}
use Rattle.cpi_office.specs.declared.reply.Reply.{Reply}
use Rattle.cpi_office.specs.declared.reply.Reply.TheVariants as reply
use Rattle.cpi_wire.specs.Json.{int, text_value, list, object_of_one}
use Rattle.cpi_wire.specs.Refusals.{refusal_data}

abbrev pub reason_name : Reason → List ℕ
reason_name Stock = codes "stock"
reason_name Closed = codes "closed"
reason_name Gone = codes "gone"
reason_name Refused = codes "refused"

abbrev pub name_of_mark : Mark → List ℕ
name_of_mark (Price p) = codes "price"
name_of_mark (Missing r) = codes "missing"
name_of_mark (Comparable p) = codes "comparable"
name_of_mark (Other p) = codes "other"

-- the price of a mark, or the reason why there is none
abbrev pub value_of_mark : Mark → Data
value_of_mark (Price p) = int p
value_of_mark (Missing r) = text_value (reason_name r)
value_of_mark (Comparable p) = int p
value_of_mark (Other p) = int p

-- slot, month, mark, value, receipt
abbrev pub quote_data : QuoteRow → Data
quote_data q =
    list (int q.slot ∷ text_value (month_text q.month) ∷ text_value (name_of_mark q.mark) ∷ value_of_mark q.mark ∷ int
    q.receipt ∷ [])

-- the text of an item code: its bytes, which are its digits in base 256, without the zeros that fill them up
abbrev pub item_text : ℕ → List ℕ
item_text code = filter is_no_zero (digits_of 256 code)

-- code, text, unit, low, high
abbrev pub item_data : Item → Data
item_data i = list (text_value (item_text i.code) ∷ text_value i.text ∷ text_value i.unit ∷ int i.low ∷ int i.high ∷ [])

-- a price, if there is one
abbrev pub price_data : Option ℕ → Data
price_data None = null
price_data (Some p) = int p

abbrev pub mark_data : Option QuoteRow → Data
mark_data None = null
mark_data (Some q) = text_value (name_of_mark q.mark)

abbrev pub receipt_data : Option QuoteRow → Data
receipt_data None = null
receipt_data (Some q) = int q.receipt

-- the slot, the outlet and its name
abbrev pub outlet_fields : WorkPart → List Data
outlet_fields w = int w.slot ∷ int w.outlet ∷ text_value w.outlet_name ∷ []

-- the item, its text and its unit
abbrev pub item_fields : WorkPart → List Data
item_fields w = text_value (item_text w.item) ∷ text_value w.text ∷ text_value w.unit ∷ []

-- the last price, and the mark and the receipt of the stored quote
abbrev pub price_fields : WorkPart → List Data
price_fields w = price_data w.last ∷ mark_data w.quote ∷ receipt_data w.quote ∷ []

abbrev pub work_row_data : WorkPart → Data
work_row_data w = list (outlet_fields w ++ item_fields w ++ price_fields w)

abbrev pub work_data : List WorkPart → Data
work_data rows = object_of_one (codes "work") (list (map work_row_data rows))

abbrev pub quotes_data : List QuoteRow → Data
quotes_data rows = object_of_one (codes "quotes") (list (map quote_data rows))

abbrev pub items_data : List Item → Data
items_data rows = object_of_one (codes "items") (list (map item_data rows))

-- the month of a table, its revision, and the moment at which it is published
abbrev pub frozen_month_data : FrozenMonth → Data
frozen_month_data f = list (text_value (month_text f.month) ∷ int f.revision ∷ int f.publishes ∷ [])

abbrev pub tables_data : List FrozenMonth → Data
tables_data months = object_of_one (codes "tables") (list (map frozen_month_data months))

-- a printed table, as one text
abbrev pub table_data : List ℕ → Data
table_data printed = object_of_one (codes "table") (text_value printed)

abbrev pub data_of : Reply → Data
data_of (reply.Receipt n) = object_of_one (codes "receipt") (int n)
data_of reply.Done = object_of_one (codes "done") (boolean true)
data_of (reply.Work rows) = work_data rows
data_of (reply.Quotes rows) = quotes_data rows
data_of (reply.Items rows) = items_data rows
data_of (reply.Tables months) = tables_data months
data_of (reply.Table printed) = table_data printed
data_of (reply.Refused why) = refusal_data why

-- the line of a reply: JSON without spaces
abbrev pub line_of_reply : Reply → List ℕ
line_of_reply r = compact_text (data_of r) ++ 10 ∷ []
