-- The line of a table: the printed table that the index gives over the frozen quotes and weights.
use Rattle.std.specs.Prelude.{◌≡◌, ℕ, List, Option}
use Rattle.cpi_codes.specs.Zone.{ZoneRule}
use Rattle.cpi_release.specs.State.{State}
use Rattle.cpi_release.specs.declared.form.Form.{Form}
use Rattle.cpi_store.specs.Office.{Office}
use Rattle.cpi_store.specs.Sound.{IsSound}
use Rattle.cpi_office.specs.ComputedTables.{computed_reply, IsKnown, TellTables}
use Rattle.cpi_office.specs.declared.caller.Caller.{Caller}
use Rattle.cpi_office.specs.declared.request.Request.TheVariants.{Table}
use Rattle.cpi_wire.specs.Answer.{Answer}
use Rattle.cpi_wire.specs.Input.{Record}
use Rattle.cpi_wire.specs.Laws.{requests_of_records, replies_of}
use Rattle.cpi_wire.specs.Line.{line_of_reply}
use Rattle.cpi_wire.specs.Lines.{IsLastAnswer}
use Rattle.cpi_wire.specs.Record.{ask_of}
use Rattle.cpi_wire.specs.Records.{AnswersAll}
use Rattle.cpi_wire.specs.Rows.{answer_line}
use Rattle.cpi_wire.specs.declared.asks.Ask.TheVariants as ask

-- From a sound office some records were answered, and then one that asks for a table: its line is that of the printed
-- table that the index gives over the quotes and weights frozen by then, in the revision that is named, or else in the
-- latest that is published; if there is none, that of the refusal.
abbrev pub TableLinesAreComputed : {B : Type 0} → (B → State Office) → Type 0
TableLinesAreComputed {B} state =
    (zone : ZoneRule) (k : Caller) (row : Record) (answered : Answer) (start : B)
    (is : IsLastAnswer state zone k start row answered) (now month : ℕ) (form : Form) (revision : Option ℕ) →
    ask_of zone row ≡ ask.One now k (Table month form revision) → IsKnown k (state is.mid).held →
    answer_line answered ≡ line_of_reply (computed_reply now month form revision (state is.mid).held)

-- All replies of a replay to requests for tables, including rows of imports, are so.
abbrev pub ReplaysReportTables : {B : Type 0} → (B → State Office) → Type 0
ReplaysReportTables {B} state =
    (zone : ZoneRule) (old new : B) (rows : List Record) (answers : List Answer) →
    AnswersAll zone state old rows answers new → (state new).is_clean → IsSound (state old).held →
    TellTables (state old).held (requests_of_records zone rows) (replies_of zone rows answers)
