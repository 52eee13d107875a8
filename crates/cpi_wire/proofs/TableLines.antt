-- The line of a table is the computed one's.
use Rattle.std.proofs.Common.{◌≡◌, ◌∙◌, ap, refl, subst, ℕ, Option}
use Rattle.cpi_release.specs.State.{State}
use Rattle.cpi_release.specs.declared.form.Form.{Form}
use Rattle.cpi_store.specs.Office.{Office}
use Rattle.cpi_store.specs.Sound.{IsSound}
use Rattle.cpi_office.specs.ComputedTables.{computed_reply, IsKnown}
use Rattle.cpi_office.specs.Served.{NoneFails}
use Rattle.cpi_office.specs.declared.caller.Caller.{Caller}
use Rattle.cpi_office.specs.declared.request.Ask.{Ask as Asking}
use Rattle.cpi_office.specs.declared.request.Request.TheVariants.{Table}
use Rattle.cpi_office.proofs.ComputedTables.{tables_are_told, run_tables}
use Rattle.cpi_wire.specs.Answer.{Answer}
use Rattle.cpi_wire.specs.Answer as answer
use Rattle.cpi_wire.specs.Answers.{Answers}
use Rattle.cpi_wire.specs.Laws.{requests_of_records, replies_of}
use Rattle.cpi_wire.specs.Lines.{all_replies}
use Rattle.cpi_wire.specs.Rows.{answer_line}
use Rattle.cpi_wire.specs.TableLines.{TableLinesAreComputed, ReplaysReportTables}
use Rattle.cpi_wire.specs.declared.asks.Ask.TheVariants as ask
use Rattle.cpi_wire.proofs.Alike.{meets}
use Rattle.cpi_wire.proofs.Printed.{is_served}
use Rattle.cpi_wire.proofs.Runs.{records_are_a_run}

module _ {B : Type 0} (state : B → State Office) where
  -- the answer to one request for a table
  pub answer_is_computed : (now month : ℕ) (form : Form) (revision : Option ℕ) (k : Caller) (p q : B)
      (answered : Answer)
      → Answers state p (ask.One now k (Table month form revision)) answered q → (state q).is_clean
      → IsSound (state p).held → IsKnown k (state p).held → NoneFails (all_replies answered)
      → answered ≡ answer.One (computed_reply now month form revision (state p).held)
  answer_is_computed now month form revision k p q (answer.One reply) a clean s known fair =
      let one : Asking = record { now = now; caller = k; request = Table month form revision } in
      ap answer.One ((is_served state now k one.request p q reply a clean s fair.0).0
      ∙ tables_are_told one (state p).held s month form revision refl known)
  answer_is_computed now month form revision k p q (answer.Rows replies) a clean s known fair = absurd a

  pub table_lines_are_computed : TableLinesAreComputed state
  table_lines_are_computed zone k row answered start is now month form revision asks known =
      ap answer_line (answer_is_computed now month form revision k is.mid is.end answered
      (subst (λ a. Answers state is.mid a answered is.end) asks is.one) is.clean
      (meets state zone k start row answered is).0 known is.served)

  pub replays_report_tables : ReplaysReportTables state
  replays_report_tables zone old new rows answers a clean s =
      run_tables (state old).held (state new).held (requests_of_records zone rows) (replies_of zone rows answers) s
      ((records_are_a_run state zone old new rows answers a).run clean s)
