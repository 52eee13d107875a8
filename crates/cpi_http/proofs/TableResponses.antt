-- The response of a table is the computed one's.
use Rattle.std.proofs.Common.{◌∙◌, ap, subst, Ok}
use Rattle.cpi_release.specs.State.{State}
use Rattle.cpi_store.specs.Office.{Office}
use Rattle.cpi_office.specs.declared.request.Request.TheVariants.{Table}
use Rattle.cpi_office.proofs.ComputedTables.{run_tables}
use Rattle.cpi_wire.specs.Answers.{Answers}
use Rattle.cpi_wire.specs.Laws.{requests_of_asks, replies_of_asks}
use Rattle.cpi_wire.specs.declared.asks.Ask.TheVariants as ask
use Rattle.cpi_wire.proofs.TableLines.{answer_is_computed}
use Rattle.cpi_http.specs.Laws.{TableResponsesAreComputed, MessagesReportTables}
use Rattle.cpi_http.specs.Response.{ask_in, response_to, body_bytes}
use Rattle.cpi_http.proofs.Alike.{messages_are_a_run, meets}

module _ {B : Type 0} (state : B → State Office) where
  pub table_responses_are_computed : TableResponsesAreComputed state
  table_responses_are_computed s k taken m answered start is now month form revision asks known =
      ap (λ x. body_bytes (response_to x answered)) asks
      ∙ ap (λ a. body_bytes (response_to (Ok (ask.One now k (Table month form revision))) a))
      (answer_is_computed state now month form revision k is.mid is.end answered
      (subst (λ x. Answers state is.mid (ask_in x) answered is.end) asks is.one) is.clean
      (meets state s k start taken m answered is).0 known is.served)

  pub messages_report_tables : MessagesReportTables state
  messages_report_tables old new asks answers a clean s =
      run_tables (state old).held (state new).held (requests_of_asks asks) (replies_of_asks asks answers) s
      ((messages_are_a_run state old new asks answers a).run clean s)
