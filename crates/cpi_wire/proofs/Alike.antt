-- The answer to a record of a caller depends only on what that caller sees: an instance of equal responses under any
-- rules, any parser and any printer.
use Rattle.std.proofs.Common.{◌≡◌, ◌≢◌, ◌∙◌, sym, ap, subst, ℕ, List, []}
use Rattle.cpi_codes.specs.Zone.{ZoneRule}
use Rattle.cpi_release.specs.State.{State}
use Rattle.cpi_store.specs.Office.{Office}
use Rattle.cpi_store.specs.Sound.{IsSound}
use Rattle.cpi_office.specs.Answers.{answer as answer_from}
use Rattle.cpi_office.specs.Entries.{of_collector}
use Rattle.cpi_office.specs.Projections.{view}
use Rattle.cpi_office.specs.ProjectedChanges.{sights_of}
use Rattle.cpi_office.specs.Runs.{reply_to, request_verdict, replies, after, trace}
use Rattle.cpi_office.specs.Served.{all_served}
use Rattle.cpi_office.specs.declared.caller.Caller.{Caller}
use Rattle.cpi_office.specs.declared.caller.Caller.TheVariants.{Desk}
use Rattle.cpi_office.specs.declared.request.Ask.{Ask as Asking}
use Rattle.cpi_office.specs.declared.reply.Reply.{Reply}
use Rattle.cpi_office.proofs.Fit.{judged_fit}
use Rattle.cpi_office.proofs.IsolationOfMessages.{responses_are_alike, replied_by_view, judged_by_view}
use Rattle.cpi_office.proofs.RebuiltProjections.{sound_runs}
use Rattle.cpi_wire.specs.Answer.{Answer}
use Rattle.cpi_wire.specs.declared.asks.Ask.{Ask}
use Rattle.cpi_wire.specs.Input.{Record}
use Rattle.cpi_wire.specs.Laws.{requests_of_record, requests_of_records, replies_of}
use Rattle.cpi_wire.specs.Lines.{IsFrom, moment_of, IsLastAnswer, LinesAreAlike}
use Rattle.cpi_wire.specs.Printed.{printed_line}
use Rattle.cpi_wire.specs.Record.{ask_of}
use Rattle.cpi_wire.specs.Rows.{answer_line}
use Rattle.cpi_wire.proofs.Printed.{lines_are_printed, record_clean, requests_of}
use Rattle.cpi_wire.proofs.Runs.{records_are_a_run}

-- ---- a caller's record, or message, over two offices under the office's own rules

-- `print` is any printer of the replies; `front` and `others` are the requests before it
pub printed_alike : (print : List Reply → List ℕ) (asked : Ask) (k : Caller) → k ≢ Desk → IsFrom k asked →
    (front others : List Asking) (o u : Office) → IsSound o → IsSound u →
    view k (moment_of asked) o ≡ view k (moment_of asked) u →
    sights_of k (moment_of asked) (trace front o) ≡ sights_of k (moment_of asked) (trace others u) →
    print (replies (requests_of_record asked) (after front o))
    ≡ print (replies (requests_of_record asked) (after others u))
printed_alike print asked k other from front others o u s z same shown =
    responses_are_alike answer_from of_collector reply_to reply_to request_verdict request_verdict judged_fit judged_fit
    judged_by_view judged_by_view replied_by_view replied_by_view (λ message. requests_of_record asked)
    (λ message. print) [] k (moment_of asked) other (requests_of k asked from) front others o u s.orderly
    z.orderly same shown

-- ---- over books

module _ {B : Type 0} (state : B → State Office) where
  -- the office that a caller's record meets
  pub meets : (zone : ZoneRule) (k : Caller) (start : B) (row : Record) (answered : Answer)
      (is : IsLastAnswer state zone k start row answered)
      → IsSound (state is.mid).held × ((state is.mid).held ≡ after
      (all_served (requests_of_records zone is.rows) (replies_of zone is.rows is.replies)) (state start).held)
  meets zone k start row answered is =
      let ran = records_are_a_run state zone start is.mid is.rows is.replies is.before in
      let run = ran.run (record_clean state is.mid is.end (ask_of zone row) answered is.one is.clean) is.sound in
      let front = all_served (requests_of_records zone is.rows) (replies_of zone is.rows is.replies) in
      (subst IsSound (sym run.office) (sound_runs front (state start).held is.sound), run.office)

  -- its line is what the office prints after the requests before it
  line_is : (zone : ZoneRule) (k : Caller) (start : B) (row : Record) (answered : Answer)
      (is : IsLastAnswer state zone k start row answered)
      → answer_line answered ≡ printed_line (ask_of zone row) (replies (requests_of_record (ask_of zone row)) (after
      (all_served (requests_of_records zone is.rows) (replies_of zone is.rows is.replies)) (state start).held))
  line_is zone k start row answered is =
      let met = meets zone k start row answered is in
      lines_are_printed state zone row answered is.mid is.end is.one is.clean met.0 is.served
      ∙ ap (λ o. printed_line (ask_of zone row) (replies (requests_of_record (ask_of zone row)) o)) met.1

pub lines_are_alike : {B C : Type 0} (state : B → State Office) (state' : C → State Office)
    → LinesAreAlike state state'
lines_are_alike state state' zone k row answered answered' start start' is is' other same shown =
    line_is state zone k start row answered is
    ∙ printed_alike (printed_line (ask_of zone row)) (ask_of zone row) k other is.caller
    (all_served (requests_of_records zone is.rows) (replies_of zone is.rows is.replies))
    (all_served (requests_of_records zone is'.rows) (replies_of zone is'.rows is'.replies))
    (state start).held (state' start').held is.sound is'.sound same shown
    ∙ sym (line_is state' zone k start' row answered' is')
