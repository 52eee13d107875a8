-- Runs of requests: the reply to each, and the office after it.
use Rattle.std.specs.Prelude.{[], ℕ, List, ◌∷◌, ◌++◌, Option, Some, None}
use Rattle.cpi_store.specs.Office.{Office, Change}
use Rattle.cpi_office.specs.Projections.{view}
use Rattle.cpi_office.specs.declared.caller.Caller.{Caller}
use Rattle.cpi_office.specs.declared.caller.Caller.TheVariants as caller
use Rattle.cpi_office.specs.declared.request.Request.{Request}
use Rattle.cpi_office.specs.declared.request.Ask.{Ask}
use Rattle.cpi_office.specs.declared.reply.Reply.{Reply}
use Rattle.cpi_office.specs.Verdicts.{Verdict, verdict_reply, after_verdict, new_changes}
use Rattle.cpi_office.specs.Desk.{command_verdict}
use Rattle.cpi_office.specs.Entries.{of_collector}
use Rattle.cpi_office.specs.Isolation.{office_next, office_after, replies_in_turn, accepted}
use Rattle.cpi_office.specs.Answers.{answer}

-- the verdict on a request; None for one that changes nothing
abbrev pub request_verdict : ℕ → Caller → Request → Office → Option Verdict
request_verdict now caller.Public r o = None
request_verdict now caller.Desk r o = command_verdict now r o
request_verdict now (caller.Collector key) r o = of_collector key now r (view (caller.Collector key) now o)

-- the reply to the desk: by the verdict, if the request is a command
abbrev pub desk_reply : Reply → Option Verdict → Reply
desk_reply told None = told
desk_reply told (Some v) = verdict_reply v

-- The reply. To a collector and to the public it is the answer from the view.
abbrev pub reply_to : ℕ → Caller → Request → Office → Reply
reply_to now caller.Public r o = answer now caller.Public r (view caller.Public now o)
reply_to now (caller.Collector key) r o = answer now (caller.Collector key) r (view (caller.Collector key) now o)
reply_to now caller.Desk r o = desk_reply (answer now caller.Desk r (view caller.Desk now o)) (command_verdict now r o)

-- the office after a request
abbrev pub after_one : ℕ → Caller → Request → Office → Office
after_one now k r o = after_verdict (request_verdict now k r o) o

abbrev pub next : Ask → Office → Office
next a o = office_next request_verdict a o

abbrev pub replies : List Ask → Office → List Reply
replies asks o = replies_in_turn reply_to request_verdict asks o

abbrev pub after : List Ask → Office → Office
after asks o = office_after request_verdict asks o

-- the accepted changes of a run, in order
abbrev pub trace : List Ask → Office → List Change
trace asks o = accepted request_verdict asks o

-- the changes that a run made, in order
abbrev pub changes : List Ask → Office → List Change
changes [] o = []
changes (a ∷ asks) o = new_changes (request_verdict a.now a.caller a.request o) ++ changes asks (next a o)
