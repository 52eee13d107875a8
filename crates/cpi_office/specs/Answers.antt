-- The answers of requests that change nothing, and of entries. They depend only on the caller's view.
use Rattle.std.specs.Prelude.{ℕ, List, map, Option, Some, None, Result, Ok, Err}
use Rattle.cpi_release.specs.PublishedTables.{PublishedTable, asked_table, frozen_month_of, printed_bytes}
use Rattle.cpi_release.specs.declared.form.Form.{Form}
use Rattle.cpi_survey.specs.Own.{OwnPart}
use Rattle.cpi_survey.specs.Decision.{entry_decision}
use Rattle.cpi_survey.specs.Within.{quotes_within}
use Rattle.cpi_survey.specs.WorkPart.{WorkPart}
use Rattle.cpi_survey.specs.Work.{work}
use Rattle.cpi_survey.specs.declared.decision.Decision.{Decision}
use Rattle.cpi_survey.specs.declared.decision.Decision.TheVariants.{Again, Put}
use Rattle.cpi_survey.specs.declared.refusal.Refusal.{Refusal as EntryRefusal}
use Rattle.cpi_office.specs.declared.refusal.Refusal.TheVariants as refusal
use Rattle.cpi_office.specs.Refusal.{of_survey}
use Rattle.cpi_office.specs.Projections.{View, OwnView}
use Rattle.cpi_office.specs.declared.caller.Caller.{Caller}
use Rattle.cpi_office.specs.declared.caller.Caller.TheVariants as caller
use Rattle.cpi_office.specs.declared.request.Request.{Request}
use Rattle.cpi_office.specs.declared.request.Request.TheVariants as request
use Rattle.cpi_office.specs.declared.reply.Reply.{Reply}
use Rattle.cpi_office.specs.declared.reply.Reply.TheVariants as reply

-- a table, printed
abbrev pub table_bytes : Form → ℕ → PublishedTable → List ℕ
table_bytes form month t = printed_bytes form month t.revision t.levels

-- the reply with a printed table; without a table it is refusal 30
abbrev pub reply_with_table : Form → ℕ → Option PublishedTable → Reply
reply_with_table form month None = reply.Refused refusal.NoTable
reply_with_table form month (Some t) = reply.Table (table_bytes form month t)

-- the answers of requests that every caller may make
abbrev pub reply_to_read : Request → View → Reply
reply_to_read request.Items v = reply.Items v.public.items
reply_to_read request.Tables v = reply.Tables (map frozen_month_of v.tables)
reply_to_read (request.Table month form edition) v = reply_with_table form month (asked_table month edition v.tables)
reply_to_read _ v = reply.Refused refusal.NotForCaller

-- the reply to an entry, by its decision
abbrev pub decision_reply : Result Decision EntryRefusal → Reply
decision_reply (Err f) = reply.Refused (of_survey f)
decision_reply (Ok (Again receipt)) = reply.Receipt receipt
decision_reply (Ok (Put q)) = reply.Receipt q.receipt

-- the reply with a work list, or with its refusal
abbrev pub work_reply : Result (List WorkPart) EntryRefusal → Reply
work_reply (Err f) = reply.Refused (of_survey f)
work_reply (Ok rows) = reply.Work rows

-- the answer to a collector with this own part
abbrev pub collector_answer : ℕ → Request → View → OwnPart → Reply
collector_answer now (request.Work month) v own = work_reply (work month v.public own)
collector_answer now (request.Quotes first last) v own = reply.Quotes (quotes_within first last own.quotes)
collector_answer now (request.Submit entry) v own = decision_reply (entry_decision now entry v.public own)
collector_answer now r v own = reply_to_read r v

-- the answer to a caller with a key: refusal 11, if the key is unknown
abbrev pub known_answer : ℕ → Request → View → Option OwnView → Reply
known_answer now r v None = reply.Refused refusal.UnknownKey
known_answer now r v (Some own) = collector_answer now r v own.part

-- The answer to a caller, which depends only on the caller's view. The desk gets the public's answers here.
abbrev pub answer : ℕ → Caller → Request → View → Reply
answer now caller.Public r v = reply_to_read r v
answer now caller.Desk r v = reply_to_read r v
answer now (caller.Collector key) r v = known_answer now r v v.own
