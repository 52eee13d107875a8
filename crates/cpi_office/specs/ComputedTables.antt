-- The answer to a request for a table: the printed table that the index gives over the frozen quotes and weights.
use Rattle.std.specs.Prelude.{◌≡◌, ⊤, ℕ, IsFalse, IsSome, List, Option, Some, map, slice_get}
use Rattle.cpi_release.specs.declared.form.Form.{Form}
use Rattle.cpi_release.specs.Releasing.{all_released, freeze_of}
use Rattle.cpi_release.specs.PublishedTables.{PublishedTable, asked_table, published_until}
use Rattle.cpi_store.specs.Registration.{registration_of}
use Rattle.cpi_store.specs.Office.{Office}
use Rattle.cpi_store.specs.Sound.{IsSound}
use Rattle.cpi_office.specs.Answers.{reply_with_table}
use Rattle.cpi_office.specs.Calls.{is_failure_of}
use Rattle.cpi_office.specs.RebuiltProjections.{served_before}
use Rattle.cpi_office.specs.Runs.{after, reply_to}
use Rattle.cpi_office.specs.declared.caller.Caller.{Caller}
use Rattle.cpi_office.specs.declared.caller.Caller.TheVariants.{Public, Collector, Desk}
use Rattle.cpi_office.specs.declared.reply.Reply.{Reply}
use Rattle.cpi_office.specs.declared.request.Ask.{Ask}
use Rattle.cpi_office.specs.declared.request.Request.TheVariants.{Table}

-- the tables that the index gives over the frozen quotes and weights, month by month, whose publishing moment has come
abbrev pub computed_tables : ℕ → Office → List PublishedTable
computed_tables now o = published_until now (all_released o.plans (map freeze_of o.releases))

-- Of these the month's table, printed, in the revision that is named or else in the latest one. If there is none, the
-- answer is refusal 30.
abbrev pub computed_reply : ℕ → ℕ → Form → Option ℕ → Office → Reply
computed_reply now month form revision o =
    reply_with_table form month (asked_table month revision (computed_tables now o))

-- the caller isn't turned away
abbrev pub IsKnown : Caller → Office → Type 0
IsKnown Public o = ⊤
IsKnown Desk o = ⊤
IsKnown (Collector key) o = IsSome (registration_of key o.collectors)

-- a request for a table is answered so
abbrev pub TellsTable : Ask → Office → Reply → Type 0
TellsTable a o reply =
    (month : ℕ) (form : Form) (revision : Option ℕ) → a.request ≡ Table month form revision → IsKnown a.caller o →
    reply ≡ computed_reply a.now month form revision o

-- from a sound office each request for a table is answered so, whoever asks
abbrev pub TablesAreTold : Type 0
TablesAreTold = (a : Ask) (o : Office) → IsSound o → TellsTable a o (reply_to a.now a.caller a.request o)

-- Each reply but 90 of a run to a request for a table is the one from the office after the requests before it.
abbrev pub TellTables : Office → List Ask → List Reply → Type 0
TellTables o asks rs =
    (place : ℕ) (a : Ask) (r : Reply) →
    slice_get asks place ≡ Some a → slice_get rs place ≡ Some r → IsFalse (is_failure_of r) →
    TellsTable a (after (served_before place asks rs) o) r
