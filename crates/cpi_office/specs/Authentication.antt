-- Authentication: a key is looked up, and its registration, if there is one, decides the answer and the change.
use Rattle.std.specs.Prelude.{ℕ, Option, option_map}
use Rattle.cpi_store.specs.declared.registration.Registration.{Registration}
use Rattle.cpi_store.specs.Office.{Office, public_part}
use Rattle.cpi_release.specs.PublishedTables.{published_until}
use Rattle.cpi_office.specs.Projections.{View, own_view}
use Rattle.cpi_office.specs.declared.request.Request.{Request}
use Rattle.cpi_office.specs.declared.reply.Reply.{Reply}
use Rattle.cpi_office.specs.Verdicts.{after_verdict}
use Rattle.cpi_office.specs.Entries.{of_collector}
use Rattle.cpi_office.specs.Answers.{known_answer}

-- the view of the registered collector, or of a caller whose key is unknown
abbrev pub collector_view : ℕ → Office → Option Registration → View
collector_view now o registration = record {
  public = public_part o;
  own = option_map (own_view o) registration;
  tables = published_until now o.releases;
}

-- the reply to a request that came with a key of this registration
abbrev pub collector_reply : ℕ → Request → Office → Option Registration → Reply
collector_reply now r o registration =
    known_answer now r (collector_view now o registration) (option_map (own_view o) registration)

-- the office after such a request
abbrev pub collector_after : ℕ → ℕ → Request → Office → Option Registration → Office
collector_after key now r o registration = after_verdict (of_collector key now r (collector_view now o registration)) o
