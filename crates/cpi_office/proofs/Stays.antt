-- A refusal to a collector or to the public changes nothing.
use Rattle.std.proofs.Common.{◌≡◌, ℕ, Some, None, Option, Result, Ok, Err, refl}
use Rattle.std.specs.Prelude.{IsTrue}
use Rattle.std.proofs.lemmas.Bool.{false≢true}
use Rattle.cpi_survey.specs.Entry.{EntryRow}
use Rattle.cpi_survey.specs.Decision.{entry_decision}
use Rattle.cpi_survey.specs.declared.decision.Decision.{Decision}
use Rattle.cpi_survey.specs.declared.decision.Decision.TheVariants.{Again, Put}
use Rattle.cpi_survey.specs.declared.refusal.Refusal.{Refusal as EntryRefusal}
use Rattle.cpi_store.specs.declared.registration.Registration.{Registration}
use Rattle.cpi_store.specs.Office.{Office}
use Rattle.cpi_office.specs.Calls.{is_refused}
use Rattle.cpi_office.specs.Projections.{View, OwnView, view}
use Rattle.cpi_office.specs.Verdicts.{after_verdict}
use Rattle.cpi_office.specs.Answers.{decision_reply, known_answer}
use Rattle.cpi_office.specs.Entries.{decision_verdict, entry_verdict}
use Rattle.cpi_office.specs.Runs.{reply_to, after_one}
use Rattle.cpi_office.specs.declared.caller.Caller.TheVariants as caller
use Rattle.cpi_office.specs.declared.request.Request.{Request}
use Rattle.cpi_office.specs.declared.request.Request.TheVariants as request

decision_stays : (b : Registration) (entry : EntryRow) (d : Result Decision EntryRefusal) (o : Office) →
    IsTrue (is_refused (decision_reply d)) → after_verdict (Some (decision_verdict b entry d)) o ≡ o
decision_stays b entry (Err f) o refused = refl
decision_stays b entry (Ok (Again receipt)) o refused = refl
decision_stays b entry (Ok (Put q)) o refused = absurd (false≢true refused)

entry_stays : (key now : ℕ) (entry : EntryRow) (v : View) (own : Option OwnView) (o : Office) →
    IsTrue (is_refused (known_answer now (request.Submit entry) v own)) →
    after_verdict (entry_verdict key now entry v own) o ≡ o
entry_stays key now entry v None o refused = refl
entry_stays key now entry v (Some own) o refused = decision_stays (record { number = own.number; key = key }) entry
    (entry_decision now entry v.public own.part) o refused

pub collector_stays : (key now : ℕ) (r : Request) (o : Office) →
    IsTrue (is_refused (reply_to now (caller.Collector key) r o)) → after_one now (caller.Collector key) r o ≡ o
collector_stays key now (request.Submit entry) o refused =
    entry_stays key now entry (view (caller.Collector key) now o) (view (caller.Collector key) now o).own o refused
collector_stays key now request.Items o refused = refl
collector_stays key now request.Tables o refused = refl
collector_stays key now (request.Table month form edition) o refused = refl
collector_stays key now (request.Work month) o refused = refl
collector_stays key now (request.Quotes first last) o refused = refl
collector_stays key now (request.PutItem i) o refused = refl
collector_stays key now (request.Register b) o refused = refl
collector_stays key now (request.PutOutlet u) o refused = refl
collector_stays key now (request.Assign n a) o refused = refl
collector_stays key now (request.HandOver h) o refused = refl
collector_stays key now (request.PutPlan year body) o refused = refl
collector_stays key now (request.PutCalendar row) o refused = refl
collector_stays key now (request.Freeze month carry) o refused = refl
