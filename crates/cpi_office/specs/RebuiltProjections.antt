-- Projections after a run: what a reply to a collector or to the public comes from.
use Rattle.std.specs.Prelude.{◌≡◌, ◌≢◌, ℕ, IsFalse, List, Some, slice_get, take}
use Rattle.cpi_store.specs.Office.{Office}
use Rattle.cpi_office.specs.Projections.{view}
use Rattle.cpi_office.specs.Answers.{answer}
use Rattle.cpi_office.specs.Calls.{is_failure_of}
use Rattle.cpi_office.specs.OneChange.{ChangesRows}
use Rattle.cpi_office.specs.Served.{all_served}
use Rattle.cpi_office.specs.declared.request.Ask.{Ask}
use Rattle.cpi_office.specs.declared.reply.Reply.{Reply}
use Rattle.cpi_office.specs.declared.caller.Caller.TheVariants.{Desk}

-- the requests before the place, without those that were answered 90
abbrev pub served_before : ℕ → List Ask → List Reply → List Ask
served_before place asks rs = all_served (take place asks) (take place rs)

-- Each reply but 90 to a collector or to the public is the answer from the caller's view as it was then: the requests
-- before it had changed the rows that they asked for, at most one each, and the view by what the caller sees of those.
abbrev pub AreFromViews : Office → List Ask → List Reply → Type 0
AreFromViews o asks rs =
    (place : ℕ) (a : Ask) (r : Reply) →
    slice_get asks place ≡ Some a → slice_get rs place ≡ Some r → IsFalse (is_failure_of r) → a.caller ≢ Desk →
    (mid : Office) × ChangesRows (served_before place asks rs) o mid
    × (r ≡ answer a.now a.caller a.request (view a.caller a.now mid))
