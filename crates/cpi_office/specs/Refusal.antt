-- The numbers of the refusals, and those of an entry among them.
use Rattle.std.specs.Prelude.{ℕ}
use Rattle.cpi_survey.specs.declared.refusal.Refusal.{Refusal as EntryRefusal}
use Rattle.cpi_survey.specs.declared.refusal.Refusal.TheVariants as entry
use Rattle.cpi_office.specs.declared.refusal.Refusal.{Refusal}
use Rattle.cpi_office.specs.declared.refusal.Refusal.TheVariants as refusal

abbrev pub of_survey : EntryRefusal → Refusal
of_survey entry.UnknownSlot = refusal.UnknownSlot
of_survey entry.UnknownMonth = refusal.UnknownMonth
of_survey entry.NotActive = refusal.NotActive
of_survey entry.NotOpen = refusal.NotOpen
of_survey entry.Closed = refusal.Closed
of_survey entry.NoLastPrice = refusal.NoLastPrice
of_survey (entry.OutOfTolerance last low high) = refusal.OutOfTolerance last low high
of_survey entry.ReceiptsUsedUp = refusal.ReceiptsUsedUp

abbrev pub refusal_number : Refusal → ℕ
refusal_number refusal.BadRequest = 10
refusal_number refusal.UnknownKey = 11
refusal_number refusal.NotForCaller = 12
refusal_number refusal.UnknownSlot = 20
refusal_number refusal.UnknownMonth = 21
refusal_number refusal.NotActive = 22
refusal_number refusal.NotOpen = 23
refusal_number refusal.Closed = 24
refusal_number refusal.NoLastPrice = 25
refusal_number (refusal.OutOfTolerance last low high) = 26
refusal_number refusal.ReceiptsUsedUp = 27
refusal_number refusal.NoTable = 30
refusal_number refusal.Taken = 40
refusal_number refusal.UnknownItem = 41
refusal_number refusal.UnknownOutlet = 42
refusal_number refusal.UnknownCollector = 43
refusal_number (refusal.PlanFault fault) = 44
refusal_number refusal.PlanFrozen = 45
refusal_number refusal.FreezeOrder = 46
refusal_number refusal.FreezeTooEarly = 47
refusal_number refusal.NoPlan = 48
refusal_number (refusal.Index fault) = 49
refusal_number refusal.MonthFrozen = 50
refusal_number refusal.QuotesStand = 51
refusal_number refusal.Unavailable = 90
