-- The projection of accepted changes to the rows that one caller sees, and the view with those rows.
use Rattle.std.specs.Prelude.{ℕ, Bool, false, ◌==◌, nat_le, if◌then◌else◌}
use Rattle.std.specs.Prelude.{List, [], ◌∷◌, ◌++◌, Option, Some, None, option_map}
use Rattle.std.specs.List.{flat_map}
use Rattle.cpi_rows.specs.Keyed.{with_row, put_by}
use Rattle.cpi_survey.specs.Quote.{QuoteRow, quote_cmp, quote_key}
use Rattle.cpi_plan.specs.declared.items.Item.{Item}
use Rattle.cpi_plan.specs.Plan.{Plan}
use Rattle.cpi_plan.specs.Calendar.{CalendarPart}
use Rattle.cpi_survey.specs.Assignment.{with_last_month}
use Rattle.cpi_survey.specs.declared.assignment.Assigned.{Assigned}
use Rattle.cpi_store.specs.declared.registration.Registration.{Registration}
use Rattle.cpi_store.specs.Office.{Change, PutsItem, PutsPlan, PutsCalendar, Registers, PutsOutlet}
use Rattle.cpi_store.specs.Office.{Assigns, HandsOver, Quotes, Freezes}
use Rattle.cpi_release.specs.FrozenMonths.{release_cmp}
use Rattle.cpi_release.specs.PublishedTables.{PublishedTable, published_table, published_key}
use Rattle.cpi_office.specs.Projections.{View, OwnView}
use Rattle.cpi_office.specs.declared.caller.Caller.{Caller}
use Rattle.cpi_office.specs.declared.caller.Caller.TheVariants as caller

-- a row that a caller sees
pub data Sight : Type 0 where
  SeesItem : Item → Sight
  SeesPlan : Plan → Sight
  SeesCalendar : CalendarPart → Sight
  IsRegistered : ℕ → Sight
  IsAssigned : Assigned → Sight
  HasEnded : ℕ → ℕ → Sight  -- the slot, with its last month
  HasQuoted : QuoteRow → Sight
  SeesTable : PublishedTable → Sight

-- the registration is the caller's own
abbrev pub is_registration_of : Caller → Registration → Bool
is_registration_of (caller.Collector key) b = b.key == key
is_registration_of caller.Public b = false
is_registration_of caller.Desk b = false

abbrev pub seen_if : Bool → Sight → List Sight
seen_if sees s = if sees then s ∷ [] else []

-- the rows of one change that a caller sees at t: the public specification, the caller's own rows, and tables published
-- by t
abbrev pub sights : Caller → ℕ → Change → List Sight
sights k t (PutsItem i) = SeesItem i ∷ []
sights k t (PutsPlan p) = SeesPlan p ∷ []
sights k t (PutsCalendar r) = SeesCalendar r ∷ []
sights k t (PutsOutlet u) = []
sights k t (Registers b) = seen_if (is_registration_of k b) (IsRegistered b.number)
sights k t (Assigns b a) = seen_if (is_registration_of k b) (IsAssigned a)
-- of a hand-over each of the two collectors sees only the own side
sights k t (HandsOver h) =
    seen_if (is_registration_of k h.former) (HasEnded h.ended.assignment.slot h.ended.assignment.last_month)
    ++ seen_if (is_registration_of k h.taker) (IsAssigned h.assigned)
sights k t (Quotes b q) = seen_if (is_registration_of k b) (HasQuoted q)
sights k t (Freezes r) = seen_if (nat_le r.publishes t) (SeesTable (published_table r))

-- the projection of a list of changes
abbrev pub sights_of : Caller → ℕ → List Change → List Sight
sights_of k t changes = flat_map (sights k t) changes

abbrev pub with_number : ℕ → Option OwnView → OwnView
with_number n None = record { number = n; part = record { assignments = []; quotes = [] } }
with_number n (Some own) = record { number = n; part = own.part }

abbrev pub with_assigned : Assigned → OwnView → OwnView
with_assigned a own =
    record own { part = record own.part { assignments = put_by (λ a. a.assignment.slot) a own.part.assignments } }

abbrev pub with_end : ℕ → ℕ → OwnView → OwnView
with_end slot last_month own =
    record own { part = record own.part { assignments = with_last_month slot last_month own.part.assignments } }

abbrev pub with_quote : QuoteRow → OwnView → OwnView
with_quote q own = record own { part = record own.part { quotes = with_row quote_cmp quote_key q own.part.quotes } }

-- the view with one more row in its place
abbrev pub view_with : Sight → View → View
view_with (SeesItem i) v = record v { public = record v.public { items = put_by (λ i. i.code) i v.public.items } }
view_with (SeesPlan p) v = record v { public = record v.public { plans = put_by (λ y. y.year) p v.public.plans } }
view_with (SeesCalendar r) v =
    record v { public = record v.public { calendar = put_by (λ r. r.month) r v.public.calendar } }
view_with (SeesTable i) v = record v { tables = with_row release_cmp published_key i v.tables }
view_with (IsRegistered n) v = record v { own = Some (with_number n v.own) }
view_with (IsAssigned a) v = record v { own = option_map (with_assigned a) v.own }
view_with (HasEnded slot last_month) v = record v { own = option_map (with_end slot last_month) v.own }
view_with (HasQuoted q) v = record v { own = option_map (with_quote q) v.own }

-- the view with these rows, one after the other
abbrev pub build : View → List Sight → View
build v [] = v
build v (s ∷ sights) = build (view_with s v) sights
