-- What is known of the office where a change is accepted.
use Rattle.std.proofs.Common.{◌≡◌, Some, None, Option, false}
use Rattle.std.specs.Prelude.{IsSome, ⊤}
use Rattle.cpi_release.specs.FrozenMonths.{release_cmp, release_key, frozen_months, has_year_frozen}
use Rattle.cpi_store.specs.Released.{IsReleased}
use Rattle.cpi_store.specs.Sound.{IsWellMade, HasNodesInOrder, HasItsAssignment}
use Rattle.cpi_rows.specs.Keyed.{row_at, row_by_number, IsInOrder}
use Rattle.cpi_rows.specs.Held.{held_by}
use Rattle.cpi_store.specs.Registration.{registration_of}
use Rattle.cpi_survey.specs.Quote.{quote_key, quote_cmp}
use Rattle.cpi_store.specs.Office.{Office, Change, PutsItem, PutsPlan, PutsCalendar, Registers, PutsOutlet, Assigns}
use Rattle.cpi_store.specs.Office.{HandsOver, Quotes, Freezes, quotes_of_month, given_over}
use Rattle.cpi_store.specs.Outlet.{with_name}
use Rattle.cpi_store.specs.Series.{first_of_series}
use Rattle.cpi_store.proofs.Changes.{IsHandover}
use Rattle.cpi_office.specs.Verdicts.{Verdict, Refuses, Stands, Makes}

-- a change that is made: what is never replaced is new, a plan is in order, what it speaks of is there, and a release
-- is computed
abbrev pub Fits : Change → Office → Type 0
Fits (PutsItem i) o = row_by_number (λ i. i.code) i.code o.items ≡ None
Fits (PutsPlan p) o = (has_year_frozen p.year (frozen_months o.releases) ≡ false) × HasNodesInOrder p
Fits (PutsCalendar r) o = ⊤
Fits (Registers b) o = (row_by_number (λ b. b.number) b.number o.collectors ≡ None) ×
    (registration_of b.key o.collectors ≡ None)
Fits (PutsOutlet u) o = row_by_number (λ u. u.number) u.number o.outlets ≡ None
Fits (Assigns b a) o =
    (row_by_number (λ g. g.assignment.slot) a.assignment.slot (held_by b.number o.assignments) ≡ None)
    × (row_by_number (λ b. b.number) b.number o.collectors ≡ Some b)
    × IsSome (row_by_number (λ u. u.number) a.assignment.outlet o.outlets)
    × IsSome (row_by_number (λ i. i.code) a.assignment.item o.items)
    × (a ≡ with_name o.outlets a.assignment)
    × IsWellMade (b.number, a.assignment)
Fits (HandsOver h) o =
    IsHandover o.assignments o.quotes h
    × (row_by_number (λ b. b.number) h.former.number o.collectors ≡ Some h.former)
    × (row_by_number (λ b. b.number) h.taker.number o.collectors ≡ Some h.taker)
    × (h.assigned ≡ with_name o.outlets h.assigned.assignment)
Fits (Quotes b q) o = (row_by_number (λ b. b.number) b.number o.collectors ≡ Some b) × HasItsAssignment o.assignments
    (b.number, q)
Fits (Freezes r) o = (IsInOrder release_cmp release_key o.releases →
    row_at release_cmp release_key (release_key r) o.releases ≡ None) × IsReleased o.plans o.releases r
    × (r.frozen ≡ quotes_of_month r.month o)

-- a change whose row stands already
abbrev pub Stood : Change → Office → Type 0
Stood (PutsItem i) o = row_by_number (λ i. i.code) i.code o.items ≡ Some i
Stood (PutsPlan p) o = row_by_number (λ y. y.year) p.year o.plans ≡ Some p
Stood (PutsCalendar r) o = row_by_number (λ r. r.month) r.month o.calendar ≡ Some r
Stood (Registers b) o = row_by_number (λ b. b.number) b.number o.collectors ≡ Some b
Stood (PutsOutlet u) o = row_by_number (λ u. u.number) u.number o.outlets ≡ Some u
Stood (Assigns b a) o =
    (row_by_number (λ g. g.assignment.slot) a.assignment.slot (held_by b.number o.assignments)
    ≡ Some (first_of_series b.number a.assignment))
    × (row_by_number (λ b. b.number) b.number o.collectors ≡ Some b)
    × (a ≡ with_name o.outlets a.assignment)
Stood (HandsOver h) o =
    (row_by_number (λ g. g.assignment.slot) h.ended.assignment.slot (held_by h.former.number o.assignments)
    ≡ Some h.ended)
    × (row_by_number (λ g. g.assignment.slot) h.assigned.assignment.slot (held_by h.taker.number o.assignments)
    ≡ Some (given_over h))
    × (row_by_number (λ b. b.number) h.former.number o.collectors ≡ Some h.former)
    × (row_by_number (λ b. b.number) h.taker.number o.collectors ≡ Some h.taker)
    × (h.assigned ≡ with_name o.outlets h.assigned.assignment)
Stood (Quotes b q) o =
    (row_by_number (λ b. b.number) b.number o.collectors ≡ Some b)
    × (row_at quote_cmp quote_key (q.slot, q.month) (held_by b.number o.quotes) ≡ Some q)
Stood (Freezes r) o = ⊥

abbrev pub Holds : Option Verdict → Office → Type 0
Holds None o = ⊤
Holds (Some (Refuses f)) o = ⊤
Holds (Some (Stands c)) o = Stood c o
Holds (Some (Makes c)) o = Fits c o
