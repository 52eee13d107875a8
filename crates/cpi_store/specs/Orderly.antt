-- What isolation asks of an office: its lists are in order, and the collectors and outlets that its rows name are there.
use Rattle.std.specs.Prelude.{◌≡◌, ℕ, List, Some, IsSome}
use Rattle.std.specs.List.{AllByRecursion}
use Rattle.std.specs.Ordering.{nat_cmp}
use Rattle.cpi_rows.specs.Keyed.{IsInOrder, row_by_number}
use Rattle.cpi_rows.specs.Held.{held_cmp, held_key}
use Rattle.cpi_survey.specs.Quote.{quote_cmp, quote_key}
use Rattle.cpi_release.specs.FrozenMonths.{release_cmp, release_key}
use Rattle.cpi_store.specs.declared.registration.Registration.{Registration}
use Rattle.cpi_store.specs.Registration.{registration_of}
use Rattle.cpi_store.specs.Office.{Office}

-- the key of each registration finds that registration: no two share a key
abbrev pub HaveOwnKeys : List Registration → Type 0
HaveOwnKeys registrations =
    (number : ℕ) (b : Registration) → row_by_number (λ b. b.number) number registrations ≡ Some b → registration_of
    b.key registrations ≡ Some b

abbrev pub ListsCollector : ℕ → Office → Type 0
ListsCollector number o = IsSome (row_by_number (λ b. b.number) number o.collectors)

abbrev pub ListsOutlet : ℕ → Office → Type 0
ListsOutlet number o = IsSome (row_by_number (λ u. u.number) number o.outlets)

-- The lists are in the order of their keys, no two collectors share a key, each assignment has its collector and its
-- outlet, and each quote its collector.
pub record IsOrderly (o : Office) : Type 0 where
  pub items : IsInOrder nat_cmp (λ i. i.code) o.items
  pub plans : IsInOrder nat_cmp (λ y. y.year) o.plans
  pub calendar : IsInOrder nat_cmp (λ r. r.month) o.calendar
  pub collectors : IsInOrder nat_cmp (λ b. b.number) o.collectors
  pub keys : HaveOwnKeys o.collectors
  pub outlets : IsInOrder nat_cmp (λ u. u.number) o.outlets
  pub assignments : IsInOrder (held_cmp nat_cmp) (held_key (λ g. g.assignment.slot)) o.assignments
  pub given : AllByRecursion (λ row. ListsCollector row.0 o × ListsOutlet row.1.assignment.outlet o) o.assignments
  pub quotes : IsInOrder (held_cmp quote_cmp) (held_key quote_key) o.quotes
  pub quoted : AllByRecursion (λ row. ListsCollector row.0 o) o.quotes
  pub releases : IsInOrder release_cmp release_key o.releases
