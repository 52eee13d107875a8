-- What stands already changes neither the office nor a view.
use Rattle.std.proofs.Common.{◌≡◌, ◌≢◌, ℕ, Bool, true, false, eqb, Some, refl, sym, ap, ◌∙◌, inl}
use Rattle.std.proofs.Common.{inr}
use Rattle.std.specs.Prelude.{◌⊎◌, nat_le}
use Rattle.std.specs.Ordering.{nat_cmp}
use Rattle.std.proofs.lemmas.Bool.Decides.{eqb_tells}
use Rattle.std.proofs.lemmas.Cmp.{nat_cmp_total}
use Rattle.cpi_rows.specs.Keyed.{row_by_number}
use Rattle.cpi_rows.specs.Held.{held_key}
use Rattle.cpi_store.specs.Registration.{registration_of}
use Rattle.cpi_survey.specs.Quote.{quote_key, quote_cmp}
use Rattle.cpi_store.specs.Office.{Office, Change, office_with, PutsItem, PutsPlan, PutsCalendar, Registers, PutsOutlet}
use Rattle.cpi_store.specs.Office.{Assigns, HandsOver, Quotes, Freezes}
use Rattle.cpi_office.specs.Projections.{view}
use Rattle.cpi_release.specs.declared.release.Release.{Release}
use Rattle.cpi_office.specs.ProjectedChanges.{sights, build}
use Rattle.cpi_store.specs.Orderly.{IsOrderly}
use Rattle.cpi_office.specs.Isolation.{NamesRows}
use Rattle.cpi_store.specs.declared.registration.Registration.{Registration}
use Rattle.cpi_store.specs.declared.given.Given.{Given}
use Rattle.cpi_store.specs.Series.{first_of_series}
use Rattle.cpi_store.proofs.GivenRows.{given_total, handed_standing}
use Rattle.cpi_office.specs.declared.caller.Caller.{Caller}
use Rattle.cpi_office.specs.declared.caller.Caller.TheVariants.{Public, Collector, Desk}
use Rattle.cpi_rows.proofs.Held.{held_total}
use Rattle.cpi_rows.proofs.Puts.{put_standing, row_at_put_same}
use Rattle.cpi_survey.proofs.Latest.{quote_order}
use Rattle.cpi_store.proofs.Slots.{row_held}
use Rattle.cpi_office.proofs.Accepted.{Stood}
use Rattle.cpi_office.proofs.ProjectedChanges.{Shows, shows_item, shows_plan, shows_calendar, shows_assignment}
use Rattle.cpi_office.proofs.ProjectedChanges.{shows_handover}
use Rattle.cpi_office.proofs.ProjectedChanges.{shows_quote, shows_published}

module _ (k : Caller) (t : ℕ) (o : Office) where
  -- a change that leaves the office shows nothing new
  unmoved : (c : Change) → office_with c o ≡ o → Shows k t o c → view k t o ≡ build (view k t o) (sights k t c)
  unmoved c same shows = sym (ap (view k t) same) ∙ shows

registered_stands : (k : Caller) (t : ℕ) (o : Office) → IsOrderly o → (b : Registration) →
    row_by_number (λ b. b.number) b.number o.collectors ≡ Some b → view k t o ≡ build (view k t o)
    (sights k t (Registers b))
registered_stands Public t o s b found = refl
registered_stands Desk t o s b found = refl
registered_stands (Collector key) t o s b found = cases (eqb_tells b.key key)
  where
    cases : ((eqb b.key key ≡ true) × (b.key ≡ key)) ⊎ ((eqb b.key key ≡ false) × (b.key ≢ key)) →
        view (Collector key) t o ≡ build (view (Collector key) t o) (sights (Collector key) t (Registers b))
    cases (inl same) = rw (same.0, ap (λ k. registration_of k o.collectors) (sym same.1) ∙ s.keys b.number b found) refl
    cases (inr apart) = rw apart.0 refl

release_stands : (k : Caller) (t : ℕ) (o : Office) (r : Release) → office_with (Freezes r) o ≡ o →
    view k t o ≡ build (view k t o) (sights k t (Freezes r))
release_stands k t o r same = cases (nat_le r.publishes t) refl
  where
    cases : (w : Bool) → nat_le r.publishes t ≡ w → view k t o ≡ build (view k t o) (sights k t (Freezes r))
    cases true e = unmoved k t o (Freezes r) same (shows_published k t o r e)
    cases false e = rw e refl

-- what stands shows nothing new
pub stood_shows : (k : Caller) (t : ℕ) (o : Office) → IsOrderly o → (c : Change) → NamesRows c o →
    office_with c o ≡ o → view k t o ≡ build (view k t o) (sights k t c)
stood_shows k t o s (PutsItem i) h same = unmoved k t o (PutsItem i) same (shows_item k t o i)
stood_shows k t o s (PutsPlan p) h same = unmoved k t o (PutsPlan p) same (shows_plan k t o p)
stood_shows k t o s (PutsCalendar r) h same = unmoved k t o (PutsCalendar r) same (shows_calendar k t o r)
stood_shows k t o s (Registers b) h same =
    registered_stands k t o s b (sym (ap (λ u. row_by_number (λ b. b.number) b.number u.collectors) same)
    ∙ row_at_put_same nat_cmp_total (λ (b : Registration). b.number) b o.collectors)
stood_shows k t o s (PutsOutlet u) h same = refl
stood_shows k t o s (Assigns b a) h same = unmoved k t o (Assigns b a) same (shows_assignment k t o s b a h.0 h.2)
stood_shows k t o s (HandsOver h) names same =
    unmoved k t o (HandsOver h) same (shows_handover k t o s h names.0 names.1 names.3)
stood_shows k t o s (Quotes b q) h same = unmoved k t o (Quotes b q) same (shows_quote k t o s b q h)
stood_shows k t o s (Freezes r) h same = release_stands k t o r same

-- a row that is there is put in place of itself
pub stood_is : (c : Change) (o : Office) → IsOrderly o → Stood c o → office_with c o ≡ o
stood_is (PutsItem i) o s h = ap (λ rows. record o { items = rows })
    (put_standing nat_cmp_total (λ i. i.code) i o.items s.items h)
stood_is (PutsPlan p) o s h = ap (λ rows. record o { plans = rows })
    (put_standing nat_cmp_total (λ y. y.year) p o.plans s.plans h)
stood_is (PutsCalendar r) o s h = ap (λ rows. record o { calendar = rows })
    (put_standing nat_cmp_total (λ r. r.month) r o.calendar s.calendar h)
stood_is (Registers b) o s h = ap (λ rows. record o { collectors = rows })
    (put_standing nat_cmp_total (λ b. b.number) b o.collectors s.collectors h)
stood_is (PutsOutlet u) o s h = ap (λ rows. record o { outlets = rows })
    (put_standing nat_cmp_total (λ u. u.number) u o.outlets s.outlets h)
stood_is (Assigns b a) o s h = ap (λ rows. record o { assignments = rows })
    (put_standing given_total (held_key (λ (g : Given). g.assignment.slot))
    (b.number, first_of_series b.number a.assignment) o.assignments s.assignments
    (row_held nat_cmp (λ (g : Given). g.assignment.slot) b.number a.assignment.slot
    (first_of_series b.number a.assignment) o.assignments h.0))
stood_is (HandsOver h) o s stood =
    ap (λ rows. record o { assignments = rows }) (handed_standing o.assignments h s.assignments stood.0 stood.1)
stood_is (Quotes b q) o s h = ap (λ rows. record o { quotes = rows }) (put_standing (held_total quote_order)
    (held_key quote_key) (b.number, q) o.quotes s.quotes
    (row_held quote_cmp quote_key b.number (q.slot, q.month) q o.quotes h.1))
stood_is (Freezes r) o s h = absurd h
