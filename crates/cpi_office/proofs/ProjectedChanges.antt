-- Projections: the effect of each accepted change on each caller's view at each moment.
use Rattle.std.proofs.Common.{◌≡◌, ◌≢◌, ℕ, Bool, true, false, eqb, List, [], ◌∷◌, ◌++◌, map, Some, None, Option, refl}
use Rattle.std.proofs.Common.{sym, ap, ◌∙◌, inl, inr}
use Rattle.std.specs.Prelude.{◌⊎◌, IsSome, option_map, nat_le, filter}
use Rattle.std.specs.Ordering.{nat_cmp}
use Rattle.std.specs.List.{AllByRecursion}
use Rattle.std.proofs.lemmas.Bool.Decides.{eqb_tells}
use Rattle.cpi_store.proofs.Released.{release_total}
use Rattle.cpi_rows.specs.Held.{held_by}
use Rattle.cpi_rows.specs.Keyed.{IsInOrder, row_by_number, put_by, with_row, row_at}
use Rattle.cpi_store.specs.Office.{put_given, end_given, assignments_by, put_quote, Office, Change, office_with}
use Rattle.cpi_store.specs.Office.{PutsItem}
use Rattle.cpi_store.specs.Office.{PutsPlan, PutsCalendar, Registers, PutsOutlet, Assigns, HandsOver, Quotes, Freezes}
use Rattle.cpi_store.specs.Office.{public_part, put_release}
use Rattle.cpi_store.specs.Registration.{registration_of}
use Rattle.cpi_survey.specs.Quote.{quote_key, quote_cmp, QuoteRow}
use Rattle.cpi_store.specs.Outlet.{with_name}
use Rattle.cpi_survey.specs.declared.assignment.Assigned.{Assigned}
use Rattle.cpi_office.specs.Projections.{View, view, OwnView, own_view, own}
use Rattle.cpi_office.specs.ProjectedChanges.{Sight, IsAssigned, HasEnded, HasQuoted, sights, seen_if, view_with, build}
use Rattle.cpi_office.specs.ProjectedChanges.{is_registration_of}
use Rattle.cpi_office.specs.ProjectedChanges.{with_assigned}
use Rattle.cpi_office.specs.ProjectedChanges.{with_end, with_quote}
use Rattle.cpi_store.specs.Orderly.{HaveOwnKeys, IsOrderly, ListsCollector, ListsOutlet}
use Rattle.cpi_plan.specs.declared.items.Item.{Item}
use Rattle.cpi_plan.specs.Plan.{Plan}
use Rattle.cpi_plan.specs.Calendar.{CalendarPart}
use Rattle.cpi_store.specs.declared.registration.Registration.{Registration}
use Rattle.cpi_store.specs.declared.outlet.Outlet.{Outlet}
use Rattle.cpi_store.specs.declared.given.Given.{Given}
use Rattle.cpi_store.specs.declared.series_move.SeriesMove.{SeriesMove}
use Rattle.cpi_store.specs.Series.{own_series}
use Rattle.cpi_store.proofs.GivenRows.{held_ended_own, held_ended_other, shown_ended}
use Rattle.cpi_codes.specs.declared.series.SeriesId.{SeriesId}
use Rattle.cpi_survey.specs.declared.assignment.Assignment.{Assignment}
use Rattle.cpi_office.specs.declared.caller.Caller.{Caller}
use Rattle.cpi_office.specs.declared.caller.Caller.TheVariants.{Public, Collector, Desk}
use Rattle.cpi_rows.proofs.Held.{puts_own, puts_other}
use Rattle.cpi_rows.proofs.Puts.{map_put, filter_put, filter_put_out}
use Rattle.cpi_release.specs.FrozenMonths.{release_cmp, release_key}
use Rattle.cpi_release.specs.PublishedTables.{PublishedTable, published_table, published_key, published_until}
use Rattle.cpi_release.specs.declared.release.Release.{Release}
use Rattle.cpi_office.proofs.Registrations.{numbers_apart, registration_put_own, registration_put_other, none_held}
use Rattle.cpi_office.proofs.Registrations.{names_stay}

-- a view with another own part
abbrev with_own : View → Option OwnView → View
with_own v w = record { public = v.public; own = w; tables = v.tables }

module _ (k : Caller) (t : ℕ) (o : Office) where
  -- the change shows to the caller just so
  abbrev pub Shows : Change → Type 0
  Shows c = view k t (office_with c o) ≡ build (view k t o) (sights k t c)

pub shows_item : (k : Caller) (t : ℕ) (o : Office) (i : Item) → Shows k t o (PutsItem i)
shows_item Public t o i = refl
shows_item (Collector key) t o i = refl
shows_item Desk t o i = refl

pub shows_plan : (k : Caller) (t : ℕ) (o : Office) (p : Plan) → Shows k t o (PutsPlan p)
shows_plan Public t o p = refl
shows_plan (Collector key) t o p = refl
shows_plan Desk t o p = refl

pub shows_calendar : (k : Caller) (t : ℕ) (o : Office) (r : CalendarPart) → Shows k t o (PutsCalendar r)
shows_calendar Public t o r = refl
shows_calendar (Collector key) t o r = refl
shows_calendar Desk t o r = refl

-- ---- a collector's rows

-- a row of a collector who is found by number: what the registration of a key sees of it
module _ (key t : ℕ) (o : Office) (sorted : IsInOrder nat_cmp (λ b. b.number) o.collectors)
    (keys : HaveOwnKeys o.collectors) (b : Registration)
    (found : row_by_number (λ b. b.number) b.number o.collectors ≡ Some b) where
  registered : b.key ≡ key → registration_of key o.collectors ≡ Some b
  registered same = ap (λ k. registration_of k o.collectors) (sym same) ∙ keys b.number b found

  -- a list of rows of each collector's own is changed for one collector
  module _ (part : Registration → OwnView) (f : OwnView → OwnView) (own_part_changes : part b ≡ f (own_view o b))
      (others : (c : Registration) → c.number ≢ b.number → part c ≡ own_view o c) where
    own_mine : b.key ≡ key → option_map part (registration_of key o.collectors) ≡ option_map f
        (option_map (own_view o) (registration_of key o.collectors))
    own_mine same = rw (registered same) (ap Some own_part_changes)

    own_other : b.key ≢ key → option_map part (registration_of key o.collectors) ≡ option_map (own_view o)
        (registration_of key o.collectors)
    own_other apart = cases (registration_of key o.collectors) refl
      where
        cases : (w : Option Registration) → registration_of key o.collectors ≡ w →
            option_map part (registration_of key o.collectors) ≡ option_map (own_view o)
            (registration_of key o.collectors)
        cases None e = rw e refl
        cases (Some c) e = rw e (ap Some (others c (numbers_apart key b c o.collectors sorted found apart e)))

    -- with these own parts, the view is the one before with this row if the caller is the collector
    shows_own_row : (row : Sight) → ((v : View) → view_with row v ≡ with_own v (option_map f v.own)) →
        with_own (view (Collector key) t o) (option_map part (registration_of key o.collectors)) ≡
        build (view (Collector key) t o) (seen_if (is_registration_of (Collector key) b) row)
    shows_own_row row changes = cases (eqb_tells b.key key)
      where
        cases : ((eqb b.key key ≡ true) × (b.key ≡ key)) ⊎ ((eqb b.key key ≡ false) × (b.key ≢ key)) →
            with_own (view (Collector key) t o) (option_map part (registration_of key o.collectors)) ≡
            build (view (Collector key) t o) (seen_if (is_registration_of (Collector key) b) row)
        cases (inl same) = rw same.0
            (ap (with_own (view (Collector key) t o)) (own_mine same.1) ∙ sym (changes (view (Collector key) t o)))
        cases (inr apart) = rw apart.0 (ap (with_own (view (Collector key) t o)) (own_other apart.1))

  shows_own_quote : (q : QuoteRow) → Shows (Collector key) t o (Quotes b q)
  shows_own_quote q = shows_own_row part (with_quote q) own_part_changes others (HasQuoted q) (λ v. refl)
    where
      part : Registration → OwnView
      part c = record {
        number = c.number;
        part = record {
          assignments = map (with_name o.outlets) (assignments_by c.number o);
          quotes =
              held_by c.number (put_quote b.number q o.quotes);
        };
      }

      own_part_changes : part b ≡ with_quote q (own_view o b)
      own_part_changes = ap (λ qs. record {
        number = b.number;
        part =
            record { assignments = map (with_name o.outlets) (assignments_by b.number o); quotes = qs };
      })
          (puts_own quote_cmp quote_key b.number q o.quotes)

      others : (c : Registration) → c.number ≢ b.number → part c ≡ own_view o c
      others c apart = ap (λ qs. record {
        number = c.number;
        part =
            record { assignments = map (with_name o.outlets) (assignments_by c.number o); quotes = qs };
      })
          (puts_other quote_cmp quote_key c.number b.number q o.quotes apart)

  -- ---- what slots are given

  -- what the collector of these rows sees of them
  abbrev with_names : List Given → List Assigned
  with_names gs = map (with_name o.outlets) (map (λ g. g.assignment) gs)

  -- with these assignments of all collectors, the caller has this own part
  abbrev part_with : List (ℕ × Given) → Registration → OwnView
  part_with rows c = record {
    number = c.number;
    part =
        record {
          assignments = with_names (held_by c.number rows);
          quotes =
              held_by c.number o.quotes;
        };
  }

  -- a collector's own part has these assignments if these are what the collector's rows show
  own_part_is : (rows : List (ℕ × Given)) (c : Registration) (shown : List Assigned) →
      with_names (held_by c.number rows) ≡ shown → part_with rows c ≡ record {
        number = c.number;
        part = record { assignments = shown; quotes = held_by c.number o.quotes };
      }
  own_part_is rows c shown e =
      ap (λ xs. record { number = c.number; part = record { assignments = xs; quotes = held_by c.number o.quotes } }) e

  -- with these assignments of all collectors, the view is the one before with this row if the caller is the collector
  abbrev ShowsGiven : List (ℕ × Given) → Sight → Type 0
  ShowsGiven rows row = view (Collector key) t (record o { assignments = rows }) ≡ build (view (Collector key) t o)
      (seen_if (is_registration_of (Collector key) b) row)

  shows_own_given : (a : Assigned) (series : SeriesId) → a ≡ with_name o.outlets a.assignment →
      ShowsGiven (put_given b.number (record { assignment = a.assignment; series = series }) o.assignments)
      (IsAssigned a)
  shows_own_given a series named =
      shows_own_row (part_with rows) (with_assigned a) own_part_changes others (IsAssigned a) (λ v. refl)
    where
      g : Given
      g = record { assignment = a.assignment; series = series }

      rows : List (ℕ × Given)
      rows = put_given b.number g o.assignments

      own_rows : List Given
      own_rows = held_by b.number o.assignments

      own_part_changes : part_with rows b ≡ with_assigned a (own_view o b)
      own_part_changes = own_part_is rows b _
          (ap with_names (puts_own nat_cmp (λ (g : Given). g.assignment.slot) b.number g o.assignments)
          ∙ ap (map (with_name o.outlets)) (map_put nat_cmp (λ (x : Assignment). x.slot)
          (λ (g : Given). g.assignment) g own_rows)
          ∙ map_put nat_cmp (λ (x : Assigned). x.assignment.slot) (with_name o.outlets) a.assignment
          (map (λ (g : Given). g.assignment) own_rows)
          ∙ ap (λ x. put_by (λ (x : Assigned). x.assignment.slot) x
          (map (with_name o.outlets) (map (λ (g : Given). g.assignment) own_rows))) (sym named))

      others : (c : Registration) → c.number ≢ b.number → part_with rows c ≡ own_view o c
      others c apart = own_part_is rows c _ (ap with_names
          (puts_other nat_cmp (λ (g : Given). g.assignment.slot) c.number b.number g o.assignments apart))

  shows_own_end : (slot last : ℕ) → ShowsGiven (end_given b.number slot last o.assignments) (HasEnded slot last)
  shows_own_end slot last =
      shows_own_row (part_with rows) (with_end slot last) own_part_changes others (HasEnded slot last) (λ v. refl)
    where
      rows : List (ℕ × Given)
      rows = end_given b.number slot last o.assignments

      own_part_changes : part_with rows b ≡ with_end slot last (own_view o b)
      own_part_changes = own_part_is rows b _ (ap with_names (held_ended_own b.number slot last o.assignments)
          ∙ shown_ended o.outlets slot last (held_by b.number o.assignments))

      others : (c : Registration) → c.number ≢ b.number → part_with rows c ≡ own_view o c
      others c apart =
          own_part_is rows c _ (ap with_names (held_ended_other c.number b.number slot last o.assignments apart))

pub shows_quote : (k : Caller) (t : ℕ) (o : Office) → IsOrderly o → (b : Registration) (q : QuoteRow) →
    row_by_number (λ b. b.number) b.number o.collectors ≡ Some b → Shows k t o (Quotes b q)
shows_quote Public t o s b q found = refl
shows_quote (Collector key) t o s b q found = shows_own_quote key t o s.collectors s.keys b found q
shows_quote Desk t o s b q found = refl

pub shows_assignment : (k : Caller) (t : ℕ) (o : Office) → IsOrderly o → (b : Registration) (a : Assigned) →
    row_by_number (λ b. b.number) b.number o.collectors ≡ Some b → a ≡ with_name o.outlets a.assignment → Shows k t o
    (Assigns b a)
shows_assignment Public t o s b a found named = refl
shows_assignment (Collector key) t o s b a found named = shows_own_given key t o s.collectors s.keys b found a
    (own_series b.number a.assignment.slot) named
shows_assignment Desk t o s b a found named = refl

pub build_append : (v : View) (xs ys : List Sight) → build v (xs ++ ys) ≡ build (build v xs) ys
build_append v [] ys = refl
build_append v (x ∷ xs) ys = build_append (view_with x v) xs ys

-- the end of the former slot shows first, and then the new one
shows_own_handover : (key t : ℕ) (o : Office) → IsOrderly o → (h : SeriesMove) →
    row_by_number (λ b. b.number) h.former.number o.collectors ≡ Some h.former →
    row_by_number (λ b. b.number) h.taker.number o.collectors ≡ Some h.taker →
    h.assigned ≡ with_name o.outlets h.assigned.assignment → Shows (Collector key) t o (HandsOver h)
shows_own_handover key t o s h former taker named =
    shows_own_given key t mid s.collectors s.keys h.taker taker h.assigned h.ended.series named
    ∙ ap (λ v. build v begins) (shows_own_end key t o s.collectors s.keys h.former former h.ended.assignment.slot
    h.ended.assignment.last_month)
    ∙ sym (build_append (view (Collector key) t o) ends begins)
  where
    mid : Office
    mid = record o {
      assignments = end_given h.former.number h.ended.assignment.slot h.ended.assignment.last_month
          o.assignments;
    }

    ends : List Sight
    ends = seen_if (is_registration_of (Collector key) h.former)
        (HasEnded h.ended.assignment.slot h.ended.assignment.last_month)

    begins : List Sight
    begins = seen_if (is_registration_of (Collector key) h.taker) (IsAssigned h.assigned)

pub shows_handover : (k : Caller) (t : ℕ) (o : Office) → IsOrderly o → (h : SeriesMove) →
    row_by_number (λ b. b.number) h.former.number o.collectors ≡ Some h.former →
    row_by_number (λ b. b.number) h.taker.number o.collectors ≡ Some h.taker →
    h.assigned ≡ with_name o.outlets h.assigned.assignment → Shows k t o (HandsOver h)
shows_handover Public t o s h former taker named = refl
shows_handover (Collector key) t o s h former taker named = shows_own_handover key t o s h former taker named
shows_handover Desk t o s h former taker named = refl

-- ---- an outlet that is added shows to nobody

own_names : (o : Office) (s : IsOrderly o) (u : Outlet) → row_by_number (λ u. u.number) u.number o.outlets ≡ None →
    (c : Registration) →
    own_view (office_with (PutsOutlet u) o) c ≡ own_view o c
own_names o s u new c =
    ap (λ rows. record { number = c.number; part = record { assignments = rows; quotes = held_by c.number o.quotes } })
    (names_stay c.number u o.outlets o.assignments s.outlets new (known o.assignments s.given))
  where
    known : (rows : List (ℕ × Given)) → AllByRecursion (λ row. ListsCollector row.0 o × ListsOutlet row.1.assignment.outlet o) rows →
        AllByRecursion (λ row. IsSome (row_by_number (λ u. u.number) row.1.assignment.outlet o.outlets)) rows
    known [] all = tt
    known (r ∷ rows) all = (all.0.1, known rows all.1)

pub shows_outlet : (k : Caller) (t : ℕ) (o : Office) → IsOrderly o → (u : Outlet) →
    row_by_number (λ u. u.number) u.number o.outlets ≡ None → Shows k t o (PutsOutlet u)
shows_outlet Public t o s u new = refl
shows_outlet Desk t o s u new = refl
shows_outlet (Collector key) t o s u new = ap (with_own (view (Collector key) t o))
    (cases (registration_of key o.collectors))
  where
    cases : (w : Option Registration) →
        option_map (own_view (office_with (PutsOutlet u) o)) w ≡ option_map (own_view o) w
    cases None = refl
    cases (Some c) = ap Some (own_names o s u new c)

-- ---- a collector who is registered

module _ (o : Office) (s : IsOrderly o) (b : Registration)
    (new : row_by_number (λ b. b.number) b.number o.collectors ≡ None) where
  no_assignments : held_by b.number o.assignments ≡ []
  no_assignments = none_held b.number o.collectors o.assignments (known o.assignments s.given) new
    where
      known : (rows : List (ℕ × Given)) → AllByRecursion (λ row. ListsCollector row.0 o × ListsOutlet row.1.assignment.outlet o) rows →
          AllByRecursion (λ row. IsSome (row_by_number (λ b. b.number) row.0 o.collectors)) rows
      known [] all = tt
      known (r ∷ rows) all = (all.0.0, known rows all.1)

  no_quotes : held_by b.number o.quotes ≡ []
  no_quotes = none_held b.number o.collectors o.quotes s.quoted new

pub shows_registered : (k : Caller) (t : ℕ) (o : Office) → IsOrderly o → (b : Registration) →
    row_by_number (λ b. b.number) b.number o.collectors ≡ None → registration_of b.key o.collectors ≡ None → Shows k t o
    (Registers b)
shows_registered Public t o s b new free = refl
shows_registered Desk t o s b new free = refl
shows_registered (Collector key) t o s b new free = cases (eqb_tells b.key key)
  where
    cases : ((eqb b.key key ≡ true) × (b.key ≡ key)) ⊎ ((eqb b.key key ≡ false) × (b.key ≢ key)) →
        Shows (Collector key) t o (Registers b)
    cases (inl same) =
        let nobody : registration_of key o.collectors ≡ None = ap (λ k. registration_of k o.collectors) (sym same.1)
        ∙ free in
        rw (
          same.0,
          registration_put_own b o.collectors s.collectors new key same.0 nobody,
          nobody,
          no_assignments o s b new,
          no_quotes o s b new,
        ) refl
    cases (inr apart) = rw (apart.0, registration_put_other b o.collectors s.collectors new key apart.0) refl

-- ---- a release

same_own : (k : Caller) (o : Office) (rs : List Release) → own k (record o { releases = rs }) ≡ own k o
same_own Public o rs = refl
same_own (Collector key) o rs = refl
same_own Desk o rs = refl

tables_published : (t : ℕ) (o : Office) (r : Release) → nat_le r.publishes t ≡ true →
    published_until t (put_release r o.releases) ≡ with_row release_cmp published_key (published_table r)
    (published_until t o.releases)
tables_published t o r e =
    ap (map published_table) (filter_put release_cmp release_key (λ r. nat_le r.publishes t) r o.releases e)
    ∙ map_put release_cmp published_key published_table r (filter (λ r. nat_le r.publishes t) o.releases)

tables_embargoed : (t : ℕ) (o : Office) → IsOrderly o → (r : Release) →
    row_at release_cmp release_key (release_key r) o.releases ≡ None → nat_le r.publishes t ≡ false →
    published_until t (put_release r o.releases) ≡ published_until t o.releases
tables_embargoed t o s r new e = ap (map published_table)
    (filter_put_out release_total release_key (λ r. nat_le r.publishes t) r o.releases s.releases new e)

abbrev with_tables : Office → Option OwnView → List PublishedTable → View
with_tables o w is = record { public = public_part o; own = w; tables = is }

-- a release that is published, new or not
pub shows_published : (k : Caller) (t : ℕ) (o : Office) (r : Release) → nat_le r.publishes t ≡ true →
    Shows k t o (Freezes r)
shows_published k t o r e = rw e (ap (λ w. with_tables o w (published_until t (put_release r o.releases)))
    (same_own k o (put_release r o.releases)) ∙ ap (with_tables o (own k o)) (tables_published t o r e))

pub shows_release : (k : Caller) (t : ℕ) (o : Office) → IsOrderly o → (r : Release) →
    row_at release_cmp release_key (release_key r) o.releases ≡ None → Shows k t o (Freezes r)
shows_release k t o s r new = cases (nat_le r.publishes t) refl
  where
    cases : (w : Bool) → nat_le r.publishes t ≡ w → Shows k t o (Freezes r)
    cases true e = shows_published k t o r e
    cases false e = rw e (ap (λ w. with_tables o w (published_until t (put_release r o.releases)))
        (same_own k o (put_release r o.releases)) ∙ ap (with_tables o (own k o)) (tables_embargoed t o s r new e))
