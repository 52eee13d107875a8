-- What a new assignment and a hand-over leave of what holds of the assignments of a sound office.
use Rattle.std.proofs.Common.{◌≡◌, ◌≢◌, ℕ, ◌-◌, ◌<◌, ◌≤◌, true, false, eqb, leb, List, [], ◌∷◌, Option}
use Rattle.std.proofs.Common.{Some, None, refl, sym, ap, ◌∙◌, subst, arith, inl, inr}
use Rattle.std.specs.Prelude.{◌⊎◌, ◌==◌, ◌&&◌, nat_le, option_map, IsSome}
use Rattle.std.specs.List.{AllByRecursion, list_any}
use Rattle.std.specs.Ordering.{nat_cmp}
use Rattle.std.proofs.lemmas.Bool.{false≢true, le-leb}
use Rattle.std.proofs.lemmas.Bool.Decides.{eqb_tells, leb_tells}
use Rattle.std.proofs.Math.Nat.{le_trans, le_antisymm}
use Rattle.cpi_rows.specs.Keyed.{row_by_number}
use Rattle.cpi_rows.specs.Held.{held_by, held_cmp, held_key}
use Rattle.cpi_rows.proofs.Found.{at_key}
use Rattle.cpi_rows.proofs.Lists.{all_put, all_weaker}
use Rattle.cpi_codes.specs.declared.series.SeriesId.{SeriesId}
use Rattle.cpi_codes.specs.declared.limits.TheConstants.{GREATEST_SLOT}
use Rattle.cpi_survey.specs.Assignment.{is_active}
use Rattle.cpi_survey.specs.Quote.{QuoteRow}
use Rattle.cpi_survey.specs.declared.assignment.Assignment.{Assignment}
use Rattle.cpi_release.specs.declared.release.Release.{Release}
use Rattle.cpi_store.specs.declared.given.Given.{Given}
use Rattle.cpi_store.specs.declared.series_move.SeriesMove.{SeriesMove}
use Rattle.cpi_store.specs.Series.{same_series, last_of_series, own_series, first_of_series}
use Rattle.cpi_store.specs.Office.{Office, put_given, given_until, end_given, given_over, hand_over}
use Rattle.cpi_store.specs.FrozenLists.{IsOfSeries, HasFrozenList}
use Rattle.cpi_store.specs.Sound.{IsSound, HasItsItem, HasItsAssignment, IsWellMade, HasItsSeries, AreApart, AllPairs}
use Rattle.cpi_store.proofs.Slots.{all_of_found, all_from_found, pairs_of_found, pairs_from_found, AreTwo}
use Rattle.cpi_store.proofs.GivenRows.{AreInOrder, held_ended_other, at_ended_same, at_ended_other, end_in_order}
use Rattle.cpi_store.proofs.GivenRows.{put_given_in_order, at_put_same, at_put_found, found_put, found_ended}

-- two series are the same or not
pub same_series_tells : (s t : SeriesId) → ((same_series s t ≡ true) × (s ≡ t)) ⊎ ((same_series s t ≡ false) × (s ≢ t))
same_series_tells s t = cases (eqb_tells s.collector t.collector) (eqb_tells s.slot t.slot)
  where
    cases : ((eqb s.collector t.collector ≡ true) × (s.collector ≡ t.collector))
        ⊎ ((eqb s.collector t.collector ≡ false) × (s.collector ≢ t.collector)) →
        ((eqb s.slot t.slot ≡ true) × (s.slot ≡ t.slot)) ⊎ ((eqb s.slot t.slot ≡ false) × (s.slot ≢ t.slot)) →
        ((same_series s t ≡ true) × (s ≡ t)) ⊎ ((same_series s t ≡ false) × (s ≢ t))
    cases (inl same) (inl here) = inl (rw (same.0, here.0) refl, λ n. record { collector = same.1 n; slot = here.1 n })
    cases (inl same) (inr there) = inr (rw (same.0, there.0) refl, λ e. there.1 (ap (λ (u : SeriesId). u.slot) e))
    cases (inr apart) tells = inr (rw apart.0 refl, λ e. apart.1 (ap (λ (u : SeriesId). u.collector) e))

-- what a sound office's assignments have by themselves
pub record AreGiven (rows : List (ℕ × Given)) : Type 0 where
  pub in_order : AreInOrder rows
  pub made : AllByRecursion (λ row. IsWellMade (row.0, row.1.assignment)) rows
  pub series : AllByRecursion (HasItsSeries rows) rows
  pub apart : AllPairs AreApart rows

-- an assignment of a new slot, which is one that there can be
pub record IsNewlyGiven (rows : List (ℕ × Given)) (n : ℕ) (a : Assignment) : Type 0 where
  pub new : row_by_number (λ g. g.assignment.slot) a.slot (held_by n rows) ≡ None
  pub made : IsWellMade (n, a)

-- A hand-over that can be: what the former slot was given ends with the month before the new slot's first, the new slot
-- has the months that are left, the same item, outlet and series, and no quote of the former slot is of such a month.
pub record IsHandover (rows : List (ℕ × Given)) (quotes : List (ℕ × QuoteRow)) (h : SeriesMove) : Type 0 where
  pub former : Given
  pub found : row_by_number (λ g. g.assignment.slot) h.ended.assignment.slot (held_by h.former.number rows) ≡
      Some former
  pub ended : h.ended ≡ given_until (h.assigned.assignment.first_month - 1) former
  pub after_first : former.assignment.first_month < h.assigned.assignment.first_month
  pub until_last : h.assigned.assignment.first_month ≤ former.assignment.last_month
  pub last : h.assigned.assignment.last_month ≡ former.assignment.last_month
  pub item : h.assigned.assignment.item ≡ former.assignment.item
  pub outlet : h.assigned.assignment.outlet ≡ former.assignment.outlet
  pub new : row_by_number (λ g. g.assignment.slot) h.assigned.assignment.slot (held_by h.taker.number rows) ≡ None
  pub taker : 1 ≤ h.taker.number
  pub slot : (1 ≤ h.assigned.assignment.slot) × (h.assigned.assignment.slot ≤ GREATEST_SLOT)
  pub unquoted : list_any (λ q. q.slot == h.ended.assignment.slot && nat_le h.assigned.assignment.first_month q.month)
      (held_by h.former.number quotes) ≡ false

pub sound_given : (o : Office) → IsSound o → AreGiven o.assignments
sound_given o s = record { in_order = s.orderly.assignments; made = s.made; series = s.series; apart = s.apart }

-- ---- what holds of each row, and of whatever two

apart_turned : (a b : ℕ × Given) → AreApart a b → AreApart b a
apart_turned a b apart same month x y = apart (sym same) month y x

-- ---- the last month of a series, among the rows of the slots

last_least : (s : SeriesId) (m : ℕ) (rows : List (ℕ × Given)) →
    AllByRecursion (λ row. row.1.series ≡ s → row.1.assignment.last_month ≤ m) rows → last_of_series s rows ≤ m
last_least s m [] all = omega arith
last_least s m (r ∷ rows) all = cases (same_series_tells r.1.series s) (last_least s m rows all.1)
  where
    cases : ((same_series r.1.series s ≡ true) × (r.1.series ≡ s))
        ⊎ ((same_series r.1.series s ≡ false) × (r.1.series ≢ s)) → last_of_series s rows ≤ m →
        last_of_series s (r ∷ rows) ≤ m
    cases (inl same) rest = let one : r.1.assignment.last_month ≤ m = all.0 same.1 in rw same.0
        (omega (arith, one, rest))
    cases (inr apart) rest = rw apart.0 rest

last_covers : (s : SeriesId) (rows : List (ℕ × Given)) →
    AllByRecursion (λ row. row.1.series ≡ s → row.1.assignment.last_month ≤ last_of_series s rows) rows
last_covers s [] = tt
last_covers s (r ∷ rows) = cases (same_series_tells r.1.series s) (last_covers s rows)
  where
    more : last_of_series s rows ≤ last_of_series s (r ∷ rows) → (rs : List (ℕ × Given)) →
        AllByRecursion (λ row. row.1.series ≡ s → row.1.assignment.last_month ≤ last_of_series s rows) rs →
        AllByRecursion (λ row. row.1.series ≡ s → row.1.assignment.last_month ≤ last_of_series s (r ∷ rows)) rs
    more up [] all = tt
    more up (q ∷ rs) all = (λ same. le_trans (all.0 same) up, more up rs all.1)

    cases : ((same_series r.1.series s ≡ true) × (r.1.series ≡ s))
        ⊎ ((same_series r.1.series s ≡ false) × (r.1.series ≢ s)) →
        AllByRecursion (λ row. row.1.series ≡ s → row.1.assignment.last_month ≤ last_of_series s rows) rows →
        AllByRecursion (λ row. row.1.series ≡ s → row.1.assignment.last_month ≤ last_of_series s (r ∷ rows)) (r ∷ rows)
    cases (inl same) rest = (λ e. rw same.0 (omega arith), more (rw same.0 (omega arith)) rows rest)
    cases (inr apart) rest = (λ e. absurd (apart.1 e), more (rw apart.0 (omega arith)) rows rest)

-- ---- a new assignment

module _ (rows : List (ℕ × Given)) (n : ℕ) (a : Assignment) (all : AreGiven rows) (new : IsNewlyGiven rows n a) where
  abbrev one : Given
  one = first_of_series n a

  abbrev more_rows : List (ℕ × Given)
  more_rows = put_given n one rows

  more_in_order : AreInOrder more_rows
  more_in_order = put_given_in_order n one rows all.in_order

  more_found : (c k : ℕ) (x : Given) → row_by_number (λ g. g.assignment.slot) k (held_by c more_rows) ≡ Some x →
      ((c ≡ n) × (k ≡ a.slot) × (x ≡ one)) ⊎ (row_by_number (λ g. g.assignment.slot) k (held_by c rows) ≡ Some x)
  more_found c k x found = found_put n one rows all.in_order c k x found

  still_found : (c k : ℕ) (x : Given) → row_by_number (λ g. g.assignment.slot) k (held_by c rows) ≡ Some x →
      row_by_number (λ g. g.assignment.slot) k (held_by c more_rows) ≡ Some x
  still_found c k x found = at_put_found n one rows all.in_order new.new c k x found

  -- a series whose slot is there is not the new one
  series_apart : (s : SeriesId) (g : Given) → row_by_number (λ g. g.assignment.slot) s.slot (held_by s.collector rows)
      ≡ Some g →
      s ≢ own_series n a.slot
  series_apart s g found same =
      let no : None ≡ Some g = sym new.new ∙ ap (λ (t : SeriesId). row_by_number (λ g. g.assignment.slot) t.slot
      (held_by t.collector rows)) (sym same) ∙ found in
      cc

  -- no row is of the new series
  none_of_new : (c k : ℕ) (x : Given) → row_by_number (λ g. g.assignment.slot) k (held_by c rows) ≡ Some x →
      x.series ≢ own_series n a.slot
  none_of_new c k x found =
      let has = all_of_found (λ g. g.assignment.slot) (HasItsSeries rows) c k x rows all.series found in
      series_apart x.series has.0 has.1

  pub last_assigned : (s : SeriesId) → s ≢ own_series n a.slot →
      last_of_series s (put_given n (first_of_series n a) rows) ≡ last_of_series s rows
  last_assigned s apart =
      le_antisymm
      (last_least s (last_of_series s rows) more_rows
      (all_from_found (λ g. g.assignment.slot) _ more_rows more_in_order upper))
      (last_least s (last_of_series s more_rows) rows
      (all_from_found (λ g. g.assignment.slot) _ rows all.in_order lower))
    where
      upper : (c : ℕ) (x : Given) → row_by_number (λ g. g.assignment.slot) x.assignment.slot (held_by c more_rows)
          ≡ Some x →
          x.series ≡ s → x.assignment.last_month ≤ last_of_series s rows
      upper c x found same = cases (more_found c x.assignment.slot x found)
        where
          cases : ((c ≡ n) × (x.assignment.slot ≡ a.slot) × (x ≡ one))
              ⊎ (row_by_number (λ g. g.assignment.slot) x.assignment.slot (held_by c rows) ≡ Some x) →
              x.assignment.last_month ≤ last_of_series s rows
          cases (inl is) = absurd (apart (sym same ∙ ap (λ (g : Given). g.series) is.2))
          cases (inr stood) = all_of_found (λ g. g.assignment.slot)
              (λ row. row.1.series ≡ s → row.1.assignment.last_month ≤ last_of_series s rows) c x.assignment.slot x
              rows (last_covers s rows) stood same

      lower : (c : ℕ) (x : Given) → row_by_number (λ g. g.assignment.slot) x.assignment.slot (held_by c rows) ≡ Some x →
          x.series ≡ s → x.assignment.last_month ≤ last_of_series s more_rows
      lower c x found same = all_of_found (λ g. g.assignment.slot)
          (λ row. row.1.series ≡ s → row.1.assignment.last_month ≤ last_of_series s more_rows) c x.assignment.slot x
          more_rows (last_covers s more_rows) (still_found c x.assignment.slot x found) same

  more_made : (c : ℕ) (x : Given) → row_by_number (λ g. g.assignment.slot) x.assignment.slot (held_by c more_rows)
      ≡ Some x →
      IsWellMade (c, x.assignment)
  more_made c x found = cases (more_found c x.assignment.slot x found)
    where
      cases : ((c ≡ n) × (x.assignment.slot ≡ a.slot) × (x ≡ one))
          ⊎ (row_by_number (λ g. g.assignment.slot) x.assignment.slot (held_by c rows) ≡ Some x) → IsWellMade
          (c, x.assignment)
      cases (inl is) = subst (λ m. IsWellMade (m, x.assignment)) (sym is.0)
          (subst (λ (g : Given). IsWellMade (n, g.assignment)) (sym is.2) new.made)
      cases (inr stood) = all_of_found (λ g. g.assignment.slot) (λ row. IsWellMade (row.0, row.1.assignment)) c
          x.assignment.slot x rows all.made stood

  more_series : (c : ℕ) (x : Given) → row_by_number (λ g. g.assignment.slot) x.assignment.slot (held_by c more_rows)
      ≡ Some x →
      HasItsSeries more_rows (c, x)
  more_series c x found = cases (more_found c x.assignment.slot x found)
    where
      cases : ((c ≡ n) × (x.assignment.slot ≡ a.slot) × (x ≡ one))
          ⊎ (row_by_number (λ g. g.assignment.slot) x.assignment.slot (held_by c rows) ≡ Some x) → HasItsSeries
          more_rows (c, x)
      cases (inl is) = subst (λ (g : Given). HasItsSeries more_rows (c, g)) (sym is.2)
          (one, at_put_same n one rows, refl, refl)
      cases (inr stood) =
          let has = all_of_found (λ g. g.assignment.slot) (HasItsSeries rows) c x.assignment.slot x rows all.series
          stood in
          (has.0, still_found x.series.collector x.series.slot has.0 has.1, has.2, has.3)

  more_apart : (p q : ℕ × Given) → row_by_number (λ g. g.assignment.slot) p.1.assignment.slot
      (held_by p.0 more_rows) ≡ Some p.1 → row_by_number (λ g. g.assignment.slot) q.1.assignment.slot
      (held_by q.0 more_rows) ≡ Some q.1 → AreTwo (λ g. g.assignment.slot) p q → AreApart p q
  more_apart p q here there two = cases (more_found p.0 p.1.assignment.slot p.1 here)
      (more_found q.0 q.1.assignment.slot q.1 there)
    where
      cases : ((p.0 ≡ n) × (p.1.assignment.slot ≡ a.slot) × (p.1 ≡ one))
          ⊎ (row_by_number (λ g. g.assignment.slot) p.1.assignment.slot (held_by p.0 rows) ≡ Some p.1) →
          ((q.0 ≡ n) × (q.1.assignment.slot ≡ a.slot) × (q.1 ≡ one))
          ⊎ (row_by_number (λ g. g.assignment.slot) q.1.assignment.slot (held_by q.0 rows) ≡ Some q.1) → AreApart p q
      cases (inl is) (inl too) = absurd (two (is.0 ∙ sym too.0, is.1 ∙ sym too.1))
      cases (inl is) (inr stood) = λ same month x y. none_of_new q.0 q.1.assignment.slot q.1 stood
          (sym same ∙ ap (λ (g : Given). g.series) is.2)
      cases (inr stood) (inl too) = λ same month x y. none_of_new p.0 p.1.assignment.slot p.1 stood
          (same ∙ ap (λ (g : Given). g.series) too.2)
      cases (inr stood) (inr stands) = pairs_of_found (λ g. g.assignment.slot) AreApart apart_turned rows all.apart p.0
          p.1.assignment.slot p.1 stood q.0 q.1.assignment.slot q.1 stands two

  pub given_assigned : AreGiven (put_given n (first_of_series n a) rows)
  given_assigned = record {
    in_order = more_in_order;
    made = all_from_found (λ g. g.assignment.slot) _ more_rows more_in_order more_made;
    series = all_from_found (λ g. g.assignment.slot) _ more_rows more_in_order more_series;
    apart = pairs_from_found (λ g. g.assignment.slot) AreApart more_rows more_in_order more_apart;
  }

  pub quoted_assigned : (quotes : List (ℕ × QuoteRow)) → AllByRecursion (HasItsAssignment rows) quotes →
      AllByRecursion (HasItsAssignment (put_given n (first_of_series n a) rows)) quotes
  quoted_assigned quotes quoted = all_weaker (HasItsAssignment rows) (HasItsAssignment more_rows)
      (λ row has. (has.0, still_found row.0 row.1.slot has.0 has.1, has.2)) quotes quoted

  one_frozen : (r : Release) → HasFrozenList rows r → HasFrozenList more_rows r
  one_frozen r list = record {
    in_order = list.in_order;
    of_series = all_weaker (IsOfSeries rows) (IsOfSeries more_rows)
        (λ f of. (
          of.0,
          still_found f.series.collector f.series.slot of.0 of.1,
          of.2,
          of.3
              ∙ sym (last_assigned f.series (series_apart f.series of.0 of.1)),
        )) r.frozen list.of_series;
  }

  pub frozen_assigned : (releases : List Release) → AllByRecursion (HasFrozenList rows) releases →
      AllByRecursion (HasFrozenList (put_given n (first_of_series n a) rows)) releases
  frozen_assigned releases frozen = all_weaker (HasFrozenList rows) (HasFrozenList more_rows) one_frozen releases frozen

-- each assignment prices an item that is there, as the new one does
pub priced_assigned : (o : Office) (n : ℕ) (a : Assignment) (rows : List (ℕ × Given)) →
    HasItsItem o (n, first_of_series n a) → AllByRecursion (HasItsItem o) rows →
    AllByRecursion (HasItsItem o) (put_given n (first_of_series n a) rows)
priced_assigned o n a rows has all = all_put (HasItsItem o) (held_cmp nat_cmp)
    (held_key (λ (g : Given). g.assignment.slot)) (n, first_of_series n a) rows has all

-- ---- when an assignment is active

active_tells : (month : ℕ) (a : Assignment) → is_active month a ≡ true → (a.first_month ≤ month)
    × (month ≤ a.last_month)
active_tells month a active = cases (leb_tells a.first_month month) (leb_tells month a.last_month)
  where
    cases : ((leb a.first_month month ≡ true) × (a.first_month ≤ month))
        ⊎ ((leb a.first_month month ≡ false) × (month < a.first_month)) →
        ((leb month a.last_month ≡ true) × (month ≤ a.last_month))
        ⊎ ((leb month a.last_month ≡ false) × (a.last_month < month)) → (a.first_month ≤ month)
        × (month ≤ a.last_month)
    cases (inl from) (inl to) = (from.1, to.1)
    cases (inl from) (inr past) = absurd (false≢true (rw (from.0, past.0) at active))
    cases (inr early) tells = absurd (false≢true (rw early.0 at active))

active_within : (month : ℕ) (a : Assignment) → a.first_month ≤ month → month ≤ a.last_month → is_active month a ≡ true
active_within month a from to = rw (le-leb a.first_month month from, le-leb month a.last_month to) refl

-- ---- a hand-over

-- quotes of a slot of which none is of a month or of a later one
all_earlier : (n slot month : ℕ) (quotes : List (ℕ × QuoteRow)) →
    list_any (λ q. q.slot == slot && nat_le month q.month) (held_by n quotes) ≡ false →
    AllByRecursion (λ (row : ℕ × QuoteRow). row.0 ≡ n → row.1.slot ≡ slot → row.1.month < month) quotes
all_earlier n slot month [] none = tt
all_earlier n slot month (row ∷ quotes) none = cases (eqb_tells row.0 n) (eqb_tells row.1.slot slot)
    (leb_tells month row.1.month) (all_earlier n slot month quotes)
  where
    None_of : List (ℕ × QuoteRow) → Type 0
    None_of rows = list_any (λ (q : QuoteRow). q.slot == slot && nat_le month q.month) (held_by n rows) ≡ false

    All_of : List (ℕ × QuoteRow) → Type 0
    All_of rows = AllByRecursion (λ (row : ℕ × QuoteRow). row.0 ≡ n → row.1.slot ≡ slot → row.1.month < month) rows

    cases : ((eqb row.0 n ≡ true) × (row.0 ≡ n)) ⊎ ((eqb row.0 n ≡ false) × (row.0 ≢ n)) →
        ((eqb row.1.slot slot ≡ true) × (row.1.slot ≡ slot)) ⊎ ((eqb row.1.slot slot ≡ false) × (row.1.slot ≢ slot)) →
        ((leb month row.1.month ≡ true) × (month ≤ row.1.month))
        ⊎ ((leb month row.1.month ≡ false) × (row.1.month < month)) → (None_of quotes → All_of quotes) →
        All_of (row ∷ quotes)
    cases (inr other) tells late rest = (λ same here. absurd (other.1 same), rest (rw other.0 at none))
    cases (inl mine) (inr there) late rest = (
      λ same here. absurd (there.1 here),
      rest
          (rw (mine.0, there.0) at none),
    )
    cases (inl mine) (inl here) (inl late) rest = absurd
        (false≢true (sym (rw (mine.0, here.0, late.0) at none)))
    cases (inl mine) (inl here) (inr early) rest = (
      λ same place. early.1,
      rest
          (rw (mine.0, here.0, early.0) at none),
    )

all_both : {X : Type 0} (P Q R : X → Type 0) → ((x : X) → P x → Q x → R x) → (xs : List X) → AllByRecursion P xs →
    AllByRecursion Q xs → AllByRecursion R xs
all_both P Q R f [] a b = tt
all_both P Q R f (x ∷ xs) a b = (f x a.0 b.0, all_both P Q R f xs a.1 b.1)

module _ (rows : List (ℕ × Given)) (quotes : List (ℕ × QuoteRow)) (h : SeriesMove) (all : AreGiven rows)
    (over : IsHandover rows quotes h) where
  abbrev month : ℕ
  month = h.assigned.assignment.first_month

  abbrev place : Given → ℕ
  place g = g.assignment.slot

  -- the rows without the new one, and with it
  abbrev ended_rows : List (ℕ × Given)
  ended_rows = end_given h.former.number h.ended.assignment.slot h.ended.assignment.last_month rows

  abbrev handed_rows : List (ℕ × Given)
  handed_rows = hand_over h rows

  abbrev IsFormer : ℕ → ℕ → Type 0
  IsFormer c k = (c ≡ h.former.number) × (k ≡ h.ended.assignment.slot)

  abbrev IsTaker : ℕ → ℕ → Type 0
  IsTaker c k = (c ≡ h.taker.number) × (k ≡ h.assigned.assignment.slot)

  ended_in_order : AreInOrder ended_rows
  ended_in_order = end_in_order h.former.number h.ended.assignment.slot h.ended.assignment.last_month rows all.in_order

  handed_in_order : AreInOrder handed_rows
  handed_in_order = put_given_in_order h.taker.number (given_over h) ended_rows ended_in_order

  -- the former assignment ends with the month before
  ends : h.ended.assignment.last_month ≡ month - 1
  ends = ap (λ (g : Given). g.assignment.last_month) over.ended

  ended_is : given_until h.ended.assignment.last_month over.former ≡ h.ended
  ended_is = ap (λ m. given_until m over.former) ends ∙ sym over.ended

  found_former : option_map (given_until h.ended.assignment.last_month)
      (row_by_number place h.ended.assignment.slot (held_by h.former.number rows)) ≡ Some h.ended
  found_former = ap (option_map (given_until h.ended.assignment.last_month)) over.found ∙ ap Some ended_is

  -- the former slot's place is that of what it was given
  former_place : over.former.assignment.slot ≡ h.ended.assignment.slot
  former_place = at_key place h.ended.assignment.slot over.former (held_by h.former.number rows) over.found

  -- the former slot and the new one are two
  two_slots : h.taker.number ≡ h.former.number → h.assigned.assignment.slot ≡ h.ended.assignment.slot → ⊥
  two_slots same here =
      let no : None ≡ Some over.former = sym over.new
      ∙ ap (λ n. row_by_number place h.assigned.assignment.slot (held_by n rows)) same
      ∙ ap (λ k. row_by_number place k (held_by h.former.number rows)) here ∙ over.found in
      cc

  still_new : row_by_number place h.assigned.assignment.slot (held_by h.taker.number ended_rows) ≡ None
  still_new = cases (row_by_number place h.assigned.assignment.slot (held_by h.taker.number ended_rows)) refl
    where
      cases : (w : Option Given) →
          row_by_number place h.assigned.assignment.slot (held_by h.taker.number ended_rows) ≡ w →
          row_by_number place h.assigned.assignment.slot (held_by h.taker.number ended_rows) ≡ None
      cases None e = e
      cases (Some x) e = some (found_ended h.former.number h.ended.assignment.slot h.ended.assignment.last_month rows
          h.taker.number h.assigned.assignment.slot x e)
        where
          some : ((h.taker.number ≡ h.former.number) × (h.assigned.assignment.slot ≡ h.ended.assignment.slot)
              × (option_map (given_until h.ended.assignment.last_month)
              (row_by_number place h.ended.assignment.slot (held_by h.former.number rows)) ≡ Some x))
              ⊎ ((row_by_number place h.assigned.assignment.slot (held_by h.taker.number rows) ≡ Some x)
              × (IsFormer h.taker.number h.assigned.assignment.slot → ⊥)) →
              row_by_number place h.assigned.assignment.slot (held_by h.taker.number ended_rows) ≡ None
          some (inl former) = absurd (two_slots former.0 former.1)
          some (inr stood) = let no : None ≡ Some x = sym over.new ∙ stood.0 in cc

  -- ---- what is found after it

  -- it is the new slot's, the former slot's, or another slot's, as it was before
  handed_found : (c k : ℕ) (x : Given) → row_by_number place k (held_by c handed_rows) ≡ Some x →
      (IsTaker c k × (x ≡ given_over h)) ⊎ ((IsFormer c k × (x ≡ h.ended))
      ⊎ ((row_by_number place k (held_by c rows) ≡ Some x) × (IsFormer c k → ⊥)))
  handed_found c k x found = cases (found_put h.taker.number (given_over h) ended_rows ended_in_order c k x found)
    where
      before : ((c ≡ h.former.number) × (k ≡ h.ended.assignment.slot)
          × (option_map (given_until h.ended.assignment.last_month)
          (row_by_number place h.ended.assignment.slot (held_by h.former.number rows)) ≡ Some x))
          ⊎ ((row_by_number place k (held_by c rows) ≡ Some x) × (IsFormer c k → ⊥)) →
          (IsTaker c k × (x ≡ given_over h)) ⊎ ((IsFormer c k × (x ≡ h.ended))
          ⊎ ((row_by_number place k (held_by c rows) ≡ Some x) × (IsFormer c k → ⊥)))
      before (inl former) =
          let same : Some h.ended ≡ Some x = sym found_former ∙ former.2 in
          let is : x ≡ h.ended = cc in
          inr (inl ((former.0, former.1), is))
      before (inr other) = inr (inr other)

      cases : ((c ≡ h.taker.number) × (k ≡ h.assigned.assignment.slot) × (x ≡ given_over h))
          ⊎ (row_by_number place k (held_by c ended_rows) ≡ Some x) →
          (IsTaker c k × (x ≡ given_over h)) ⊎ ((IsFormer c k × (x ≡ h.ended))
          ⊎ ((row_by_number place k (held_by c rows) ≡ Some x) × (IsFormer c k → ⊥)))
      cases (inl new) = inl ((new.0, new.1), new.2)
      cases (inr stood) = before (found_ended h.former.number h.ended.assignment.slot h.ended.assignment.last_month rows
          c k x stood)

  found_taker : row_by_number place h.assigned.assignment.slot (held_by h.taker.number handed_rows) ≡ Some
      (given_over h)
  found_taker = at_put_same h.taker.number (given_over h) ended_rows

  still_ended : (c k : ℕ) (x : Given) → row_by_number place k (held_by c ended_rows) ≡ Some x →
      row_by_number place k (held_by c handed_rows) ≡ Some x
  still_ended c k x found = at_put_found h.taker.number (given_over h) ended_rows ended_in_order still_new c k x found

  found_ended_one : row_by_number place h.ended.assignment.slot (held_by h.former.number handed_rows) ≡ Some h.ended
  found_ended_one =
      still_ended h.former.number h.ended.assignment.slot h.ended
      (at_ended_same h.former.number h.ended.assignment.slot h.ended.assignment.last_month rows ∙ found_former)

  -- the former slot's row is what that slot was given; another slot's row is still there
  stood_before : (c k : ℕ) (x : Given) → row_by_number place k (held_by c rows) ≡ Some x →
      (IsFormer c k × (x ≡ over.former)) ⊎ (row_by_number place k (held_by c handed_rows) ≡ Some x)
  stood_before c k x found = cases (eqb_tells c h.former.number) (eqb_tells k h.ended.assignment.slot)
    where
      cases : ((eqb c h.former.number ≡ true) × (c ≡ h.former.number))
          ⊎ ((eqb c h.former.number ≡ false) × (c ≢ h.former.number)) →
          ((eqb k h.ended.assignment.slot ≡ true) × (k ≡ h.ended.assignment.slot))
          ⊎ ((eqb k h.ended.assignment.slot ≡ false) × (k ≢ h.ended.assignment.slot)) →
          (IsFormer c k × (x ≡ over.former)) ⊎ (row_by_number place k (held_by c handed_rows) ≡ Some x)
      cases (inl same) (inl here) =
          let both : Some over.former ≡ Some x = sym over.found
          ∙ sym (ap (λ n. row_by_number place k (held_by n rows)) same.1
          ∙ ap (λ j. row_by_number place j (held_by h.former.number rows)) here.1) ∙ found in
          let is : x ≡ over.former = cc in
          inl ((same.1, here.1), is)
      cases (inl same) (inr there) = inr (still_ended c k x (
          ap (λ n. row_by_number place k (held_by n ended_rows)) same.1
          ∙ at_ended_other h.former.number h.ended.assignment.slot h.ended.assignment.last_month k rows there.1
          ∙ ap (λ n. row_by_number place k (held_by n rows)) (sym same.1) ∙ found
          ))
      cases (inr apart) tells = inr (still_ended c k x
          (ap (row_by_number place k) (held_ended_other c h.former.number h.ended.assignment.slot
          h.ended.assignment.last_month
          rows apart.1) ∙ found))

  -- in each slot that had something is something of that series and item
  record IsKept (c k : ℕ) (x : Given) : Type 0 where
    pub now : Given
    pub found : row_by_number place k (held_by c handed_rows) ≡ Some now
    pub series : now.series ≡ x.series
    pub item : now.assignment.item ≡ x.assignment.item

  kept : (c k : ℕ) (x : Given) → row_by_number place k (held_by c rows) ≡ Some x → IsKept c k x
  kept c k x found = cases (stood_before c k x found)
    where
      cases : (IsFormer c k × (x ≡ over.former)) ⊎ (row_by_number place k (held_by c handed_rows) ≡ Some x) →
          IsKept c k x
      cases (inl former) = record {
        now = h.ended;
        found = ap (λ n. row_by_number place k (held_by n handed_rows)) former.0.0
            ∙ ap (λ j. row_by_number place j (held_by h.former.number handed_rows)) former.0.1 ∙ found_ended_one;
        series = ap (λ (g : Given). g.series) over.ended ∙ ap (λ (g : Given). g.series) (sym former.1);
        item = ap (λ (g : Given). g.assignment.item) over.ended ∙ ap (λ (g : Given). g.assignment.item) (sym former.1);
      }
      cases (inr stands) = record { now = x; found = stands; series = refl; item = refl }

  -- each row comes from a row that was there before: it has its series and item, and its months
  record ComesFrom (x : Given) : Type 0 where
    pub number : ℕ
    pub before : Given
    pub found : row_by_number place before.assignment.slot (held_by number rows) ≡ Some before
    pub series : x.series ≡ before.series
    pub item : x.assignment.item ≡ before.assignment.item
    pub first : before.assignment.first_month ≤ x.assignment.first_month
    pub last : x.assignment.last_month ≤ before.assignment.last_month

  series_over : (given_over h).series ≡ over.former.series
  series_over = ap (λ (g : Given). g.series) over.ended

  former_found : row_by_number place over.former.assignment.slot (held_by h.former.number rows) ≡ Some over.former
  former_found = ap (λ k. row_by_number place k (held_by h.former.number rows)) former_place ∙ over.found

  new_comes : ComesFrom (given_over h)
  new_comes = record {
    number = h.former.number;
    before = over.former;
    found = former_found;
    series = series_over;
    item = over.item;
    first = let low = over.after_first in omega (arith, low);
    last = let same = over.last in omega (arith, same);
  }

  ended_comes : ComesFrom h.ended
  ended_comes = record {
    number = h.former.number;
    before = over.former;
    found = former_found;
    series = ap (λ (g : Given). g.series) over.ended;
    item = ap (λ (g : Given). g.assignment.item) over.ended;
    first = let same : h.ended.assignment.first_month ≡ over.former.assignment.first_month =
        ap (λ (g : Given). g.assignment.first_month) over.ended in omega (arith, same);
    last = let low = over.after_first in let high = over.until_last in let end = ends in omega (arith, low, high, end);
  }

  stays_comes : (c : ℕ) (x : Given) → row_by_number place x.assignment.slot (held_by c rows) ≡ Some x → ComesFrom x
  stays_comes c x found = record {
    number = c;
    before = x;
    found = found;
    series = refl;
    item = refl;
    first = omega arith;
    last = omega arith;
  }

  comes : (c : ℕ) (x : Given) → row_by_number place x.assignment.slot (held_by c handed_rows) ≡ Some x → ComesFrom x
  comes c x found = cases (handed_found c x.assignment.slot x found)
    where
      cases : (IsTaker c x.assignment.slot × (x ≡ given_over h))
          ⊎ ((IsFormer c x.assignment.slot × (x ≡ h.ended))
          ⊎ ((row_by_number place x.assignment.slot (held_by c rows) ≡ Some x) × (IsFormer c x.assignment.slot → ⊥))) →
          ComesFrom x
      cases (inl new) = subst ComesFrom (sym new.1) new_comes
      cases (inr (inl former)) = subst ComesFrom (sym former.1) ended_comes
      cases (inr (inr other)) = stays_comes c x other.0

  -- ---- what is kept

  pub last_handed : (s : SeriesId) → last_of_series s (hand_over h rows) ≡ last_of_series s rows
  last_handed s =
      le_antisymm
      (last_least s (last_of_series s rows) handed_rows (all_from_found place _ handed_rows handed_in_order upper))
      (last_least s (last_of_series s handed_rows) rows (all_from_found place _ rows all.in_order lower))
    where
      upper : (c : ℕ) (x : Given) → row_by_number place x.assignment.slot (held_by c handed_rows) ≡ Some x →
          x.series ≡ s →
          x.assignment.last_month ≤ last_of_series s rows
      upper c x found same =
          let from = comes c x found in
          let covered = all_of_found place (λ row. row.1.series ≡ s →
          row.1.assignment.last_month ≤ last_of_series s rows) from.number from.before.assignment.slot from.before
          rows (last_covers s rows) from.found in
          le_trans from.last (covered (sym from.series ∙ same))

      lower : (c : ℕ) (x : Given) → row_by_number place x.assignment.slot (held_by c rows) ≡ Some x → x.series ≡ s →
          x.assignment.last_month ≤ last_of_series s handed_rows
      lower c x found same = cases (stood_before c x.assignment.slot x found)
        where
          covered : (d k : ℕ) (y : Given) → row_by_number place k (held_by d handed_rows) ≡ Some y → y.series ≡ s →
              y.assignment.last_month ≤ last_of_series s handed_rows
          covered d k y there = all_of_found place (λ row. row.1.series ≡ s →
              row.1.assignment.last_month ≤ last_of_series s handed_rows) d k y handed_rows
              (last_covers s handed_rows) there

          cases : (IsFormer c x.assignment.slot × (x ≡ over.former))
              ⊎ (row_by_number place x.assignment.slot (held_by c handed_rows) ≡ Some x) →
              x.assignment.last_month ≤ last_of_series s handed_rows
          cases (inl former) =
              let below = covered h.taker.number h.assigned.assignment.slot (given_over h) found_taker
              (series_over ∙ ap (λ (g : Given). g.series) (sym former.1) ∙ same) in
              let equal : x.assignment.last_month ≡ h.assigned.assignment.last_month =
              ap (λ (g : Given). g.assignment.last_month) former.1 ∙ sym over.last in
              subst (λ m. m ≤ last_of_series s handed_rows) (sym equal) below
          cases (inr stands) = covered c x.assignment.slot x stands same

  handed_made : (c : ℕ) (x : Given) → row_by_number place x.assignment.slot (held_by c handed_rows) ≡ Some x →
      IsWellMade (c, x.assignment)
  handed_made c x found = cases (handed_found c x.assignment.slot x found)
    where
      made_before : (d k : ℕ) (y : Given) → row_by_number place k (held_by d rows) ≡ Some y → IsWellMade
          (d, y.assignment)
      made_before d k y there = all_of_found place (λ row. IsWellMade (row.0, row.1.assignment)) d k y rows all.made
          there

      new_made : IsWellMade (h.taker.number, h.assigned.assignment)
      new_made = record {
        months = let high = over.until_last in let same = over.last in
            omega (arith, high, same);
        collector = over.taker;
        slot = over.slot;
      }

      ended_made : IsWellMade (h.former.number, h.ended.assignment)
      ended_made =
          let made = made_before h.former.number h.ended.assignment.slot over.former over.found in
          record {
            months = let same : h.ended.assignment.first_month ≡ over.former.assignment.first_month =
                ap (λ (g : Given). g.assignment.first_month) over.ended in
                let low = over.after_first in let end = ends in omega (arith, same, low, end);
            collector = made.collector;
            slot = subst (λ k. (1 ≤ k) × (k ≤ GREATEST_SLOT)) former_place made.slot;
          }

      cases : (IsTaker c x.assignment.slot × (x ≡ given_over h))
          ⊎ ((IsFormer c x.assignment.slot × (x ≡ h.ended))
          ⊎ ((row_by_number place x.assignment.slot (held_by c rows) ≡ Some x) × (IsFormer c x.assignment.slot → ⊥))) →
          IsWellMade (c, x.assignment)
      cases (inl new) = subst (λ n. IsWellMade (n, x.assignment)) (sym new.0.0)
          (subst (λ (g : Given). IsWellMade (h.taker.number, g.assignment)) (sym new.1) new_made)
      cases (inr (inl former)) = subst (λ n. IsWellMade (n, x.assignment)) (sym former.0.0)
          (subst (λ (g : Given). IsWellMade (h.former.number, g.assignment)) (sym former.1) ended_made)
      cases (inr (inr other)) = made_before c x.assignment.slot x other.0

  handed_series : (c : ℕ) (x : Given) → row_by_number place x.assignment.slot (held_by c handed_rows) ≡ Some x →
      HasItsSeries handed_rows (c, x)
  handed_series c x found =
      let from = comes c x found in
      let has = all_of_found place (HasItsSeries rows) from.number from.before.assignment.slot from.before rows
      all.series from.found in
      let now = kept from.before.series.collector from.before.series.slot has.0 has.1 in (
        now.now,
        ap (λ (s : SeriesId). row_by_number place s.slot (held_by s.collector handed_rows)) from.series ∙ now.found,
        now.series ∙ has.2 ∙ sym from.series,
        now.item ∙ has.3 ∙ sym from.item,
      )

  -- two that come from two are apart as those are
  apart_before : (p q : ℕ × Given) (a : ComesFrom p.1) (b : ComesFrom q.1) →
      AreTwo place (a.number, a.before) (b.number, b.before) → AreApart p q
  apart_before p q a b two same m in_p in_q =
      let here = active_tells m p.1.assignment in_p in
      let there = active_tells m q.1.assignment in_q in
      pairs_of_found place AreApart apart_turned rows all.apart a.number a.before.assignment.slot a.before a.found
      b.number b.before.assignment.slot b.before b.found two
      (sym a.series ∙ same ∙ b.series) m
      (active_within m a.before.assignment (le_trans a.first here.0) (le_trans here.1 a.last))
      (active_within m b.before.assignment (le_trans b.first there.0) (le_trans there.1 b.last))

  -- the former assignment is over before the new one begins
  over_before : (m : ℕ) → is_active m h.ended.assignment ≡ true → is_active m h.assigned.assignment ≡ true → ⊥
  over_before m in_ended in_new =
      let here = active_tells m h.ended.assignment in_ended in
      let there = active_tells m h.assigned.assignment in_new in
      let end = ends in
      let low = over.after_first in
      omega (arith, here.1, there.0, end, low)

  abbrev IsFound : ℕ × Given → Type 0
  IsFound r = (IsTaker r.0 r.1.assignment.slot × (r.1 ≡ given_over h))
      ⊎ ((IsFormer r.0 r.1.assignment.slot × (r.1 ≡ h.ended))
      ⊎ ((row_by_number place r.1.assignment.slot (held_by r.0 rows) ≡ Some r.1) ×
      (IsFormer r.0 r.1.assignment.slot → ⊥)))

  -- another slot's is apart from what comes from the former one's
  other_apart : (x : Given) → (number : ℕ) → (from : ComesFrom x) → from.number ≡ h.former.number →
      from.before ≡ over.former → (q : ℕ × Given) → row_by_number place q.1.assignment.slot (held_by q.0 rows) ≡
      Some q.1 →
      (IsFormer q.0 q.1.assignment.slot → ⊥) → AreApart (number, x) q
  unfolding stays_comes
  other_apart x number from mine is q found other =
      apart_before (number, x) q from (stays_comes q.0 q.1 found)
      (λ same. other (sym same.0 ∙ mine, sym same.1 ∙ ap place is ∙ former_place))

  handed_apart : (p q : ℕ × Given) → IsFound p → IsFound q → AreTwo place p q → AreApart p q
  unfolding new_comes ended_comes stays_comes
  handed_apart p q (inl new) (inl too) two = absurd (two (new.0.0 ∙ sym too.0.0, new.0.1 ∙ sym too.0.1))
  handed_apart p q (inl new) (inr (inl former)) two =
      λ same m x y. over_before m (subst (λ (g : Given). is_active m g.assignment ≡ true) former.1 y)
      (subst (λ (g : Given). is_active m g.assignment ≡ true) new.1 x)
  handed_apart p q (inl new) (inr (inr other)) two =
      subst (λ (g : Given). AreApart (p.0, g) q) (sym new.1)
      (other_apart (given_over h) p.0 new_comes refl refl q other.0 other.1)
  handed_apart p q (inr (inl former)) (inl too) two =
      λ same m x y. over_before m (subst (λ (g : Given). is_active m g.assignment ≡ true) former.1 x)
      (subst (λ (g : Given). is_active m g.assignment ≡ true) too.1 y)
  handed_apart p q (inr (inl former)) (inr (inl too)) two =
      absurd (two (former.0.0 ∙ sym too.0.0, former.0.1 ∙ sym too.0.1))
  handed_apart p q (inr (inl former)) (inr (inr other)) two =
      subst (λ (g : Given). AreApart (p.0, g) q) (sym former.1)
      (other_apart h.ended p.0 ended_comes refl refl q other.0 other.1)
  handed_apart p q (inr (inr stood)) (inl too) two =
      apart_turned q p (subst (λ (g : Given). AreApart (q.0, g) p) (sym too.1)
      (other_apart (given_over h) q.0 new_comes refl refl p stood.0 stood.1))
  handed_apart p q (inr (inr stood)) (inr (inl too)) two =
      apart_turned q p (subst (λ (g : Given). AreApart (q.0, g) p) (sym too.1)
      (other_apart h.ended q.0 ended_comes refl refl p stood.0 stood.1))
  handed_apart p q (inr (inr stood)) (inr (inr other)) two =
      apart_before p q (stays_comes p.0 p.1 stood.0) (stays_comes q.0 q.1 other.0) two

  pub given_handed : AreGiven (hand_over h rows)
  given_handed = record {
    in_order = handed_in_order;
    made = all_from_found place _ handed_rows handed_in_order handed_made;
    series = all_from_found place _ handed_rows handed_in_order handed_series;
    apart = pairs_from_found place AreApart handed_rows handed_in_order
        (λ p q here there two. handed_apart p q (handed_found p.0 p.1.assignment.slot p.1 here)
        (handed_found q.0 q.1.assignment.slot q.1 there) two);
  }

  one_quoted : (row : ℕ × QuoteRow) → HasItsAssignment rows row →
      (row.0 ≡ h.former.number → row.1.slot ≡ h.ended.assignment.slot → row.1.month < month) →
      HasItsAssignment handed_rows row
  one_quoted row has early = cases (stood_before row.0 row.1.slot has.0 has.1)
    where
      cases : (IsFormer row.0 row.1.slot × (has.0 ≡ over.former))
          ⊎ (row_by_number place row.1.slot (held_by row.0 handed_rows) ≡ Some has.0) → HasItsAssignment handed_rows row
      cases (inl former) =
          let active = active_tells row.1.month has.0.assignment has.2 in
          let below = early former.0.0 former.0.1 in
          let end = ends in
          let same : h.ended.assignment.first_month ≡ has.0.assignment.first_month =
          ap (λ (g : Given). g.assignment.first_month) over.ended
          ∙ ap (λ (g : Given). g.assignment.first_month) (sym former.1) in (
            h.ended,
            ap (λ n. row_by_number place row.1.slot (held_by n handed_rows)) former.0.0
                ∙ ap (λ k. row_by_number place k (held_by h.former.number handed_rows)) former.0.1 ∙ found_ended_one,
            active_within row.1.month h.ended.assignment (omega (arith, same, active.0)) (omega (arith, below, end)),
          )
      cases (inr stands) = (has.0, stands, has.2)

  pub quoted_handed : AllByRecursion (HasItsAssignment rows) quotes →
      AllByRecursion (HasItsAssignment (hand_over h rows)) quotes
  quoted_handed quoted =
      all_both (HasItsAssignment rows) (λ (row : ℕ × QuoteRow). row.0 ≡ h.former.number →
      row.1.slot ≡ h.ended.assignment.slot → row.1.month < month) (HasItsAssignment handed_rows)
      one_quoted quotes quoted (all_earlier h.former.number h.ended.assignment.slot month quotes over.unquoted)

  one_handed : (r : Release) → HasFrozenList rows r → HasFrozenList handed_rows r
  one_handed r list = record {
    in_order = list.in_order;
    of_series = all_weaker (IsOfSeries rows) (IsOfSeries handed_rows)
        (λ f of. let now = kept f.series.collector f.series.slot of.0 of.1 in
        (now.now, now.found, of.2 ∙ sym now.item, of.3 ∙ sym (last_handed f.series))) r.frozen list.of_series;
  }

  pub frozen_handed : (releases : List Release) → AllByRecursion (HasFrozenList rows) releases →
      AllByRecursion (HasFrozenList (hand_over h rows)) releases
  frozen_handed releases frozen = all_weaker (HasFrozenList rows) (HasFrozenList handed_rows) one_handed releases frozen

  -- each assignment still prices an item that is there
  pub priced_handed : (o : Office) → AllByRecursion (HasItsItem o) rows →
      AllByRecursion (HasItsItem o) (hand_over h rows)
  priced_handed o priced = all_from_found place _ handed_rows handed_in_order each
    where
      each : (c : ℕ) (x : Given) → row_by_number place x.assignment.slot (held_by c handed_rows) ≡ Some x →
          HasItsItem o (c, x)
      each c x found =
          let from = comes c x found in
          subst (λ n. IsSome (row_by_number (λ i. i.code) n o.items)) (sym from.item)
          (all_of_found place (HasItsItem o) from.number from.before.assignment.slot from.before rows priced from.found)
