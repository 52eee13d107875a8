-- The stored quotes of a month, holder by holder.
use Rattle.std.proofs.Common.{◌≡◌, ℕ, Bool, true, false, List, [], ◌∷◌, ◌++◌, map, Some, None, Option, refl, sym, ap}
use Rattle.std.proofs.Common.{◌∙◌, arith, subst}
use Rattle.std.specs.Prelude.{max, option_map}
use Rattle.std.specs.List.{AllByRecursion, Contains, IsDistinct, filter_map}
use Rattle.std.specs.declared.cmp.Ordering.TheVariants.{Less}
use Rattle.std.specs.Ordering.{nat_cmp, is_eq}
use Rattle.std.proofs.lemmas.Cmp.{nat_cmp_total, tied_itself}
use Rattle.std.proofs.lemmas.List.{map-append}
use Rattle.std.proofs.lemmas.List.Elements.{All-contains_itself, All-from_recursion, filter_map-append}
use Rattle.std.proofs.lemmas.List.Elements.{recursion_from_All}
use Rattle.std.proofs.lemmas.Grind.{flat_map-append}
use Rattle.std.proofs.lemmas.Map.Keys.{sorted_head, sorted_tail}
use Rattle.cpi_rows.specs.Keyed.{row_at, IsInOrder}
use Rattle.cpi_rows.specs.Held.{held_by}
use Rattle.cpi_rows.specs.Gathered.{rows_in}
use Rattle.cpi_rows.proofs.Gathered.{held_gathered}
use Rattle.cpi_codes.specs.declared.series.SeriesId.{SeriesId}
use Rattle.cpi_survey.specs.Quote.{QuoteRow, quote_cmp, quote_key}
use Rattle.cpi_survey.specs.declared.assignment.Assigned.{Assigned}
use Rattle.cpi_survey.specs.declared.assignment.Assignment.{Assignment}
use Rattle.cpi_index.specs.Frozen.{Frozen}
use Rattle.cpi_index.specs.Series.{are_by_series, frozen_serial}
use Rattle.cpi_plan.proofs.OnceLemmas.{once_from_order}
use Rattle.cpi_store.specs.Office.{frozen_row, stored_rows}
use Rattle.cpi_store.specs.Series.{by_series, given_in, is_handed_over, last_handed_over, last_known, last_of_series}
use Rattle.cpi_store.specs.Series.{own_series, same_series, series_named_in}
use Rattle.cpi_store.specs.Holders.{own_row, own_rows, own_given, rows_of_holders, all_assignments, all_given}
use Rattle.cpi_store.specs.Holders.{quotes_of_holders, assignments_of, quotes_of}
use Rattle.cpi_store.specs.declared.given.Given.{Given}
use Rattle.cpi_store.specs.declared.holder.Holder.{Holder}
use Rattle.cpi_store.specs.declared.series_ends.SeriesEnds.{SeriesEnds}
use Rattle.cpi_store.specs.declared.taken_over.TakenOver.{TakenOver}
use Rattle.cpi_store.proofs.BySeries.{by_series_in_order, by_series_moved, series_cmp_total}
use Rattle.cpi_store.proofs.HandedSeries.{collectors_are, ends_at, is_one, names_own, slots_are}
use Rattle.cpi_store.proofs.Lasts.{IsCovered, last_of_series_covers, same_series_own}

-- assignments of one collector, each with its series
abbrev pub given_rows : List TakenOver → ℕ → List Assigned → List (ℕ × Given)
given_rows taken n rows = map (given_in taken) (map (λ a. (n, a)) (map (λ a. a.assignment) rows))

-- the assignments of all are those of the first and those of the others
pub all_given_cons : (taken : List TakenOver) (h : Holder) (hs : List Holder) →
    all_given taken (h ∷ hs) ≡ own_given taken h ++ all_given taken hs
all_given_cons taken h hs = map-append (given_in taken) (map (λ a. (h.number, a)) (assignments_of h))
    (all_assignments hs)

pub all_given_append : (taken : List TakenOver) (gs hs : List Holder) →
    all_given taken (gs ++ hs) ≡ all_given taken gs ++ all_given taken hs
all_given_append taken gs hs =
    ap (map (given_in taken)) (flat_map-append (λ (h : Holder). map (λ a. (h.number, a)) (assignments_of h)) gs hs)
    ∙ map-append (given_in taken) (all_assignments gs) (all_assignments hs)

front : (P : ℕ × Given → Type 0) (xs ys : List (ℕ × Given)) → AllByRecursion P (xs ++ ys) → AllByRecursion P xs
front P [] ys all = tt
front P (x ∷ xs) ys all = (all.0, front P xs ys all.1)

back : (P : ℕ × Given → Type 0) (xs ys : List (ℕ × Given)) → AllByRecursion P (xs ++ ys) → AllByRecursion P ys
back P [] ys all = all
back P (x ∷ xs) ys all = back P xs ys all.1

module _ (month : ℕ) (ends : SeriesEnds) (taken : List TakenOver) (quotes : List (ℕ × QuoteRow))
    (given : List (ℕ × Given)) where
  abbrev ending : SeriesId → ℕ → ℕ → QuoteRow → Frozen
  ending s item last_month q = record { series = s; item = item; last_month = last_month; mark = q.mark }

  -- an assignment that has a quote of the month ends its series, or a later month of it is known
  abbrev pub IsEnded : ℕ × Given → Type 0
  IsEnded row = (q : QuoteRow) →
      row_at quote_cmp quote_key (row.1.assignment.slot, month) (held_by row.0 quotes) ≡ Some q →
      last_of_series row.1.series given ≡ max row.1.assignment.last_month (last_known ends row.1.series)

  one_row : (h : Holder) (a : Assigned) → held_by h.number quotes ≡ h.own.quotes →
      IsEnded (given_in taken (h.number, a.assignment)) →
      frozen_row month quotes given (given_in taken (h.number, a.assignment)) ≡ own_row month ends taken h a
  one_row h a e ended =
      cases (row_at quote_cmp quote_key (a.assignment.slot, month) (held_by h.number quotes)) refl
      ∙ ap (λ qs. option_map (ending s a.assignment.item known)
      (row_at quote_cmp quote_key (a.assignment.slot, month) qs)) e
    where
      s : SeriesId
      s = series_named_in taken h.number a.assignment.slot

      known : ℕ
      known = max a.assignment.last_month (last_known ends s)

      cases : (w : Option QuoteRow) →
          row_at quote_cmp quote_key (a.assignment.slot, month) (held_by h.number quotes) ≡ w →
          option_map (ending s a.assignment.item (last_of_series s given)) w
          ≡ option_map (ending s a.assignment.item known) w
      cases None f = refl
      cases (Some q) f = ap (λ m. Some (ending s a.assignment.item m q)) (ended q f)

  -- one holder's
  one_holder : (h : Holder) → held_by h.number quotes ≡ h.own.quotes → (rows : List Assigned) →
      AllByRecursion IsEnded (given_rows taken h.number rows) →
      filter_map (frozen_row month quotes given) (given_rows taken h.number rows) ≡ filter_map
      (own_row month ends taken h) rows
  one_holder h e [] ended = refl
  one_holder h e (a ∷ rows) ended = cases (own_row month ends taken h a) refl (one_holder h e rows ended.1)
    where
      cases : (w : Option Frozen) → own_row month ends taken h a ≡ w →
          filter_map (frozen_row month quotes given) (given_rows taken h.number rows) ≡ filter_map
          (own_row month ends taken h) rows →
          filter_map (frozen_row month quotes given) (given_rows taken h.number (a ∷ rows)) ≡ filter_map
          (own_row month ends taken h) (a ∷ rows)
      cases None f rest = rw (one_row h a e ended.0 ∙ f, f) rest
      cases (Some x) f rest = rw (one_row h a e ended.0 ∙ f, f) (ap (λ ys. x ∷ ys) rest)

  all_holders : (hs : List Holder) → AllByRecursion (λ (h : Holder). held_by h.number quotes ≡ h.own.quotes) hs →
      AllByRecursion IsEnded (all_given taken hs) →
      filter_map (frozen_row month quotes given) (all_given taken hs) ≡ rows_of_holders month ends taken hs
  all_holders [] all ended = refl
  all_holders (h ∷ hs) all ended =
      let whole = rw all_given_cons at ended in
      ap (filter_map (frozen_row month quotes given)) (all_given_cons taken h hs)
      ∙ filter_map-append (frozen_row month quotes given) (own_given taken h) (all_given taken hs)
      ∙ ap (λ ys. ys ++ filter_map (frozen_row month quotes given) (all_given taken hs))
      (one_holder h all.0 h.own.assignments (front IsEnded (own_given taken h) (all_given taken hs) whole))
      ∙ ap (λ ys. own_rows month ends taken h ++ ys)
      (all_holders hs all.1 (back IsEnded (own_given taken h) (all_given taken hs) whole))

-- ---- each assignment that has a quote of the month is ended so, if no series has two

module _ (month : ℕ) (ends : SeriesEnds) (taken : List TakenOver) (quotes : List (ℕ × QuoteRow))
    (rows : List (ℕ × Assignment)) where
  abbrev given_all : List (ℕ × Given)
  given_all = map (given_in taken) rows

  module _ (known : (s : SeriesId) → last_known ends s ≡ last_handed_over taken s given_all)
      (apart : IsDistinct is_one (filter_map (frozen_row month quotes given_all) given_all)) where
    one_ended : (r : ℕ × Assignment) → Contains rows r → IsCovered given_all (given_in taken r) →
        IsEnded month ends taken quotes given_all (given_in taken r)
    one_ended r has covered q stands = cases (is_handed_over taken s) refl
      where
        s : SeriesId
        s = series_named_in taken r.0 r.1.slot

        Ends : ℕ × Assignment → Type 0
        Ends x = same_series (series_named_in taken x.0 x.1.slot) s ≡ true → last_of_series s given_all ≡ x.1.last_month

        cases : (t : Bool) → is_handed_over taken s ≡ t →
            last_of_series s given_all ≡ max r.1.last_month (last_known ends s)
        cases true e =
            let last : last_known ends s ≡ last_of_series s given_all = known s ∙ rw e refl in
            omega (arith, last, covered)
        cases false e =
            let none : last_known ends s ≡ 0 = known s ∙ rw e refl in
            let own : same_series (own_series r.0 r.1.slot) s ≡ true =
            names_own taken r.0 r.1.slot s e (same_series_own s) in
            let stands_there : row_at quote_cmp quote_key (s.slot, month) (held_by s.collector quotes) ≡ Some q =
            ap (λ n. row_at quote_cmp quote_key (n, month) (held_by s.collector quotes))
            (sym (slots_are (own_series r.0 r.1.slot) s own))
            ∙ ap (λ c. row_at quote_cmp quote_key (r.1.slot, month) (held_by c quotes))
            (sym (collectors_are (own_series r.0 r.1.slot) s own)) ∙ stands in
            let all : AllByRecursion Ends rows =
            ends_at month quotes given_all taken s q e stands_there (last_of_series s given_all) rows refl apart in
            let one : Ends r = subst Ends has.2 (All-from_recursion Ends rows all has.0 r has.1) in
            let last : last_of_series s given_all ≡ r.1.last_month = one (same_series_own s) in
            omega (arith, last, none)

    pub all_ended : (rs : List (ℕ × Assignment)) → AllByRecursion (Contains rows) rs →
        AllByRecursion (IsCovered given_all) (map (given_in taken) rs) →
        AllByRecursion (IsEnded month ends taken quotes given_all) (map (given_in taken) rs)
    all_ended [] has covered = tt
    all_ended (r ∷ rs) has covered = (one_ended r has.0 covered.0, all_ended rs has.1 covered.1)

-- each holder is found by number
all_found : (hs : List Holder) → IsInOrder nat_cmp (λ h. h.number) hs →
    AllByRecursion (λ (h : Holder). row_at nat_cmp (λ (h : Holder). h.number) h.number hs ≡ Some h) hs
all_found [] sorted = tt
all_found (h ∷ hs) sorted = (
  here,
  later hs (sorted_head (λ (a : Holder) (b : Holder). nat_cmp a.number b.number) h hs
      sorted) (all_found hs (sorted_tail (λ (a : Holder) (b : Holder). nat_cmp a.number b.number) h hs sorted)),
)
  where
    here : row_at nat_cmp (λ (h : Holder). h.number) h.number (h ∷ hs) ≡ Some h
    here = rw (ap is_eq (tied_itself nat_cmp_total h.number)) refl

    later : (gs : List Holder) → AllByRecursion (λ (g : Holder). nat_cmp h.number g.number ≡ Less) gs →
        AllByRecursion (λ (g : Holder). row_at nat_cmp (λ (h : Holder). h.number) g.number hs ≡ Some g) gs →
        AllByRecursion (λ (g : Holder). row_at nat_cmp (λ (h : Holder). h.number) g.number (h ∷ hs) ≡ Some g) gs
    later [] below all = tt
    later (g ∷ gs) below all = (rw (ap is_eq below.0) all.0, later gs below.1 all.1)

own_held : (hs : List Holder) → IsInOrder nat_cmp (λ h. h.number) hs → (gs : List Holder) →
    AllByRecursion (λ (h : Holder). row_at nat_cmp (λ (h : Holder). h.number) h.number hs ≡ Some h) gs →
    AllByRecursion (λ (h : Holder). held_by h.number (quotes_of_holders hs) ≡ h.own.quotes) gs
own_held hs sorted [] all = tt
own_held hs sorted (g ∷ gs) all = (
  held_gathered quote_cmp quote_key (λ h. h.number) quotes_of g.number hs sorted
      ∙ ap (rows_in quotes_of) all.0,
  own_held hs sorted gs all.1,
)

-- With the last month of each series that a slot took over, the holders' quotes of a month are the stored ones, if no
-- series has two.
pub month_gathered : (month : ℕ) (ends : SeriesEnds) (taken : List TakenOver) (hs : List Holder) →
    IsInOrder nat_cmp (λ h. h.number) hs → ((s : SeriesId) →
    last_known ends s ≡ last_handed_over taken s (all_given taken hs)) →
    are_by_series frozen_serial (by_series (stored_rows month (quotes_of_holders hs) (all_given taken hs))) ≡ true →
    stored_rows month (quotes_of_holders hs) (all_given taken hs) ≡ rows_of_holders month ends taken hs
month_gathered month ends taken hs sorted known whole =
    let rows : List (ℕ × Assignment) = all_assignments hs in
    let stored : List Frozen = stored_rows month (quotes_of_holders hs) (all_given taken hs) in
    let apart : IsDistinct is_one stored =
    once_from_order series_cmp_total (λ (f : Frozen). f.series) stored (by_series stored) (by_series_moved stored)
    (by_series_in_order stored whole) in
    all_holders month ends taken (quotes_of_holders hs) (all_given taken hs) hs
    (own_held hs sorted hs (all_found hs sorted))
    (all_ended month ends taken (quotes_of_holders hs) rows known apart rows
    (recursion_from_All (Contains rows) rows (All-contains_itself rows)) (last_of_series_covers (all_given taken hs)))
