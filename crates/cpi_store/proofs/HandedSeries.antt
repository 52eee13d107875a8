-- Series that slots took over, and series that none did, each of which has but the assignments of the slot it names.
use Rattle.std.proofs.Common.{◌≡◌, ℕ, Bool, true, false, eqb, List, [], ◌∷◌, ◌++◌, map, Some, None, Option, refl}
use Rattle.std.proofs.Common.{sym, ap, ◌∙◌, arith}
use Rattle.std.specs.Prelude.{◌&&◌, ◌==◌, max, option_map}
use Rattle.std.specs.List.{AllByRecursion, IsDistinct, cons_option, filter_map, list_any}
use Rattle.std.specs.Ordering.{nat_cmp, is_eq}
use Rattle.std.proofs.lemmas.Bool.{eq-eqb, eqb-true}
use Rattle.cpi_rows.specs.Keyed.{row_at}
use Rattle.cpi_rows.specs.Held.{held_by, held_cmp}
use Rattle.cpi_rows.proofs.Truth.{and_both, or_of_second}
use Rattle.cpi_codes.specs.declared.series.SeriesId.{SeriesId}
use Rattle.cpi_survey.specs.Quote.{QuoteRow, quote_cmp, quote_key}
use Rattle.cpi_survey.specs.declared.assignment.Assignment.{Assignment}
use Rattle.cpi_index.specs.Frozen.{Frozen}
use Rattle.cpi_store.specs.Office.{frozen_quote, frozen_row}
use Rattle.cpi_store.specs.Series.{given_in, is_handed_over, last_handed_over, last_of_series, own_series, same_series}
use Rattle.cpi_store.specs.Series.{series_cmp, series_named_in}
use Rattle.cpi_store.specs.declared.given.Given.{Given}
use Rattle.cpi_store.specs.declared.taken_over.TakenOver.{TakenOver}
use Rattle.cpi_store.proofs.GivenSlots.{level_slots, taken_key}
use Rattle.cpi_store.proofs.Lasts.{last_of_series_append}

-- of more assignments, the later one of both
pub last_handed_over_append : (taken : List TakenOver) (s : SeriesId) (xs ys : List (ℕ × Given)) →
    last_handed_over taken s (xs ++ ys) ≡ max (last_handed_over taken s xs) (last_handed_over taken s ys)
last_handed_over_append taken s xs ys = cases (is_handed_over taken s) refl
  where
    cases : (t : Bool) → is_handed_over taken s ≡ t →
        last_handed_over taken s (xs ++ ys) ≡ max (last_handed_over taken s xs) (last_handed_over taken s ys)
    cases true e = rw e (last_of_series_append s xs ys)
    cases false e = rw e refl

pub collectors_are : (a b : SeriesId) → same_series a b ≡ true → a.collector ≡ b.collector
collectors_are a b same =
    eqb-true a.collector b.collector (and_both (eqb a.collector b.collector) (eqb a.slot b.slot) same).0

pub slots_are : (a b : SeriesId) → same_series a b ≡ true → a.slot ≡ b.slot
slots_are a b same = eqb-true a.slot b.slot (and_both (eqb a.collector b.collector) (eqb a.slot b.slot) same).1

pub same_series_is : (a b : SeriesId) → a.collector ≡ b.collector → a.slot ≡ b.slot → same_series a b ≡ true
same_series_is a b collectors slots =
    rw (eq-eqb a.collector b.collector collectors, eq-eqb a.slot b.slot slots) refl

-- one series is handed over or isn't
pub handed_over_alike : (taken : List TakenOver) (a b : SeriesId) → same_series a b ≡ true →
    is_handed_over taken a ≡ is_handed_over taken b
handed_over_alike taken a b same =
    ap (λ c. list_any (λ (t : TakenOver). t.series.collector == c && t.series.slot == a.slot) taken)
    (collectors_are a b same)
    ∙ ap (λ n. list_any (λ (t : TakenOver). t.series.collector == b.collector && t.series.slot == n) taken)
    (slots_are a b same)

-- what is found passes a test that it passes
any_found : (p : TakenOver → Bool) (key : ℕ × ℕ) (taken : List TakenOver) (t : TakenOver) →
    row_at (held_cmp nat_cmp) taken_key key taken ≡ Some t → p t ≡ true → list_any p taken ≡ true
any_found p key [] t found passes = let no : None ≡ Some t = found in cc
any_found p key (x ∷ taken) t found passes =
    cases (is_eq (held_cmp nat_cmp (taken_key x) key)) refl (any_found p key taken t)
  where
    cases : (w : Bool) → is_eq (held_cmp nat_cmp (taken_key x) key) ≡ w →
        (row_at (held_cmp nat_cmp) taken_key key taken ≡ Some t → p t ≡ true → list_any p taken ≡ true) →
        list_any p (x ∷ taken) ≡ true
    cases true e rest =
        let one : Some x ≡ Some t = rw e at found in
        let is : x ≡ t = cc in
        rw (ap p is ∙ passes) refl
    cases false e rest = or_of_second (p x) (list_any p taken) (rest (rw e at found) passes)

-- the slot of a series that no slot took over is the one that the series names
pub names_own : (taken : List TakenOver) (c slot : ℕ) (s : SeriesId) → is_handed_over taken s ≡ false →
    same_series (series_named_in taken c slot) s ≡ true → same_series (own_series c slot) s ≡ true
names_own taken c slot s free same = cases (row_at (held_cmp nat_cmp) taken_key (c, slot) taken) refl
  where
    cases : (w : Option TakenOver) → row_at (held_cmp nat_cmp) taken_key (c, slot) taken ≡ w →
        same_series (own_series c slot) s ≡ true
    cases None e = rw e at same
    cases (Some t) e =
        let of_it : same_series t.series s ≡ true = rw e at same in
        let taken_it : is_handed_over taken s ≡ true =
        any_found (λ t. same_series t.series s) (c, slot) taken t e of_it in
        let no : false ≡ true = sym free ∙ taken_it in
        cc

abbrev pub is_one : Frozen → Frozen → Bool
is_one f g = is_eq (series_cmp f.series g.series)

module _ (month : ℕ) (quotes : List (ℕ × QuoteRow)) (given : List (ℕ × Given)) (taken : List TakenOver)
    (s : SeriesId) (q : QuoteRow) (free : is_handed_over taken s ≡ false)
    (has : row_at quote_cmp quote_key (s.slot, month) (held_by s.collector quotes) ≡ Some q) where
  abbrev stored : ℕ × Given → Option Frozen
  stored row = frozen_row month quotes given row

  abbrev is_its : ℕ × Assignment → Bool
  is_its r = same_series (series_named_in taken r.0 r.1.slot) s

  abbrev quote_of_it : ℕ × Assignment → Frozen
  quote_of_it r = frozen_quote given (given_in taken r).1 q

  -- each assignment of the series has that quote
  stores : (r : ℕ × Assignment) → is_its r ≡ true → stored (given_in taken r) ≡ Some (quote_of_it r)
  stores r its =
      let own : same_series (own_series r.0 r.1.slot) s ≡ true = names_own taken r.0 r.1.slot s free its in
      ap (λ n. option_map (frozen_quote given (given_in taken r).1)
      (row_at quote_cmp quote_key (n, month) (held_by r.0 quotes))) (slots_are (own_series r.0 r.1.slot) s own)
      ∙ ap (λ c. option_map (frozen_quote given (given_in taken r).1)
      (row_at quote_cmp quote_key (s.slot, month) (held_by c quotes))) (collectors_are (own_series r.0 r.1.slot) s own)
      ∙ ap (option_map (frozen_quote given (given_in taken r).1)) has

  later_apart : (f : Frozen) (row : ℕ × Given) (rows : List (ℕ × Given)) →
      AllByRecursion (λ g. is_one f g ≡ false) (filter_map stored (row ∷ rows)) →
      AllByRecursion (λ g. is_one f g ≡ false) (filter_map stored rows)
  later_apart f row rows all = cases (stored row) all
    where
      cases : (w : Option Frozen) → AllByRecursion (λ g. is_one f g ≡ false) (cons_option w (filter_map stored rows)) →
          AllByRecursion (λ g. is_one f g ≡ false) (filter_map stored rows)
      cases None all = all
      cases (Some x) all = all.1

  later_distinct : (row : ℕ × Given) (rows : List (ℕ × Given)) → IsDistinct is_one (filter_map stored (row ∷ rows)) →
      IsDistinct is_one (filter_map stored rows)
  unfolding IsDistinct
  later_distinct row rows all = cases (stored row) all
    where
      cases : (w : Option Frozen) → IsDistinct is_one (cons_option w (filter_map stored rows)) →
          IsDistinct is_one (filter_map stored rows)
      cases None all = all
      cases (Some x) all = all.1

  -- if no quote is of the series, no assignment is
  none_more : (f : Frozen) → same_series f.series s ≡ true → (rs : List (ℕ × Assignment)) →
      AllByRecursion (λ g. is_one f g ≡ false) (filter_map stored (map (given_in taken) rs)) →
      AllByRecursion (λ r. is_its r ≡ false) rs
  none_more f same [] all = tt
  none_more f same (r ∷ rs) all = (
    cases (is_its r) refl,
    none_more f same rs (later_apart f (given_in taken r) (map (given_in taken) rs) all),
  )
    where
      cases : (t : Bool) → is_its r ≡ t → is_its r ≡ false
      cases true e =
          let split = rw (stores r e) at all in
          let apart : is_one f (quote_of_it r) ≡ false = split.0 in
          let level : is_one f (quote_of_it r) ≡ same_series f.series (series_named_in taken r.0 r.1.slot) =
          level_slots f.series.collector f.series.slot (series_named_in taken r.0 r.1.slot).collector
          (series_named_in taken r.0 r.1.slot).slot in
          let one : same_series f.series (series_named_in taken r.0 r.1.slot) ≡ true =
          same_series_is f.series (series_named_in taken r.0 r.1.slot)
          (collectors_are f.series s same ∙ sym (collectors_are (series_named_in taken r.0 r.1.slot) s e))
          (slots_are f.series s same ∙ sym (slots_are (series_named_in taken r.0 r.1.slot) s e)) in
          let no : false ≡ true = sym apart ∙ level ∙ one in
          cc
      cases false e = e

  none_last : (rs : List (ℕ × Assignment)) → AllByRecursion (λ r. is_its r ≡ false) rs →
      last_of_series s (map (given_in taken) rs) ≡ 0
  none_last [] all = refl
  none_last (r ∷ rs) all = rw all.0 (none_last rs all.1)

  abbrev EndsAt : ℕ → ℕ × Assignment → Type 0
  EndsAt m r = is_its r ≡ true → m ≡ r.1.last_month

  no_ends : (m : ℕ) (rs : List (ℕ × Assignment)) → AllByRecursion (λ r. is_its r ≡ false) rs →
      AllByRecursion (EndsAt m) rs
  no_ends m [] all = tt
  no_ends m (r ∷ rs) all = ((λ its. let no : false ≡ true = sym all.0 ∙ its in cc), no_ends m rs all.1)

  -- if no series has two quotes, the series has one assignment
  pub ends_at : (m : ℕ) (rs : List (ℕ × Assignment)) → last_of_series s (map (given_in taken) rs) ≡ m →
      IsDistinct is_one (filter_map stored (map (given_in taken) rs)) → AllByRecursion (EndsAt m) rs
  unfolding IsDistinct
  ends_at m [] last distinct = tt
  ends_at m (r ∷ rs) last distinct = cases (is_its r) refl (ends_at m rs)
    where
      cases : (t : Bool) → is_its r ≡ t → (last_of_series s (map (given_in taken) rs) ≡ m →
          IsDistinct is_one (filter_map stored (map (given_in taken) rs)) → AllByRecursion (EndsAt m) rs) →
          AllByRecursion (EndsAt m) (r ∷ rs)
      cases true e rest =
          let split = rw (stores r e) at distinct in
          let none : AllByRecursion (λ r. is_its r ≡ false) rs = none_more (quote_of_it r) e rs split.0 in
          let others : last_of_series s (map (given_in taken) rs) ≡ 0 = none_last rs none in
          let whole : max r.1.last_month (last_of_series s (map (given_in taken) rs)) ≡ m = rw e at last in
          ((λ its. omega (arith, others, whole)), no_ends m rs none)
      cases false e rest = (
        (λ its. let no : false ≡ true = sym e ∙ its in cc),
        rest (rw e at last) (later_distinct (given_in taken r) (map (given_in taken) rs) distinct),
      )
