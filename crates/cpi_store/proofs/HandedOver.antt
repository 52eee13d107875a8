-- The assignments of all, each with its series, after a series was handed over.
use Rattle.std.proofs.Common.{◌≡◌, ◌≢◌, ℕ, Bool, true, false, eqb, List, [], ◌∷◌, map, None, refl, sym, ap, ◌∙◌, inl}
use Rattle.std.proofs.Common.{inr}
use Rattle.std.specs.Prelude.{◌&&◌, ◌||◌, ◌==◌, ◌⊎◌, IsSome, filter, is_some}
use Rattle.std.specs.declared.cmp.Ordering.{Ordering}
use Rattle.std.specs.declared.cmp.Ordering.TheVariants.{Less, Equal, Greater}
use Rattle.std.specs.Ordering.{nat_cmp, is_lt, is_gt, is_eq, ordering_reverse}
use Rattle.std.specs.List.{AllByRecursion, list_any}
use Rattle.std.proofs.lemmas.Bool.Decides.{eqb_tells}
use Rattle.cpi_rows.specs.Keyed.{IsInOrder, row_by_number, with_row, row_at}
use Rattle.cpi_rows.specs.Held.{held_by, held_cmp, held_key}
use Rattle.cpi_rows.proofs.Places.{put_in_order}
use Rattle.cpi_rows.proofs.Puts.{map_put, row_at_put_apart, row_at_put_same}
use Rattle.cpi_codes.specs.declared.series.SeriesId.{SeriesId}
use Rattle.cpi_survey.specs.Assignment.{until}
use Rattle.cpi_survey.specs.declared.assignment.Assignment.{Assignment}
use Rattle.cpi_store.specs.declared.given.Given.{Given}
use Rattle.cpi_store.specs.declared.series_move.SeriesMove.{SeriesMove}
use Rattle.cpi_store.specs.declared.taken_over.TakenOver.{TakenOver}
use Rattle.cpi_store.specs.Holders.{IsGiven, assignment_until}
use Rattle.cpi_store.specs.Office.{end_given, given_over, hand_over, put_given}
use Rattle.cpi_store.specs.Series.{first_of_series, given_in, own_series, series_named_in, series_or}
use Rattle.cpi_rows.proofs.Lists.{all_filtered, all_joined}
use Rattle.cpi_store.proofs.GivenRows.{given_total}
use Rattle.cpi_store.proofs.GivenSlots.{any_map, any_put_own, free_slot, given_after, has_slot, is_of}
use Rattle.cpi_store.proofs.GivenSlots.{level_slots, slot_stays, taken_key}
use Rattle.cpi_store.proofs.HeldRows.{end_given_put}

abbrev slot_of : Assignment → ℕ
slot_of a = a.slot

-- an assignment that is put names its own series if its slot took none over
pub given_put : (taken : List TakenOver) (c : ℕ) (a : Assignment) (rows : List (ℕ × Assignment)) →
    row_at (held_cmp nat_cmp) taken_key (c, a.slot) taken ≡ None →
    map (given_in taken) (with_row (held_cmp nat_cmp) (held_key (λ a. a.slot)) (c, a) rows) ≡ put_given c
    (first_of_series c a) (map (given_in taken) rows)
given_put taken c a rows none =
    let own : series_named_in taken c a.slot ≡ own_series c a.slot = ap (series_or (own_series c a.slot)) none in
    map_put (held_cmp nat_cmp) (held_key (λ (g : Given). g.assignment.slot)) (given_in taken) (c, a) rows
    ∙ ap (λ (s : SeriesId). put_given c (record { assignment = a; series = s }) (map (given_in taken) rows)) own

-- a slot keeps its series when its assignment ends
pub given_ended : (taken : List TakenOver) (c slot last_month : ℕ) (rows : List (ℕ × Assignment)) →
    map (given_in taken) (map (assignment_until c slot last_month) rows) ≡ end_given c slot last_month
    (map (given_in taken) rows)
given_ended taken c slot last_month [] = refl
given_ended taken c slot last_month (r ∷ rows) =
    cases (r.0 == c && r.1.slot == slot) refl (given_ended taken c slot last_month rows)
  where
    cases : (b : Bool) → (r.0 == c && r.1.slot == slot) ≡ b →
        map (given_in taken) (map (assignment_until c slot last_month) rows) ≡ end_given c slot last_month
        (map (given_in taken) rows) →
        map (given_in taken) (map (assignment_until c slot last_month) (r ∷ rows)) ≡ end_given c slot last_month
        (map (given_in taken) (r ∷ rows))
    cases true e rest = rw e (ap (λ ys. (
      r.0,
      record
          { assignment = until last_month r.1; series = series_named_in taken r.0 r.1.slot },
    ) ∷ ys) rest)
    cases false e rest = rw e (ap (λ ys. given_in taken r ∷ ys) rest)

-- the rows are of the same slots when one of them ends
pub of_ended : (c slot last_month n s : ℕ) (rows : List (ℕ × Assignment)) →
    list_any (is_of n s) (map (assignment_until c slot last_month) rows) ≡ list_any (is_of n s) rows
of_ended c slot last_month n s rows = any_map (assignment_until c slot last_month) (is_of n s) (is_of n s) same rows
  where
    same : (r : ℕ × Assignment) → is_of n s (assignment_until c slot last_month r) ≡ is_of n s r
    same r = cases (r.0 == c && r.1.slot == slot) refl
      where
        cases : (b : Bool) → (r.0 == c && r.1.slot == slot) ≡ b →
            is_of n s (assignment_until c slot last_month r) ≡ is_of n s r
        cases true e = rw e refl
        cases false e = rw e refl

level_back : (a b : ℕ × ℕ) → is_eq (held_cmp nat_cmp a b) ≡ is_eq (held_cmp nat_cmp b a)
level_back a b = ap is_eq (given_total.antisymm a b) ∙ cases (held_cmp nat_cmp b a)
  where
    cases : (s : Ordering) → is_eq (ordering_reverse s) ≡ is_eq s
    cases Less = refl
    cases Equal = refl
    cases Greater = refl

module _ (h : SeriesMove) (taken : List TakenOver)
    (by_slot : IsInOrder (held_cmp nat_cmp) (λ t. (t.collector, t.slot)) taken) where
  abbrev n : ℕ
  n = h.taker.number

  abbrev new_slot : ℕ
  new_slot = h.assigned.assignment.slot

  abbrev over : TakenOver
  over = record { collector = n; slot = new_slot; series = h.ended.series }

  abbrev after : List TakenOver
  after = with_row (held_cmp nat_cmp) (λ t. (t.collector, t.slot)) over taken

  pub taken_in_order : IsInOrder (held_cmp nat_cmp) (λ t. (t.collector, t.slot)) after
  taken_in_order = put_in_order given_total (λ t. (t.collector, t.slot)) taken over by_slot

  new_series : series_named_in after n new_slot ≡ h.ended.series
  new_series = ap (series_or (own_series n new_slot)) (row_at_put_same given_total taken_key over taken)

  other_series : (row : ℕ × Assignment) → is_of n new_slot row ≡ false →
      series_named_in after row.0 row.1.slot ≡ series_named_in taken row.0 row.1.slot
  other_series row apart =
      ap (series_or (own_series row.0 row.1.slot))
      (row_at_put_apart given_total taken_key (row.0, row.1.slot) over taken by_slot
      (level_back (n, new_slot) (row.0, row.1.slot) ∙ level_slots row.0 row.1.slot n new_slot ∙ apart))

  -- the other slots have the series that they had
  others_given : (rows : List (ℕ × Assignment)) → list_any (is_of n new_slot) rows ≡ false →
      map (given_in after) rows ≡ map (given_in taken) rows
  others_given [] free = refl
  others_given (r ∷ rows) free =
      ap (λ (s : SeriesId). (r.0, record { assignment = r.1; series = s }) ∷ map (given_in after) rows)
      (other_series r (first_none (is_of n new_slot r) (list_any (is_of n new_slot) rows) free))
      ∙ ap (λ ys. given_in taken r ∷ ys) (others_given rows
      (rest_none (is_of n new_slot r) (list_any (is_of n new_slot) rows) free))
    where
      first_none : (a b : Bool) → (a || b) ≡ false → a ≡ false
      first_none true b e = e
      first_none false b e = refl

      rest_none : (a b : Bool) → (a || b) ≡ false → b ≡ false
      rest_none true b e = let no : true ≡ false = e in cc
      rest_none false b e = e

  module _ (rows : List (ℕ × Assignment)) (stands : IsSome
      (row_by_number (λ a. a.slot) h.ended.assignment.slot (held_by h.former.number rows)))
      (free : row_by_number (λ a. a.slot) h.assigned.assignment.slot (held_by h.taker.number rows) ≡ None) where
    abbrev put_rows : List (ℕ × Assignment)
    put_rows = with_row (held_cmp nat_cmp) (held_key (λ a. a.slot)) (n, h.assigned.assignment) rows

    abbrev passed_on : List (ℕ × Assignment)
    passed_on = map (assignment_until h.former.number h.ended.assignment.slot h.ended.assignment.last_month) put_rows

    -- the former slot isn't the new one
    apart : (n == h.former.number && new_slot == h.ended.assignment.slot) ≡ false
    apart = cases (eqb_tells n h.former.number) (eqb_tells new_slot h.ended.assignment.slot)
      where
        clash : n ≡ h.former.number → new_slot ≡ h.ended.assignment.slot → ⊥
        clash collector slot =
            let there : is_some (row_by_number slot_of new_slot (held_by n rows)) ≡ true = rw (collector, slot)
            stands in
            let no : false ≡ true = sym (ap is_some free) ∙ there in
            cc

        cases : ((eqb n h.former.number ≡ true) × (n ≡ h.former.number))
            ⊎ ((eqb n h.former.number ≡ false) × (n ≢ h.former.number)) →
            ((eqb new_slot h.ended.assignment.slot ≡ true) × (new_slot ≡ h.ended.assignment.slot))
            ⊎ ((eqb new_slot h.ended.assignment.slot ≡ false) × (new_slot ≢ h.ended.assignment.slot)) →
            (n == h.former.number && new_slot == h.ended.assignment.slot) ≡ false
        cases (inl a) (inl b) = absurd (clash a.1 b.1)
        cases (inl a) (inr b) = rw (a.0, b.0) refl
        cases (inr a) b = rw a.0 refl

    -- what was put and ended is handed over
    pub given_handed : map (given_in after) passed_on ≡ hand_over h (map (given_in taken) rows)
    given_handed =
        let c = h.former.number in
        let slot = h.ended.assignment.slot in
        let last_month = h.ended.assignment.last_month in
        let a = h.assigned.assignment in
        given_ended after c slot last_month put_rows
        ∙ ap (end_given c slot last_month) (map_put (held_cmp nat_cmp) (held_key (λ (g : Given). g.assignment.slot))
        (given_in after) (n, a) rows)
        ∙ ap (λ (s : SeriesId). end_given c slot last_month
        (put_given n (record { assignment = a; series = s }) (map (given_in after) rows))) new_series
        ∙ ap (λ gs. end_given c slot last_month (put_given n (given_over h) gs))
        (others_given rows (free_slot n new_slot rows free))
        ∙ end_given_put c slot last_month n (given_over h) (map (given_in taken) rows) apart

    -- each slot that took a series over has its assignment, the new one too
    pub taken_given : AllByRecursion (IsGiven rows) taken → AllByRecursion (IsGiven passed_on) after
    taken_given all =
        let keeps : AllByRecursion (IsGiven passed_on) taken =
        given_after rows passed_on (λ c slot is. of_ended h.former.number h.ended.assignment.slot
        h.ended.assignment.last_month c slot put_rows ∙ slot_stays c slot n h.assigned.assignment rows is) taken
        all in
        all_joined (IsGiven passed_on) (filter (λ t. is_lt (held_cmp nat_cmp (taken_key t) (n, new_slot))) taken)
        (over ∷ filter (λ t. is_gt (held_cmp nat_cmp (taken_key t) (n, new_slot))) taken)
        (all_filtered (IsGiven passed_on) (λ t. is_lt (held_cmp nat_cmp (taken_key t) (n, new_slot))) taken keeps)
        (own, all_filtered (IsGiven passed_on) (λ t. is_gt (held_cmp nat_cmp (taken_key t) (n, new_slot))) taken keeps)
      where
        same : (m : ℕ) → eqb m m ≡ true
        same m = cases (eqb_tells m m)
          where
            cases : ((eqb m m ≡ true) × (m ≡ m)) ⊎ ((eqb m m ≡ false) × (m ≢ m)) → eqb m m ≡ true
            cases (inl is) = is.0
            cases (inr not) = absurd (not.1 refl)

        own : IsGiven passed_on over
        own =
            has_slot n new_slot passed_on ∙ of_ended h.former.number h.ended.assignment.slot
            h.ended.assignment.last_month n new_slot put_rows
            ∙ any_put_own (held_cmp nat_cmp) (held_key slot_of) (is_of n new_slot) (n, h.assigned.assignment) rows
            (rw (same n, same new_slot) refl)
