-- A series that is handed over: the former row ends and the new one is put, as a change of the office.
use Rattle.std.proofs.Common.{◌≡◌, ◌≢◌, ◌⊎◌, inl, inr, ℕ, true, false, eqb, List, [], ◌∷◌, Some, None}
use Rattle.std.proofs.Common.{Option, refl, sym, ap, subst, ◌∙◌}
use Rattle.std.specs.Prelude.{option_map}
use Rattle.std.specs.Ordering.{nat_cmp}
use Rattle.std.specs.declared.cmp.Ordering.TheVariants.{Equal}
use Rattle.std.specs.Cmp.{tied_itself}
use Rattle.std.proofs.lemmas.Bool.Decides.{eqb_tells}
use Rattle.std.proofs.lemmas.Cmp.{nat_cmp_total, ranked}
use Rattle.sqlite_rules.specs.Lists.{Has}
use Rattle.sqlite_rules.proofs.ProbeLemmas.{has_mapped, mapped_has}
use Rattle.sqlite.specs.State.{State}
use Rattle.cpi_rows.specs.Keyed.{row_by_number}
use Rattle.cpi_rows.specs.Held.{held_by, held_cmp, held_key}
use Rattle.cpi_rows.proofs.Found.{at_key}
use Rattle.cpi_rows.proofs.Places.{put_in_order}
use Rattle.cpi_store.specs.declared.given.Given.{Given}
use Rattle.cpi_store.specs.declared.series_move.SeriesMove.{SeriesMove}
use Rattle.cpi_store.specs.Office.{HandsOver, put_given, given_until, row_until, end_given, given_over}
use Rattle.cpi_store.specs.Office.{hand_over}
use Rattle.cpi_store.proofs.GivenRows.{AreInOrder, end_in_order}
use Rattle.cpi_sql_rows.specs.Lists.{office_in, assignments_in, assignment_in_row, releases_in}
use Rattle.cpi_sql_writes.specs.GivenColumns.{AddsGiven, CanHandOver, IsNumberFree, ReplacesGiven}
use Rattle.cpi_sql_writes.specs.Rest.{IsOfSlot, KeepsAll, KeepsBut, MakesOnly}
use Rattle.cpi_sql_rows.specs.Shelf.{HasTables, IsKeyed, Takes}
use Rattle.cpi_sql_rows.specs.Steps.{IsRowStep, SameBut, outside}
use Rattle.cpi_sql_rows.proofs.Found.{in_order_same}
use Rattle.cpi_sql_rows.proofs.Listed.{same_in_order, listed_in_order, has_put, put_has, put_keeps}
use Rattle.cpi_rows.proofs.Truth.{then_first, then_second}
use Rattle.cpi_sql_rows.proofs.Lists.{held_has, held_total}
use Rattle.cpi_sql_writes.proofs.AddPremises.{slot_apart}
use Rattle.cpi_sql_rows.proofs.Frame.{Assignments}
use Rattle.cpi_sql_rows.proofs.Members.{has_row}
use Rattle.cpi_sql_writes.proofs.Beside.{tables_written}

abbrev slot_of : Given → ℕ
slot_of g = g.assignment.slot

abbrev key : ℕ × Given → ℕ × ℕ
key = held_key slot_of

-- ---- the row that ends is put in place of the former one

-- a row of the slot ends, and every other row stays
row_ends_or_stays : (n slot last : ℕ) (r : ℕ × Given)
    → ((r.0 ≡ n) × (slot_of r.1 ≡ slot) × (row_until n slot last r ≡ (r.0, given_until last r.1)))
    ⊎ (((r.0 ≡ n) × (slot_of r.1 ≡ slot) → ⊥) × (row_until n slot last r ≡ r))
row_ends_or_stays n slot last r = cases (eqb_tells r.0 n) (eqb_tells (slot_of r.1) slot)
  where
    cases : ((eqb r.0 n ≡ true) × (r.0 ≡ n)) ⊎ ((eqb r.0 n ≡ false) × (r.0 ≢ n))
        → ((eqb (slot_of r.1) slot ≡ true) × (slot_of r.1 ≡ slot))
        ⊎ ((eqb (slot_of r.1) slot ≡ false) × (slot_of r.1 ≢ slot))
        → ((r.0 ≡ n) × (slot_of r.1 ≡ slot) × (row_until n slot last r ≡ (r.0, given_until last r.1)))
        ⊎ (((r.0 ≡ n) × (slot_of r.1 ≡ slot) → ⊥) × (row_until n slot last r ≡ r))
    cases (inl a) (inl b) = inl (a.1, b.1, rw (a.0, b.0) refl)
    cases (inl a) (inr b) = inr (λ both. b.1 both.1, rw (a.0, b.0) refl)
    cases (inr a) b = inr (λ both. a.1 both.0, rw a.0 refl)

record IsThere (n slot last : ℕ) (g : Given) (rows : List (ℕ × Given)) : Type 0 where
  pub found : Given
  pub has : Has rows (n, found)
  pub slot_is : slot_of found ≡ slot
  pub ends : given_until last found ≡ g

there : (n slot last : ℕ) (g : Given) (rows : List (ℕ × Given))
    → option_map (given_until last) (row_by_number slot_of slot (held_by n rows)) ≡ Some g → IsThere n slot last g rows
there n slot last g rows e = cases (row_by_number slot_of slot (held_by n rows)) refl e
  where
    cases : (o : Option Given) → row_by_number slot_of slot (held_by n rows) ≡ o →
        option_map (given_until last) o ≡ Some g
        → IsThere n slot last g rows
    cases None f e = absurd (let no : ◌≡◌ {A = Option Given} None (Some g) = e in cc)
    cases (Some x) f e = record {
      found = x;
      has = held_has nat_cmp_total slot_of n x rows (has_row nat_cmp slot_of slot (held_by n rows) x f);
      slot_is = at_key slot_of slot x (held_by n rows) f;
      ends = let is : ◌≡◌ {A = Option Given} (Some (given_until last x)) (Some g) = e in cc;
    }

module _ (n : ℕ) (g : Given) (rows : List (ℕ × Given)) (sorted : AreInOrder rows)
    (stands : option_map (given_until g.assignment.last_month) (row_by_number slot_of (slot_of g) (held_by n rows))
    ≡ Some g) where
  abbrev last : ℕ
  last = g.assignment.last_month

  it : IsThere n (slot_of g) last g rows
  it = there n (slot_of g) last g rows stands

  -- the one row of the slot
  one : (r : ℕ × Given) → Has rows r → r.0 ≡ n → slot_of r.1 ≡ slot_of g → r ≡ (n, it.found)
  one r h mine slot = in_order_same (held_total nat_cmp_total) key rows r (n, it.found) sorted h it.has
      (rw (mine, slot, it.slot_is) (tied_itself (held_total nat_cmp_total) (n, slot_of g)))

  apart : (r : ℕ × Given) → ((r.0 ≡ n) × (slot_of r.1 ≡ slot_of g) → ⊥) →
      held_cmp nat_cmp (key r) (n, slot_of g) ≢ Equal
  apart r differ tie = differ (
    ranked r.0 n Equal (sym (then_first _ _ tie)),
    ranked (slot_of r.1) (slot_of g) Equal (sym (then_second _ _ tie)),
  )

  ended_has : (x : ℕ × Given) → Has (end_given n (slot_of g) last rows) x → Has (put_given n g rows) x
  ended_has x h =
      let y = has_mapped (row_until n (slot_of g) last) rows x h in
      elim (row_ends_or_stays n (slot_of g) last y.0) [
        | inl ends ↦
            let is : x ≡ (n, g) = y.2 ∙ ends.2
            ∙ ap (λ (r : ℕ × Given). (r.0, given_until last r.1)) (one y.0 y.1 ends.0 ends.1)
            ∙ ap (λ z. (n, z)) it.ends in
            subst (Has (put_given n g rows)) (sym is) (has_put (held_total nat_cmp_total) key (n, g) rows)
        | inr stays ↦
            subst (Has (put_given n g rows)) (sym (y.2 ∙ stays.1))
            (put_keeps (held_total nat_cmp_total) key (n, g) rows y.0 y.1 (apart y.0 stays.0))
      ]

  has_ended : (x : ℕ × Given) → Has (put_given n g rows) x → Has (end_given n (slot_of g) last rows) x
  has_ended x h = elim (put_has (held_total nat_cmp_total) key (n, g) rows x h) [
    | inl is ↦
        let made = mapped_has (row_until n (slot_of g) last) rows (n, it.found) it.has in
        elim (row_ends_or_stays n (slot_of g) last (n, it.found)) [
          | inl ends ↦ subst (Has (end_given n (slot_of g) last rows)) (ends.2 ∙ ap (λ z. (n, z)) it.ends ∙ sym is) made
          | inr stays ↦ absurd (stays.0 (refl, it.slot_is))
        ]
    | inr was ↦
        let made = mapped_has (row_until n (slot_of g) last) rows x was.0 in
        elim (row_ends_or_stays n (slot_of g) last x) [
          | inl ends ↦ absurd (was.1 (rw (ends.0, ends.1) (tied_itself (held_total nat_cmp_total) (n, slot_of g))))
          | inr stays ↦ subst (Has (end_given n (slot_of g) last rows)) stays.1 made
        ]
  ]

  pub ended_put : end_given n (slot_of g) last rows ≡ put_given n g rows
  ended_put = same_in_order (held_total nat_cmp_total) key (end_given n (slot_of g) last rows) (put_given n g rows)
      (end_in_order n (slot_of g) last rows sorted) (put_in_order (held_total nat_cmp_total) key rows (n, g) sorted)
      ended_has has_ended

-- ---- the new slot stays free

none_of : (n slot : ℕ) (rows : List (ℕ × Given)) → ((g : Given) → Has rows (n, g) → slot_of g ≡ slot → ⊥)
    → IsNumberFree n slot rows
none_of n slot rows none = cases (row_by_number slot_of slot (held_by n rows)) refl
  where
    cases : (o : Option Given) → row_by_number slot_of slot (held_by n rows) ≡ o → IsNumberFree n slot rows
    cases None e = e
    cases (Some g) e = absurd (none g
        (held_has nat_cmp_total slot_of n g rows (has_row nat_cmp slot_of slot (held_by n rows) g e))
        (at_key slot_of slot g (held_by n rows) e))

module _ (h : SeriesMove) (rows : List (ℕ × Given)) (can : CanHandOver h rows) where
  -- no row has the new slot
  missing : (n slot : ℕ) (g : Given) → Has rows (n, g) → n ≡ h.taker.number → slot_of g ≡ slot
      → slot ≡ h.assigned.assignment.slot → ⊥
  missing n slot g has mine is level =
      slot_apart h.taker.number h.assigned.assignment.slot rows can.free (n, g) has
      (rw (mine, is, level) (tied_itself (held_total nat_cmp_total) (h.taker.number, h.assigned.assignment.slot)))

  pub free_after : IsNumberFree h.taker.number h.assigned.assignment.slot (put_given h.former.number h.ended rows)
  free_after = none_of h.taker.number h.assigned.assignment.slot (put_given h.former.number h.ended rows)
      (λ g has is. elim (put_has (held_total nat_cmp_total) key (h.former.number, h.ended) rows (h.taker.number, g)
      has) [
        | inl same ↦
            let was = there h.former.number (slot_of h.ended) h.ended.assignment.last_month h.ended rows can.stands in
            let mine : h.former.number ≡ h.taker.number = sym (ap (λ (r : ℕ × Given). r.0) same) in
            let slot : slot_of h.ended ≡ h.assigned.assignment.slot = sym (ap (λ (r : ℕ × Given). slot_of r.1) same)
            ∙ is in
            absurd (missing h.former.number (slot_of h.ended) was.found was.has mine was.slot_is slot)
        | inr was ↦ absurd (missing h.taker.number (slot_of g) g was.0 refl refl is)
      ])

-- ---- the two rows

module _ (h : SeriesMove) (a b c : State) (has : HasTables (outside a))
    (can : CanHandOver h (office_in a.now.trees).assignments)
    (one : IsRowStep 22 (ReplacesGiven h.former.number h.ended) a b)
    (two : IsRowStep 22 (AddsGiven h.taker.number (given_over h)) b c) where
  first : (assignments_in (b.now.trees 22) ≡ put_given h.former.number h.ended (assignments_in (a.now.trees 22)))
      × IsKeyed (held_cmp nat_cmp) key assignment_in_row (b.now.trees 22)
      × Takes assignment_in_row (a.now.trees 22) (b.now.trees 22)
  first = one.rows.0 has.assignments

  second : (assignments_in (c.now.trees 22) ≡ put_given h.taker.number (given_over h) (assignments_in (b.now.trees 22)))
      × IsKeyed (held_cmp nat_cmp) key assignment_in_row (c.now.trees 22)
      × Takes assignment_in_row (b.now.trees 22) (c.now.trees 22)
  second = two.rows.0 first.1

  rows_now : assignments_in (c.now.trees 22) ≡ hand_over h (assignments_in (a.now.trees 22))
  rows_now = second.0 ∙ ap (put_given h.taker.number (given_over h)) (first.0
      ∙ sym (ended_put h.former.number h.ended (assignments_in (a.now.trees 22))
      (listed_in_order (held_total nat_cmp_total) key assignment_in_row (a.now.trees 22)) can.stands))

  both : Takes assignment_in_row (a.now.trees 22) (c.now.trees 22)
  unfolding Takes
  both r h = elim (second.2 r h) [ inl was ↦ first.2 r was | inr stands ↦ inr stands ]

  rest : KeepsBut (IsOfSlot h.former.number h.ended.assignment.slot) (a.now.trees 22) (c.now.trees 22)
  unfolding KeepsAll KeepsBut
  rest r there = elim (one.rows.1 r there) [ inl stays ↦ inl (two.rows.1 r stays) | inr ended ↦ inr ended ]

  others : SameBut (22 ∷ []) a.now.trees c.now.trees
  others n e = two.others n e ∙ one.others n e

  pub handed_over : MakesOnly (HandsOver h) (outside a) (outside c)
  unfolding releases_in
  handed_over = tables_written (HandsOver h) (outside a) (outside c) has two.schema refl
      (two.all (one.all has.office.tables)) (Assignments ∷ []) refl others
      (record { rows = record { keyed = λ _. second.1; takes = both }; rowids = λ _. two.rowids }, tt)
      (ap (λ rows. record (office_in a.now.trees) { assignments = rows }) rows_now) rest
