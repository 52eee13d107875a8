-- Assignments in the order of slots, one of which ends sooner.
use Rattle.std.proofs.Common.{◌≡◌, ◌≢◌, ℕ, zero, suc, ◌<◌, List, [], ◌∷◌, length, get_or, set, Ok, Err, refl, sym, ap}
use Rattle.std.proofs.Common.{◌∙◌, arith, inl, inr}
use Rattle.std.specs.Ordering.{nat_cmp}
use Rattle.std.specs.declared.cmp.Ordering.TheVariants.{Less, Equal, Greater}
use Rattle.std.proofs.lemmas.Bool.{eq-eqb, ne_eqb, cases_lt}
use Rattle.std.proofs.lemmas.Cmp.{nat_cmp_total, ranked}
use Rattle.std.proofs.lemmas.Map.Keys.{Less-from_sorted}
use Rattle.cpi_rows.specs.Keyed.{IsInOrder, IsPlace}
use Rattle.cpi_rows.proofs.Places.{put_at_row, put_in_order}
use Rattle.cpi_survey.specs.declared.assignment.Assigned.{Assigned}
use Rattle.cpi_survey.specs.Assignment.{with_last_month, ended_one, until}

abbrev pub slot_of : Assigned → ℕ
slot_of a = a.assignment.slot

-- the assignment with its outlet's name, with this last month
abbrev pub assigned_until : ℕ → Assigned → Assigned
assigned_until last_month a = record a { assignment = until last_month a.assignment }

module _ (slot last_month : ℕ) where
  ends : (a : Assigned) → slot_of a ≡ slot → assigned_until last_month a ≡ ended_one slot last_month a
  ends a same = rw (eq-eqb (slot_of a) slot same) refl

  stays : (a : Assigned) → slot_of a ≢ slot → a ≡ ended_one slot last_month a
  stays a other = rw (ne_eqb (slot_of a) slot other) refl

  -- if no assignment is of the slot, none ends
  none_ends : (rows : List Assigned) → ((j : ℕ) (d : Assigned) → j < length rows → slot_of (get_or rows j d) ≢ slot) →
      rows ≡ with_last_month slot last_month rows
  none_ends [] others = refl
  none_ends (a ∷ rows) others =
      let first = stays a (others 0 a (omega arith)) in
      let rest = none_ends rows (λ j d lt. others (suc j) d (omega arith)) in
      cc

  -- if only one is of the slot, that one ends
  one_ends : (rows : List Assigned) (i : ℕ) (a : Assigned) → i < length rows → a ≡ get_or rows i a → slot_of a ≡ slot →
      ((j : ℕ) (d : Assigned) → j ≢ i → j < length rows → slot_of (get_or rows j d) ≢ slot) →
      set rows i (assigned_until last_month a) ≡ with_last_month slot last_month rows
  one_ends [] i a in_range is same others = absurd (omega arith)
  one_ends (b ∷ rows) zero a in_range is same others =
      let first = ends a same in
      let rest = none_ends rows (λ j d lt. others (suc j) d (omega arith) (omega arith)) in
      cc
  one_ends (b ∷ rows) (suc i) a in_range is same others =
      let first = stays b (others 0 b (omega arith) (omega arith)) in
      let rest = one_ends rows i a (omega arith) is same
      (λ j d other lt. others (suc j) d (omega arith) (omega arith)) in
      cc

-- numbers that compare as unequal differ
below_differs : (m n : ℕ) → nat_cmp m n ≡ Less → m ≢ n
below_differs m n less = λ same. omega (arith, ranked m n Less (sym less), same)

above_differs : (m n : ℕ) → nat_cmp m n ≡ Greater → m ≢ n
above_differs m n greater = λ same. omega (arith, ranked m n Greater (sym greater), same)

-- no slot is at two places
pub slots_differ : (rows : List Assigned) → IsInOrder nat_cmp slot_of rows → (i j : ℕ) (d : Assigned) →
    i < length rows → j < length rows → j ≢ i → slot_of (get_or rows j d) ≢ slot_of (get_or rows i d)
slots_differ rows sorted i j d i_in j_in other = elim (cases_lt i j) [
  | inl lt ↦ λ same. below_differs _ _ (Less-from_sorted (λ a b. nat_cmp (slot_of a) (slot_of b)) rows i j d sorted lt
      j_in) (sym same)
  | inr ge ↦ below_differs _ _ (Less-from_sorted (λ a b. nat_cmp (slot_of a) (slot_of b)) rows j i d sorted
      (omega arith) i_in)
]

-- to give the assignment at the place of the slot another last month ends that of the slot
pub ended_at_row : (rows : List Assigned) → IsInOrder nat_cmp slot_of rows → (slot last_month i : ℕ) (a : Assigned) →
    IsPlace nat_cmp slot_of slot rows (Ok i) → a ≡ get_or rows i a →
    set rows i (assigned_until last_month a) ≡ with_last_month slot last_month rows
ended_at_row rows sorted slot last_month i a place is =
    let at_place : (d : Assigned) → slot_of (get_or rows i d) ≡ slot =
    λ d. ranked (slot_of (get_or rows i d)) slot Equal (sym (place.1 d)) in
    one_ends slot last_month rows i a place.0 is (ap slot_of is ∙ at_place a)
    (λ j d other lt same. slots_differ rows sorted i j d place.0 lt other (same ∙ sym (at_place d)))

-- if the slot has no place, nothing ends
pub ended_at_gap : (rows : List Assigned) (slot last_month i : ℕ) → IsPlace nat_cmp slot_of slot rows (Err i) →
    rows ≡ with_last_month slot last_month rows
ended_at_gap rows slot last_month i place = none_ends slot last_month rows (λ j d lt. elim (cases_lt j i) [
  | inl below ↦ below_differs _ _ (place.1 j d below)
  | inr above ↦ above_differs _ _ (place.2 j d above lt)
])

-- the assignments stay in order
pub ended_in_order : (rows : List Assigned) → IsInOrder nat_cmp slot_of rows →
    (slot last_month i : ℕ) (a : Assigned) → IsPlace nat_cmp slot_of slot rows (Ok i) → a ≡ get_or rows i a →
    IsInOrder nat_cmp slot_of (set rows i (assigned_until last_month a))
ended_in_order rows sorted slot last_month i a place is =
    let same : slot_of a ≡ slot = ap slot_of is ∙ ranked (slot_of (get_or rows i a)) slot Equal (sym (place.1 a)) in
    let at_place : IsPlace nat_cmp slot_of (slot_of a) rows (Ok i) = rw same place in
    rw (put_at_row nat_cmp_total slot_of rows sorted (assigned_until last_month a) i at_place)
    (put_in_order nat_cmp_total slot_of rows _ sorted)
