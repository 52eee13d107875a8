-- What the row of an assignment shows of its slot.
use Rattle.std.proofs.Common.{◌≡◌, ℕ, pos, List, [], ◌∷◌, Some, refl, ap, ◌∙◌}
use Rattle.std.proofs.lemmas.Cmp.{nat_cmp_total}
use Rattle.std.specs.Cmp.{tied_itself}
use Rattle.std.specs.Ordering.{nat_cmp}
use Rattle.std.specs.declared.cmp.Ordering.{Ordering}
use Rattle.std.specs.declared.cmp.Ordering.TheVariants.{Equal}
use Rattle.sqlite.specs.declared.types.Value.{Value}
use Rattle.sqlite.specs.declared.types.Value.TheVariants.{Int}
use Rattle.sqlite.specs.Order.{Row, column}
use Rattle.cpi_rows.specs.Held.{held_cmp, held_key}
use Rattle.cpi_rows.proofs.Held.{held_total}
use Rattle.cpi_rows.proofs.Truth.{equal_of_order}
use Rattle.cpi_codes.specs.declared.limits.TheConstants.{GREATEST_SLOT, GREATEST_COLLECTOR, GREATEST_OUTLET}
use Rattle.cpi_survey.specs.declared.assignment.Assignment.{Assignment}
use Rattle.cpi_store.specs.declared.given.Given.{Given}
use Rattle.cpi_sql_rows.specs.Lists.{number_within, month_from, item_from, price_or_none, series_from, assignment_from}
use Rattle.cpi_sql_rows.specs.Lists.{assignment_in_row, shown_given}
use Rattle.cpi_sql_rows.proofs.KeyColumns.{IsUnique, Tells}
use Rattle.cpi_sql_rows.proofs.Lists.{bound_is, held_tied, ranged_is, some_is}
use Rattle.cpi_sql_rows.specs.Tables.{table_of_assignments_2}

-- the nine columns of an assignment, as an answer shows them
abbrev pub assignment_shape : Row → Row
assignment_shape r =
    column r 1 ∷ column r 2 ∷ column r 3 ∷ column r 4 ∷ column r 5 ∷ column r 6 ∷ column r 7 ∷ column r 8 ∷ column r 9
    ∷ []

-- the row's first two columns are the collector's number and the slot
pub record HasSlot (r : Row) (c : ℕ) (g : Given) : Type 0 where
  pub collector : column r 1 ≡ Int (pos c)
  pub slot : column r 2 ≡ Int (pos g.assignment.slot)
  pub shown : shown_given (assignment_shape r) ≡ Some (c, g)

-- an assignment's slot is the one that its columns say
pub slot_is : (slot outlet item first last copied : Value) (a : Assignment)
    → assignment_from slot outlet item first last copied ≡ Some a → slot ≡ Int (pos a.slot)
slot_is slot outlet item first last copied a e =
    let one = bound_is (number_within 1 GREATEST_SLOT slot) _ _ e in
    let two = bound_is (number_within 1 GREATEST_OUTLET outlet) _ _ one.2 in
    let three = bound_is (item_from item) _ _ two.2 in
    let four = bound_is (month_from first) _ _ three.2 in
    let five = bound_is (month_from last) _ _ four.2 in
    let six = bound_is (price_or_none copied) _ _ five.2 in
    ranged_is 1 GREATEST_SLOT slot a.slot (one.1 ∙ ap (λ (b : Assignment). Some b.slot) (some_is six.2))

pub slot_of : (r : Row) (c : ℕ) (g : Given) → shown_given (assignment_shape r) ≡ Some (c, g) → HasSlot r c g
slot_of r c g e =
    let one = bound_is (number_within 1 GREATEST_COLLECTOR (column r 1)) _ _ e in
    let two = bound_is (assignment_from (column r 2) (column r 3) (column r 4) (column r 5) (column r 6) (column r 9))
    _ _ one.2 in
    let three = bound_is (series_from (column r 7) (column r 8)) _ _ two.2 in
    let pair : ◌≡◌ {A = ℕ × Given} (one.0, record { assignment = two.0; series = three.0 }) (c, g) = some_is three.2 in
    record {
      collector = ranged_is 1 GREATEST_COLLECTOR (column r 1) c (one.1 ∙ ap (λ (p : ℕ × Given). Some p.0) pair);
      slot = slot_is (column r 2) (column r 3) (column r 4) (column r 5) (column r 6) (column r 9) two.0 two.1
          ∙ ap (λ (p : ℕ × Given). Int (pos p.1.assignment.slot)) pair;
      shown = e;
    }

pub slot_in : (r : Row) (c : ℕ) (g : Given) → assignment_in_row r ≡ Some (c, g) → HasSlot r c g
slot_in r c g e = slot_of r c g e

-- ---- the key of a slot

-- what a slot was given is known by its collector and the slot
abbrev pub slot_places : List ℕ
slot_places = 1 ∷ 2 ∷ []

pub slots_unique : IsUnique table_of_assignments_2 slot_places
slots_unique = record { at = 13; stands = refl; rule = λ db row. refl }

abbrev R : ℕ × ℕ → ℕ × ℕ → Ordering
R = held_cmp nat_cmp

abbrev key : ℕ × Given → ℕ × ℕ
key = held_key (λ (g : Given). g.assignment.slot)

abbrev pub slot_tells : Tells R key assignment_in_row slot_places
slot_tells = record {
  told = λ r x e.
      let a = slot_in r x.0 x.1 e in
      record {
        values = Int (pos x.0) ∷ Int (pos x.1.assignment.slot) ∷ [];
        are = rw (a.collector, a.slot) refl;
        exact = refl;
      };
  tied = λ r s x y e f tie.
      let same = held_tied nat_cmp (key x) (key y) tie in
      let slot = equal_of_order x.1.assignment.slot y.1.assignment.slot same.1 in
      λ i. Int (pos (same.0 i)) ∷ Int (pos (slot i)) ∷ [];
}

-- and rows with the same columns are of one slot
pub same_slot : (r s : Row) (x y : ℕ × Given) (e : assignment_in_row r ≡ Some x) (f : assignment_in_row s ≡ Some y)
    → (slot_tells.told r x e).values ≡ (slot_tells.told s y f).values → R (key x) (key y) ≡ Equal
same_slot r s x y e f same =
    let mine : x.0 ≡ y.0 = cc in
    let slot : x.1.assignment.slot ≡ y.1.assignment.slot = cc in
    rw (mine, slot) (tied_itself (held_total nat_cmp_total) (key y))
