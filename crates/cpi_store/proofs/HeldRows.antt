-- A collector's slot among the rows of all, and its row after it gets another last month.
use Rattle.std.proofs.Common.{◌≡◌, ◌≢◌, ℕ, Bool, true, false, eqb, List, [], ◌∷◌, ◌++◌, map, Some, refl, sym, ap, ◌∙◌}
use Rattle.std.proofs.Common.{inl, inr}
use Rattle.std.specs.Prelude.{◌&&◌, ◌==◌, ◌⊎◌, filter, if◌then◌else◌, option_map}
use Rattle.std.specs.declared.cmp.Ordering.{Ordering}
use Rattle.std.specs.declared.cmp.Ordering.TheVariants.{Less, Equal, Greater}
use Rattle.std.specs.Ordering.{nat_cmp, is_lt, is_gt, is_eq}
use Rattle.std.specs.Cmp.{unsigned_tied}
use Rattle.std.proofs.lemmas.Bool.Decides.{eqb_tells}
use Rattle.std.proofs.lemmas.List.{map-append}
use Rattle.cpi_rows.specs.Keyed.{IsInOrder, row_by_number, with_row, row_at}
use Rattle.cpi_rows.specs.Held.{held_by, held_cmp, held_key}
use Rattle.cpi_rows.proofs.Found.{at_key}
use Rattle.cpi_rows.proofs.Puts.{map_put, put_standing}
use Rattle.cpi_store.proofs.GivenRows.{given_total}
use Rattle.cpi_store.specs.declared.given.Given.{Given}
use Rattle.cpi_store.specs.Office.{end_given, given_until, put_given, row_until}
use Rattle.cpi_store.proofs.GivenSlots.{level_slots}

abbrev slot_of : Given → ℕ
slot_of g = g.assignment.slot

-- the row of a slot among those of all is that of the slot among its collector's
pub row_at_held : {X : Type 0} (key : X → ℕ) (c slot : ℕ) (rows : List (ℕ × X)) →
    row_at (held_cmp nat_cmp) (held_key key) (c, slot) rows ≡ option_map (λ x. (c, x))
    (row_by_number key slot (held_by c rows))
row_at_held key c slot [] = refl
row_at_held {X = X} key c slot (r ∷ rows) = rw (level_slots r.0 (key r.1) c slot)
    (cases (eqb_tells r.0 c) (row_at_held key c slot rows))
  where
    Found : List (ℕ × X) → Type 0
    Found rs = row_at (held_cmp nat_cmp) (held_key key) (c, slot) rs ≡ option_map (λ x. (c, x))
        (row_by_number key slot (held_by c rs))

    here : r.0 ≡ c → (b : Bool) → is_eq (nat_cmp (key r.1) slot) ≡ b → Found rows →
        (if b then Some r else row_at (held_cmp nat_cmp) (held_key key) (c, slot) rows) ≡ option_map (λ x. (c, x))
        (row_by_number key slot (r.1 ∷ held_by c rows))
    here same true e rest = rw e (ap (λ n. Some (n, r.1)) same)
    here same false e rest = rw e rest

    cases : ((eqb r.0 c ≡ true) × (r.0 ≡ c)) ⊎ ((eqb r.0 c ≡ false) × (r.0 ≢ c)) → Found rows →
        (if r.0 == c && key r.1 == slot then Some r else row_at (held_cmp nat_cmp) (held_key key) (c, slot) rows) ≡
        option_map (λ x. (c, x)) (row_by_number key slot (held_by c (r ∷ rows)))
    cases (inl same) rest = rw same.0 (here same.1 (eqb (key r.1) slot) (unsigned_tied (key r.1) slot) rest)
    cases (inr apart) rest = rw apart.0 rest

module _ (c slot last_month : ℕ) where
  abbrev ending : ℕ × Given → ℕ × Given
  ending row = row_until c slot last_month row

  -- a row keeps its collector and slot
  key_stays : (row : ℕ × Given) → held_key slot_of (ending row) ≡ held_key slot_of row
  key_stays row = cases (row.0 == c && row.1.assignment.slot == slot) refl
    where
      cases : (b : Bool) → (row.0 == c && row.1.assignment.slot == slot) ≡ b →
          held_key slot_of (ending row) ≡ held_key slot_of row
      cases true e = rw e refl
      cases false e = rw e refl

  -- what is put before the slot's row ends, is put after it
  pub end_given_put : (n : ℕ) (g : Given) (rows : List (ℕ × Given)) → (n == c && g.assignment.slot == slot) ≡ false →
      end_given c slot last_month (put_given n g rows) ≡ put_given n g (end_given c slot last_month rows)
  end_given_put n g rows apart =
      let keys : (λ (row : ℕ × Given). held_key slot_of (ending row)) ≡ held_key slot_of = λ i row. key_stays row i in
      let stays : ending (n, g) ≡ (n, g) = rw apart refl in
      ap (λ key. map ending (with_row (held_cmp nat_cmp) key (n, g) rows)) (sym keys)
      ∙ map_put (held_cmp nat_cmp) (held_key slot_of) ending (n, g) rows
      ∙ ap (λ row. with_row (held_cmp nat_cmp) (held_key slot_of) row (map ending rows)) stays

  -- among rows of which the test passes none of the slot's, none changes
  none_ends : (p : ℕ × Given → Bool) → ((row : ℕ × Given) → p row ≡ true →
      (row.0 == c && row.1.assignment.slot == slot) ≡ false) → (rows : List (ℕ × Given)) →
      map ending (filter p rows) ≡ filter p rows
  none_ends p apart [] = refl
  none_ends p apart (r ∷ rows) = cases (p r) refl (none_ends p apart rows)
    where
      cases : (b : Bool) → p r ≡ b → map ending (filter p rows) ≡ filter p rows →
          map ending (filter p (r ∷ rows)) ≡ filter p (r ∷ rows)
      cases true e rest = rw (e, apart r e) (ap (λ ys. r ∷ ys) rest)
      cases false e rest = rw e rest

  -- If the slot is among rows in order, its row with the other last month is put in its place.
  pub end_given_is_put : (g : Given) (rows : List (ℕ × Given)) →
      IsInOrder (held_cmp nat_cmp) (held_key slot_of) rows →
      row_by_number (λ g. g.assignment.slot) slot (held_by c rows) ≡ Some g →
      end_given c slot last_month rows ≡ put_given c (given_until last_month g) rows
  end_given_is_put g rows sorted found =
      let slot_is : g.assignment.slot ≡ slot = at_key slot_of slot g (held_by c rows) found in
      let there : row_at (held_cmp nat_cmp) (held_key slot_of) (c, slot) rows ≡ Some (c, g) =
      row_at_held slot_of c slot rows ∙ ap (option_map (λ x. (c, x))) found in
      let stands : put_given c g rows ≡ rows = put_standing given_total (held_key slot_of) (c, g) rows sorted
      (ap (λ s. row_at (held_cmp nat_cmp) (held_key slot_of) (c, s) rows) slot_is ∙ there) in
      let below : ℕ × Given → Bool = λ r. is_lt (held_cmp nat_cmp (held_key slot_of r) (c, g.assignment.slot)) in
      let above : ℕ × Given → Bool = λ r. is_gt (held_cmp nat_cmp (held_key slot_of r) (c, g.assignment.slot)) in
      let own : ending (c, g) ≡ (c, given_until last_month g) = ends g slot_is in
      ap (map ending) (sym stands)
      ∙ map-append ending (filter below rows) ((c, g) ∷ filter above rows)
      ∙ ap (λ ys. ys ++ ending (c, g) ∷ map ending (filter above rows))
      (none_ends below (λ row e. apart is_lt refl row slot_is e) rows)
      ∙ ap (λ ys. filter below rows ++ ending (c, g) ∷ ys)
      (none_ends above (λ row e. apart is_gt refl row slot_is e) rows)
      ∙ ap (λ y. filter below rows ++ y ∷ filter above rows) own
    where
      same : (n : ℕ) → eqb n n ≡ true
      same n = cases (eqb_tells n n)
        where
          cases : ((eqb n n ≡ true) × (n ≡ n)) ⊎ ((eqb n n ≡ false) × (n ≢ n)) → eqb n n ≡ true
          cases (inl is) = is.0
          cases (inr not) = absurd (not.1 refl)

      ends : (g : Given) → g.assignment.slot ≡ slot → ending (c, g) ≡ (c, given_until last_month g)
      ends g is = rw (same c, is, same slot) refl

      apart : (test : Ordering → Bool) → test Equal ≡ false → (row : ℕ × Given) → g.assignment.slot ≡ slot →
          test (held_cmp nat_cmp (held_key slot_of row) (c, g.assignment.slot)) ≡ true →
          (row.0 == c && row.1.assignment.slot == slot) ≡ false
      apart test out row is passes = cases (held_cmp nat_cmp (held_key slot_of row) (c, slot)) refl
          (rw is at passes)
        where
          cases : (s : Ordering) → held_cmp nat_cmp (held_key slot_of row) (c, slot) ≡ s →
              test (held_cmp nat_cmp (held_key slot_of row) (c, slot)) ≡ true →
              (row.0 == c && row.1.assignment.slot == slot) ≡ false
          cases Less e h = sym (level_slots row.0 row.1.assignment.slot c slot) ∙ ap is_eq e
          cases Equal e h = let no : false ≡ true = sym out ∙ ap test (sym e) ∙ h in cc
          cases Greater e h = sym (level_slots row.0 row.1.assignment.slot c slot) ∙ ap is_eq e
