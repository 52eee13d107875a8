-- What a collector's slots were given, among the assignments of all and with their series.
use Rattle.std.proofs.Common.{◌≡◌, ◌≢◌, ℕ, true, false, eqb, List, [], ◌∷◌, map, Some, None, Option, refl, sym, ap, ◌∙◌}
use Rattle.std.proofs.Common.{inl, inr}
use Rattle.std.specs.Prelude.{◌⊎◌, IsSome, option_map}
use Rattle.std.proofs.lemmas.Bool.{false≢true}
use Rattle.std.proofs.lemmas.Bool.Decides.{eqb_tells}
use Rattle.cpi_rows.specs.Keyed.{row_by_number}
use Rattle.cpi_rows.specs.Held.{held_by}
use Rattle.cpi_rows.proofs.Found.{at_map, at_key}
use Rattle.cpi_survey.specs.declared.assignment.Assignment.{Assignment}
use Rattle.cpi_survey.specs.declared.assignment.Assigned.{Assigned}
use Rattle.cpi_store.specs.Outlet.{with_name}
use Rattle.cpi_store.specs.declared.given.Given.{Given}
use Rattle.cpi_store.specs.declared.outlet.Outlet.{Outlet}
use Rattle.cpi_store.specs.declared.taken_over.TakenOver.{TakenOver}
use Rattle.cpi_store.specs.Series.{given_in, series_named_in}

abbrev slot_of : Given → ℕ
slot_of g = g.assignment.slot

abbrev own_slot : Assignment → ℕ
own_slot a = a.slot

-- if no assignment of a slot is found, nothing was given to it
pub nothing_found : (us : List Outlet) (slot : ℕ) (gs : List Given) →
    None ≡ row_by_number (λ a. a.assignment.slot) slot (map (with_name us) (map (λ g. g.assignment) gs)) →
    None ≡ row_by_number (λ g. g.assignment.slot) slot gs
nothing_found us slot gs is =
    cases (row_by_number slot_of slot gs) (is ∙ at_map (with_name us) (λ (a : Assigned). a.assignment.slot) slot
    (map (λ g. g.assignment) gs) ∙ ap (option_map (with_name us))
    (at_map (λ (g : Given). g.assignment) own_slot slot gs))
  where
    cases : (w : Option Given) → None ≡ option_map (with_name us) (option_map (λ g. g.assignment) w) → None ≡ w
    cases None e = refl
    cases (Some g) e = let no : None ≡ Some (with_name us g.assignment) = e in cc

module _ (taken : List TakenOver) (c : ℕ) where
  abbrev named : Assignment → Given
  named a = record { assignment = a; series = series_named_in taken c a.slot }

  -- a collector's rows among all, each with its series, are the collector's
  held_given : (rows : List (ℕ × Assignment)) → held_by c (map (given_in taken) rows) ≡ map named (held_by c rows)
  held_given [] = refl
  held_given (r ∷ rows) = cases (eqb_tells r.0 c) (held_given rows)
    where
      cases : ((eqb r.0 c ≡ true) × (r.0 ≡ c)) ⊎ ((eqb r.0 c ≡ false) × (r.0 ≢ c)) →
          held_by c (map (given_in taken) rows) ≡ map named (held_by c rows) →
          held_by c (map (given_in taken) (r ∷ rows)) ≡ map named (held_by c (r ∷ rows))
      cases (inl same) rest = rw (same.0, same.1) (ap (λ ys. named r.1 ∷ ys) rest)
      cases (inr apart) rest = rw apart.0 rest

  bare : (xs : List Assignment) → map (λ g. g.assignment) (map named xs) ≡ xs
  bare [] = refl
  bare (a ∷ xs) = ap (λ ys. a ∷ ys) (bare xs)

  pub assignments_held : (rows : List (ℕ × Assignment)) →
      map (λ g. g.assignment) (held_by c (map (given_in taken) rows)) ≡ held_by c rows
  assignments_held rows = ap (map (λ (g : Given). g.assignment)) (held_given rows) ∙ bare (held_by c rows)

  -- what a slot was given is its assignment, with its series
  pub at_given : (slot : ℕ) (rows : List (ℕ × Assignment)) →
      row_by_number (λ g. g.assignment.slot) slot (held_by c (map (given_in taken) rows)) ≡ option_map
      (λ a. record { assignment = a; series = series_named_in taken c slot })
      (row_by_number (λ a. a.slot) slot (held_by c rows))
  at_given slot rows = ap (row_by_number slot_of slot) (held_given rows) ∙ at_map named slot_of slot (held_by c rows)
      ∙ cases (row_by_number own_slot slot (held_by c rows)) refl
    where
      beside : ℕ → Assignment → Given
      beside s a = record { assignment = a; series = series_named_in taken c s }

      cases : (w : Option Assignment) → row_by_number own_slot slot (held_by c rows) ≡ w →
          option_map named (row_by_number own_slot slot (held_by c rows)) ≡ option_map (beside slot)
          (row_by_number own_slot slot (held_by c rows))
      cases None e = rw e refl
      cases (Some a) e = rw e (ap (λ s. Some (beside s a)) (at_key own_slot slot a (held_by c rows) e))

  -- the same from the assignments with their outlets' names
  pub given_found : (us : List Outlet) (slot : ℕ) (rows : List (ℕ × Assignment)) (found : Option Assigned) →
      found ≡ row_by_number (λ a. a.assignment.slot) slot (map (with_name us)
      (map (λ g. g.assignment) (held_by c (map (given_in taken) rows)))) →
      option_map (λ a. record { assignment = a.assignment; series = series_named_in taken c slot }) found ≡
      row_by_number
      (λ g. g.assignment.slot) slot (held_by c (map (given_in taken) rows))
  given_found us slot rows found is =
      ap (option_map beside)
      (is ∙ ap (λ mine. row_by_number (λ (a : Assigned). a.assignment.slot) slot (map (with_name us) mine))
      (assignments_held rows) ∙ at_map (with_name us) (λ (a : Assigned). a.assignment.slot) slot (held_by c rows))
      ∙ cases (row_by_number own_slot slot (held_by c rows)) ∙ sym (at_given slot rows)
    where
      beside : Assigned → Given
      beside a = record { assignment = a.assignment; series = series_named_in taken c slot }

      cases : (w : Option Assignment) → option_map beside (option_map (with_name us) w) ≡ option_map
          (λ a. record { assignment = a; series = series_named_in taken c slot }) w
      cases None = refl
      cases (Some a) = refl

  -- a slot that was given nothing has no assignment, and one that was given something has one
  pub nothing_given : (slot : ℕ) (rows : List (ℕ × Assignment)) →
      row_by_number (λ g. g.assignment.slot) slot (held_by c (map (given_in taken) rows)) ≡ None →
      row_by_number (λ a. a.slot) slot (held_by c rows) ≡ None
  nothing_given slot rows none = cases (row_by_number own_slot slot (held_by c rows)) refl
      (sym (at_given slot rows) ∙ none)
    where
      beside : Assignment → Given
      beside a = record { assignment = a; series = series_named_in taken c slot }

      cases : (w : Option Assignment) → row_by_number own_slot slot (held_by c rows) ≡ w →
          option_map beside (row_by_number own_slot slot (held_by c rows)) ≡ None → row_by_number own_slot slot
          (held_by c rows) ≡ None
      cases None e h = e
      cases (Some a) e h = let no : Some (beside a) ≡ None = rw e at h in cc

  pub slot_given : (slot : ℕ) (rows : List (ℕ × Assignment)) →
      IsSome (row_by_number (λ g. g.assignment.slot) slot (held_by c (map (given_in taken) rows))) →
      IsSome (row_by_number (λ a. a.slot) slot (held_by c rows))
  slot_given slot rows some = cases (row_by_number own_slot slot (held_by c rows)) refl (rw (← at_given slot rows) some)
    where
      beside : Assignment → Given
      beside a = record { assignment = a; series = series_named_in taken c slot }

      cases : (w : Option Assignment) → row_by_number own_slot slot (held_by c rows) ≡ w →
          IsSome (option_map beside (row_by_number own_slot slot (held_by c rows))) → IsSome
          (row_by_number own_slot slot (held_by c rows))
      cases None e h = absurd (false≢true (rw e at h))
      cases (Some a) e h = rw e refl

-- if something is made of what was found, something was found
pub some_mapped : {X Y : Type 0} (f : X → Y) (y : Y) (found : Option X) → option_map f found ≡ Some y → IsSome found
some_mapped f y None e = let no : None ≡ Some y = e in cc
some_mapped f y (Some x) e = refl
