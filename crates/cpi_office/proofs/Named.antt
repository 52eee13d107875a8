-- What stands in a slot, by the rows with their outlets' names and by what was given.
use Rattle.std.proofs.Common.{◌≡◌, ℕ, Bool, true, false, List, [], ◌∷◌, map, Some, None, Option, refl, ap, ◌∙◌}
use Rattle.std.specs.Prelude.{option_map, if◌then◌else◌}
use Rattle.std.specs.Ordering.{nat_cmp, is_eq}
use Rattle.cpi_rows.specs.Keyed.{row_by_number}
use Rattle.cpi_rows.specs.Held.{held_by}
use Rattle.cpi_store.specs.Office.{Office}
use Rattle.cpi_store.specs.Outlet.{with_name}
use Rattle.cpi_store.specs.Series.{first_of_series, same_series, own_series}
use Rattle.cpi_survey.specs.Assignment.{same_assignment}
use Rattle.cpi_store.specs.declared.given.Given.{Given}
use Rattle.cpi_store.specs.declared.outlet.Outlet.{Outlet}
use Rattle.cpi_survey.specs.declared.assignment.Assigned.{Assigned}
use Rattle.cpi_survey.specs.declared.assignment.Assignment.{Assignment}
use Rattle.cpi_store.specs.declared.registration.Registration.{Registration}
use Rattle.cpi_office.specs.Verdicts.{verdict_reply, with_verdict}
use Rattle.cpi_office.specs.Assigning.{same_given, assignment_verdict, assigned_over, slot_given}
use Rattle.cpi_office.specs.declared.standing.Standing.{Standing}
use Rattle.cpi_office.specs.declared.standing.Standing.TheVariants.{Free, Same, Other}
use Rattle.cpi_office.specs.Standing.{standing}
use Rattle.cpi_office.specs.Named.{same_assigned, slot_standing, is_first_series, again_reply, IsNamed}

-- the same content, whatever the series
abbrev pub same_content : Given → Assignment → Bool
same_content old a = same_assignment old.assignment a

pub standing_named : (us : List Outlet) (a : Assignment) (slot : ℕ) (rows : List Given) →
    standing same_assigned a (row_by_number (λ a. a.assignment.slot) slot
    (map (with_name us) (map (λ g. g.assignment) rows))) ≡
    standing same_content a (row_by_number (λ g. g.assignment.slot) slot rows)
standing_named us a slot [] = refl
standing_named us a slot (r ∷ rows) = cases (is_eq (nat_cmp r.assignment.slot slot)) refl
    (standing_named us a slot rows)
  where
    cases : (t : Bool) → is_eq (nat_cmp r.assignment.slot slot) ≡ t →
        standing same_assigned a (row_by_number (λ a. a.assignment.slot) slot
        (map (with_name us) (map (λ g. g.assignment) rows))) ≡ standing same_content a
        (row_by_number (λ g. g.assignment.slot) slot rows) →
        standing same_assigned a (row_by_number (λ a. a.assignment.slot) slot
        (map (with_name us) (map (λ g. g.assignment) (r ∷ rows)))) ≡ standing same_content a
        (row_by_number (λ g. g.assignment.slot) slot (r ∷ rows))
    cases true e rest = rw e refl
    cases false e rest = rw e rest

-- what stands with the same content stands so where the slot names its series
abbrev pub as_first : Bool → Standing → Standing
as_first first Free = Free
as_first first Same = if first then Same else Other
as_first first Other = Other

standing_first : (collector : ℕ) (a : Assignment) (w : Option Given) →
    standing same_given (first_of_series collector a) w ≡ as_first (is_first_series collector a.slot w)
    (standing same_content a w)
standing_first collector a None = refl
standing_first collector a (Some g) = cases (same_assignment g.assignment a) refl
    (same_series g.series (own_series collector a.slot)) refl
  where
    cases : (s : Bool) → same_assignment g.assignment a ≡ s → (t : Bool) →
        same_series g.series (own_series collector a.slot) ≡ t →
        standing same_given (first_of_series collector a) (Some g) ≡ as_first
        (is_first_series collector a.slot (Some g))
        (standing same_content a (Some g))
    cases true e true f = rw (e, f) refl
    cases true e false f = rw (e, f) refl
    cases false e t f = rw e refl

-- a slot is given by what stands there by its content, and by whether the slot names its series
pub slot_given_is : (collector : ℕ) (a : Assignment) (o : Office) →
    slot_given collector a o ≡ assigned_over (as_first
    (is_first_series collector a.slot (row_by_number (λ g. g.assignment.slot) a.slot (held_by collector o.assignments)))
    (slot_standing collector a o)) collector a o
slot_given_is collector a o =
    ap (λ s. assigned_over s collector a o)
    (standing_first collector a (row_by_number (λ g. g.assignment.slot) a.slot (held_by collector o.assignments))
    ∙ rw (standing_named o.outlets a a.slot (held_by collector o.assignments)) refl)

again_given : (collector : ℕ) (a : Assignment) (o : Office) (first : Bool) (w : Option Registration) →
    (again_reply first w ≡ verdict_reply (assignment_verdict (with_name o.outlets a)
    (row_by_number (λ i. i.code) a.item o.items)
    (row_by_number (λ u. u.number) a.outlet o.outlets) w (as_first first Same)))
    × (o ≡ with_verdict (assignment_verdict (with_name o.outlets a) (row_by_number (λ i. i.code) a.item o.items)
    (row_by_number (λ u. u.number) a.outlet o.outlets) w (as_first first Same)) o)
again_given collector a o true None = (refl, refl)
again_given collector a o true (Some b) = (refl, refl)
again_given collector a o false None = (refl, refl)
again_given collector a o false (Some b) = (refl, refl)

-- what stands with the same content is answered by whether the slot names its series, and changes nothing
pub again_is : (collector : ℕ) (a : Assignment) (o : Office) → Same ≡ slot_standing collector a o →
    (again_reply (is_first_series collector a.slot
    (row_by_number (λ g. g.assignment.slot) a.slot (held_by collector o.assignments)))
    (row_by_number (λ b. b.number) collector o.collectors) ≡ verdict_reply (slot_given collector a o))
    × (o ≡ with_verdict (slot_given collector a o) o)
again_is collector a o e =
    rw (slot_given_is collector a o, ← e)
    (again_given collector a o (is_first_series collector a.slot
    (row_by_number (λ g. g.assignment.slot) a.slot (held_by collector o.assignments)))
    (row_by_number (λ b. b.number) collector o.collectors))

pub is_free : {X Y : Type 0} (same : Y → X → Bool) (x : X) (w : Option Y) → Free ≡ standing same x w → w ≡ None
is_free same x None e = refl
is_free same x (Some old) e = cases (same old x) refl
  where
    cases : (t : Bool) → same old x ≡ t → Some old ≡ None
    cases true f = let no = rw f at e in cc
    cases false f = let no = rw f at e in cc

-- the assignment with the name of its outlet, where there is one
pub named_is : (us : List Outlet) (a : Assignment) (x : Assigned) → IsNamed us a (Some x) → x ≡ with_name us a
named_is us a x e = cases (row_by_number (λ (u : Outlet). u.number) a.outlet us) refl e
  where
    cases : (w : Option Outlet) → row_by_number (λ (u : Outlet). u.number) a.outlet us ≡ w →
        Some x ≡ option_map (λ (u : Outlet). record { assignment = a; outlet_name = u.name })
        (row_by_number (λ (u : Outlet). u.number) a.outlet us) → x ≡ with_name us a
    cases None f e = let no = rw f at e in cc
    cases (Some u) f e = let is = rw f at e in rw f
        (let same : x ≡ record { assignment = a; outlet_name = u.name } =
        cc in same)

-- an assignment that gets no name has no outlet
pub lacks_outlet : (us : List Outlet) (a : Assignment) → IsNamed us a None →
    row_by_number (λ (u : Outlet). u.number) a.outlet us ≡ None
lacks_outlet us a e = cases (row_by_number (λ (u : Outlet). u.number) a.outlet us) refl e
  where
    cases : (w : Option Outlet) → row_by_number (λ (u : Outlet). u.number) a.outlet us ≡ w →
        ◌≡◌ {A = Option Assigned} None (option_map (λ (u : Outlet). record { assignment = a; outlet_name = u.name })
        (row_by_number (λ (u : Outlet). u.number) a.outlet us)) →
        row_by_number (λ (u : Outlet). u.number) a.outlet us ≡ None
    cases None f e = f
    cases (Some u) f e = let no = rw f at e in cc
