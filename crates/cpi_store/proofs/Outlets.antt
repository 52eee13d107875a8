-- An outlet that is added gives no other name to an assignment whose outlet is there.
use Rattle.std.proofs.Common.{◌≡◌, List, [], ◌∷◌, map, Some, None, Option, refl, ap, ◌∙◌}
use Rattle.std.specs.Prelude.{IsSome}
use Rattle.std.specs.Ordering.{nat_cmp}
use Rattle.std.specs.List.{AllByRecursion}
use Rattle.std.proofs.lemmas.Bool.{false≢true}
use Rattle.cpi_rows.specs.Keyed.{row_by_number, put_by, IsInOrder}
use Rattle.cpi_rows.proofs.Puts.{at_put_found_row, at_put_some}
use Rattle.cpi_store.specs.Outlet.{with_name}
use Rattle.cpi_store.specs.declared.outlet.Outlet.{Outlet}
use Rattle.cpi_survey.specs.declared.assignment.Assigned.{Assigned}
use Rattle.cpi_store.specs.Holders.{named_by, HasOutlet, ArePlaced}

module _ (u : Outlet) (us : List Outlet) (sorted : IsInOrder nat_cmp (λ u. u.number) us)
    (new : row_by_number (λ u. u.number) u.number us ≡ None) where
  name_stays : (a : Assigned) → HasOutlet us a →
      with_name (put_by (λ u. u.number) u us) a.assignment ≡ with_name us a.assignment
  name_stays a has = cases (row_by_number (λ u. u.number) a.assignment.outlet us) refl has
    where
      cases : (w : Option Outlet) → row_by_number (λ u. u.number) a.assignment.outlet us ≡ w → IsSome w →
          with_name (put_by (λ u. u.number) u us) a.assignment ≡ with_name us a.assignment
      cases None e some = absurd (false≢true some)
      cases (Some x) e some = rw (at_put_found_row (λ u. u.number) u us sorted new a.assignment.outlet x e, e) refl

  own_stays : (own : List Assigned) → AllByRecursion (HasOutlet us) own →
      map (with_name (put_by (λ u. u.number) u us)) (map (λ a. a.assignment) own) ≡ map (with_name us)
      (map (λ a. a.assignment) own)
  own_stays [] all = refl
  own_stays (a ∷ own) all = ap (λ x. x ∷ map (with_name (put_by (λ u. u.number) u us)) (map (λ a. a.assignment) own))
      (name_stays a all.0) ∙ ap (λ xs. with_name us a.assignment ∷ xs) (own_stays own all.1)

  pub names_stay : (lists : List (List Assigned)) → ArePlaced us lists →
      named_by (put_by (λ u. u.number) u us) lists ≡ named_by us lists
  names_stay [] all = refl
  names_stay (own ∷ lists) all = ap (λ x. x ∷ named_by (put_by (λ u. u.number) u us) lists) (own_stays own all.0)
      ∙ ap (λ xs. map (with_name us) (map (λ a. a.assignment) own) ∷ xs) (names_stay lists all.1)

  own_placed : (own : List Assigned) → AllByRecursion (HasOutlet us) own →
      AllByRecursion (HasOutlet (put_by (λ u. u.number) u us)) own
  own_placed [] all = tt
  own_placed (a ∷ own) all = (
    at_put_some (λ u. u.number) u us sorted new a.assignment.outlet all.0,
    own_placed own all.1,
  )

  pub still_placed : (lists : List (List Assigned)) → ArePlaced us lists → ArePlaced (put_by (λ u. u.number) u us) lists
  still_placed [] all = tt
  still_placed (own ∷ lists) all = (own_placed own all.0, still_placed lists all.1)
