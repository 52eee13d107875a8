-- The assignments of all holders after one was put among those of one holder.
use Rattle.std.proofs.Common.{◌≡◌, ℕ, zero, suc, List, [], ◌∷◌, map, get_or, set, refl, sym}
use Rattle.std.proofs.Common.{ap, ◌∙◌}
use Rattle.std.specs.Ordering.{nat_cmp}
use Rattle.std.specs.List.{AllByRecursion}
use Rattle.cpi_rows.specs.Keyed.{with_row}
use Rattle.cpi_rows.proofs.Puts.{map_put}
use Rattle.cpi_rows.proofs.Lists.{all_filtered, all_joined}
use Rattle.cpi_store.specs.Outlet.{with_name}
use Rattle.cpi_store.specs.declared.outlet.Outlet.{Outlet}
use Rattle.cpi_survey.specs.declared.assignment.Assignment.{Assignment}
use Rattle.cpi_survey.specs.declared.assignment.Assigned.{Assigned}
use Rattle.cpi_store.specs.declared.holder.Holder.{Holder}
use Rattle.cpi_store.specs.Holders.{named_by, HasOutlet, ArePlaced}

abbrev slot : Assigned → ℕ
slot a = a.assignment.slot

pub all_set : {X Y : Type 0} (P : Y → Type 0) (f : X → Y) (xs : List X) (i : ℕ) (y d : X) →
    (P (f (get_or xs i d)) → P (f y)) → AllByRecursion P (map f xs) → AllByRecursion P (map f (set xs i y))
all_set P f [] i y d then all = tt
all_set P f (x ∷ xs) zero y d then all = (then all.0, all.1)
all_set P f (x ∷ xs) (suc i) y d then all = (all.0, all_set P f xs i y d then all.1)

-- a map that changes no row of a list, changes none after one was replaced by another that it doesn't change
pub fixed_set : {X Y : Type 0} (g : Y → Y) (f : X → Y) (xs : List X) (i : ℕ) (y d : X) →
    (g (f (get_or xs i d)) ≡ f (get_or xs i d) → g (f y) ≡ f y) → map g (map f xs) ≡ map f xs →
    map g (map f (set xs i y)) ≡ map f (set xs i y)
fixed_set g f [] i y d then fixed = refl
fixed_set g f (x ∷ xs) zero y d then fixed =
    let here : g (f x) ≡ f x = cc in
    let rest : map g (map f xs) ≡ map f xs = cc in
    ap (λ z. z ∷ map g (map f xs)) (then here) ∙ ap (λ zs. f y ∷ zs) rest
fixed_set g f (x ∷ xs) (suc i) y d then fixed =
    let here : g (f x) ≡ f x = cc in
    let rest : map g (map f xs) ≡ map f xs = cc in
    ap (λ z. z ∷ map g (map f (set xs i y))) here ∙ ap (λ zs. f x ∷ zs) (fixed_set g f xs i y d then rest)

module _ (us : List Outlet) (a : Assigned) (hs : List Holder) (i : ℕ) (h after : Holder)
    (found : h ≡ get_or hs i h) where
  abbrev own : Holder → List Assigned
  own g = g.own.assignments

  pub placed_put : after.own.assignments ≡ with_row nat_cmp slot a h.own.assignments → HasOutlet us a →
      ArePlaced us (map own hs) → ArePlaced us (map own (set hs i after))
  placed_put e has all = all_set (AllByRecursion (HasOutlet us)) own hs i after h
      (λ old. rw (e, found) (all_joined (HasOutlet us) _ _ (all_filtered (HasOutlet us) _ _ old)
      (has, all_filtered (HasOutlet us) _ _ old))) all

  pub placed_same : after.own.assignments ≡ h.own.assignments → ArePlaced us (map own hs) →
      ArePlaced us (map own (set hs i after))
  placed_same e all = all_set (AllByRecursion (HasOutlet us)) own hs i after h (λ old. rw (e, found) old) all

  pub names_put : after.own.assignments ≡ with_row nat_cmp slot a h.own.assignments → a ≡ with_name us a.assignment →
      named_by us (map own hs) ≡ map own hs → named_by us (map own (set hs i after)) ≡ map own (set hs i after)
  names_put e named all = fixed_set (λ own. map (with_name us) (map (λ x. x.assignment) own)) own hs i after h
      (λ old.
      let before : map (with_name us) (map (λ x. x.assignment) h.own.assignments) ≡ h.own.assignments = rw found old in
      ap (λ xs. map (with_name us) (map (λ (x : Assigned). x.assignment) xs)) e
      ∙ ap (map (with_name us)) (map_put nat_cmp (λ (x : Assignment). x.slot)
      (λ (x : Assigned). x.assignment) a h.own.assignments)
      ∙ map_put nat_cmp slot (with_name us) a.assignment (map (λ x. x.assignment) h.own.assignments)
      ∙ ap (λ x. with_row nat_cmp slot x (map (with_name us) (map (λ x. x.assignment) h.own.assignments))) (sym named)
      ∙ ap (with_row nat_cmp slot a) before ∙ sym e) all

  pub names_same : after.own.assignments ≡ h.own.assignments → named_by us (map own hs) ≡ map own hs →
      named_by us (map own (set hs i after)) ≡ map own (set hs i after)
  names_same e all = fixed_set (λ own. map (with_name us) (map (λ x. x.assignment) own)) own hs i after h
      (λ old.
      let same : after.own.assignments ≡ (get_or hs i h).own.assignments = e ∙ ap own found in
      ap (λ xs. map (with_name us) (map (λ (x : Assigned). x.assignment) xs)) same ∙ old ∙ sym same) all
