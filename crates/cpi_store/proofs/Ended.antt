-- The assignments of all after that of one collector's slot was given another last month.
use Rattle.std.proofs.Common.{◌≡◌, ◌≢◌, ℕ, zero, suc, ◌<◌, Bool, true, false, eqb, List, [], ◌∷◌, ◌++◌, map, length}
use Rattle.std.proofs.Common.{get_or, set, Some, None, refl, sym, ap, ◌∙◌, arith, inl, inr}
use Rattle.std.specs.Prelude.{◌⊎◌, if◌then◌else◌}
use Rattle.std.specs.declared.cmp.Ordering.{Ordering}
use Rattle.std.specs.declared.cmp.Ordering.TheVariants.{Less, Equal, Greater}
use Rattle.std.specs.Ordering.{nat_cmp, is_eq}
use Rattle.std.specs.List.{AllByRecursion}
use Rattle.std.proofs.lemmas.Bool.Decides.{eqb_tells}
use Rattle.std.proofs.lemmas.Cmp.{ranked}
use Rattle.std.proofs.lemmas.List.{map-append}
use Rattle.std.proofs.lemmas.Map.Keys.{sorted_head, sorted_tail, Less-from_sorted}
use Rattle.cpi_rows.specs.Keyed.{row_at, IsInOrder}
use Rattle.cpi_survey.specs.Assignment.{with_last_month, ended_one, until}
use Rattle.cpi_survey.specs.declared.assignment.Assignment.{Assignment}
use Rattle.cpi_survey.specs.declared.assignment.Assigned.{Assigned}
use Rattle.cpi_store.specs.Outlet.{with_name}
use Rattle.cpi_store.specs.declared.holder.Holder.{Holder}
use Rattle.cpi_store.specs.declared.outlet.Outlet.{Outlet}
use Rattle.cpi_store.specs.Holders.{all_assignments, assignment_until, assignments_of, named_by, ArePlaced, HasOutlet}
use Rattle.cpi_store.proofs.Assigned.{all_set, fixed_set}

not_same : (m n : ℕ) → (m ≡ n → ⊥) → eqb m n ≡ false
not_same m n differ = cases (eqb_tells m n)
  where
    cases : ((eqb m n ≡ true) × (m ≡ n)) ⊎ ((eqb m n ≡ false) × (m ≢ n)) → eqb m n ≡ false
    cases (inl same) = absurd (differ same.1)
    cases (inr apart) = apart.0

less_apart : (m n : ℕ) → nat_cmp m n ≡ Less → eqb m n ≡ false
less_apart m n less = let below : m < n = ranked m n Less (sym less) in
    not_same m n (λ e. absurd (omega (arith, below, e)))

less_apart_back : (m n : ℕ) → nat_cmp n m ≡ Less → eqb m n ≡ false
less_apart_back m n less = let below : n < m = ranked n m Less (sym less) in
    not_same m n (λ e. absurd (omega (arith, below, e)))

module _ (c slot last_month : ℕ) where
  abbrev ending : ℕ × Assignment → ℕ × Assignment
  ending row = assignment_until c slot last_month row

  -- another collector's assignments stay
  other_stays : (n : ℕ) → eqb n c ≡ false → (rows : List Assignment) →
      map ending (map (λ a. (n, a)) rows) ≡ map (λ a. (n, a)) rows
  other_stays n apart [] = refl
  other_stays n apart (a ∷ rows) = rw apart (ap (λ ys. (n, a) ∷ ys) (other_stays n apart rows))

  -- the collector's own ends
  own_ends : (n : ℕ) → eqb n c ≡ true → (rows : List Assigned) →
      map ending (map (λ a. (n, a)) (map (λ a. a.assignment) rows)) ≡ map (λ a. (n, a))
      (map (λ a. a.assignment) (with_last_month slot last_month rows))
  own_ends n same [] = refl
  own_ends n same (a ∷ rows) = rw same (cases (eqb a.assignment.slot slot) refl (own_ends n same rows))
    where
      cases : (t : Bool) → eqb a.assignment.slot slot ≡ t →
          map ending (map (λ a. (n, a)) (map (λ a. a.assignment) rows)) ≡ map (λ a. (n, a))
          (map (λ a. a.assignment) (with_last_month slot last_month rows)) →
          (if eqb a.assignment.slot slot then (n, until last_month a.assignment) else (n, a.assignment)) ∷ map ending
          (map (λ a. (n, a)) (map (λ a. a.assignment) rows))
          ≡ (n, (ended_one slot last_month a).assignment) ∷ map (λ a. (n, a))
          (map (λ a. a.assignment) (with_last_month slot last_month rows))
      cases true e rest = rw e (ap (λ ys. (n, until last_month a.assignment) ∷ ys) rest)
      cases false e rest = rw e (ap (λ ys. (n, a.assignment) ∷ ys) rest)

  -- if no collector has the number, all stay
  pub all_stay : (hs : List Holder) → AllByRecursion (λ h. eqb h.number c ≡ false) hs →
      map ending (all_assignments hs) ≡ all_assignments hs
  all_stay [] apart = refl
  all_stay (h ∷ hs) apart =
      map-append ending (map (λ a. (h.number, a)) (assignments_of h)) (all_assignments hs)
      ∙ ap (λ ys. ys ++ map ending (all_assignments hs)) (other_stays h.number apart.0 (assignments_of h))
      ∙ ap (λ ys. map (λ a. (h.number, a)) (assignments_of h) ++ ys) (all_stay hs apart.1)

  later_apart : (n : ℕ) (hs : List Holder) → n ≡ c → AllByRecursion (λ h. nat_cmp n h.number ≡ Less) hs →
      AllByRecursion (λ h. eqb h.number c ≡ false) hs
  later_apart n [] same above = tt
  later_apart n (h ∷ hs) same above = (less_apart_back h.number c (rw (← same) above.0), later_apart n hs same above.1)

  pub none_apart : (hs : List Holder) → row_at nat_cmp (λ h. h.number) c hs ≡ None →
      AllByRecursion (λ h. eqb h.number c ≡ false) hs
  none_apart [] none = tt
  none_apart (h ∷ hs) none = cases (nat_cmp h.number c) refl none (none_apart hs)
    where
      Apart : List Holder → Type 0
      Apart gs = AllByRecursion (λ (h : Holder). eqb h.number c ≡ false) gs

      cases : (s : Ordering) → nat_cmp h.number c ≡ s → row_at nat_cmp (λ (h : Holder). h.number) c (h ∷ hs) ≡ None →
          (row_at nat_cmp (λ (h : Holder). h.number) c hs ≡ None → Apart hs) → Apart (h ∷ hs)
      cases Less e none rest = (less_apart h.number c e, rest (rw (ap is_eq e) at none))
      cases Equal e none rest = let no : Some h ≡ None = rw (ap is_eq e) at none in cc
      cases Greater e none rest =
          let above : c < h.number = ranked h.number c Greater (sym e) in
          (not_same h.number c (λ same. absurd (omega (arith, above, same))), rest (rw (ap is_eq e) at none))

  -- after the holder at the place ended the slot, all have that slot ended
  pub all_ended : (hs : List Holder) (i : ℕ) (after d : Holder) → IsInOrder nat_cmp (λ h. h.number) hs →
      i < length hs → (get_or hs i d).number ≡ c → after.number ≡ c →
      after.own.assignments ≡ with_last_month slot last_month (get_or hs i d).own.assignments →
      all_assignments (set hs i after) ≡ map ending (all_assignments hs)
  all_ended [] i after d sorted in_range at_c is_c ends = absurd (omega arith)
  all_ended (h ∷ hs) zero after d sorted in_range at_c is_c ends =
      let own : eqb h.number c ≡ true = rw at_c (is_same c) in
      let numbers : after.number ≡ h.number = is_c ∙ sym at_c in
      let here : map (λ a. (after.number, a)) (assignments_of after) ≡ map ending
      (map (λ a. (h.number, a)) (assignments_of h)) =
      ap (λ n. map (λ a. (n, a)) (assignments_of after)) numbers
      ∙ ap (λ ws. map (λ a. (h.number, a)) (map (λ (w : Assigned). w.assignment) ws)) ends
      ∙ sym (own_ends h.number own h.own.assignments) in
      ap (λ ys. ys ++ all_assignments hs) here
      ∙ ap (λ ys. map ending (map (λ a. (h.number, a)) (assignments_of h)) ++ ys)
      (sym (all_stay hs (later_apart h.number hs at_c
      (sorted_head (λ (a : Holder) (b : Holder). nat_cmp a.number b.number) h hs sorted))))
      ∙ sym (map-append ending (map (λ a. (h.number, a)) (assignments_of h)) (all_assignments hs))
    where
      is_same : (n : ℕ) → eqb n n ≡ true
      is_same n = cases (eqb_tells n n)
        where
          cases : ((eqb n n ≡ true) × (n ≡ n)) ⊎ ((eqb n n ≡ false) × (n ≢ n)) → eqb n n ≡ true
          cases (inl same) = same.0
          cases (inr apart) = absurd (apart.1 refl)
  all_ended (h ∷ hs) (suc i) after d sorted in_range at_c is_c ends =
      let less : nat_cmp h.number (get_or hs i d).number ≡ Less =
      Less-from_sorted (λ (a : Holder) (b : Holder). nat_cmp a.number b.number) (h ∷ hs) 0 (suc i) d sorted
      (omega arith) in_range in
      let apart : eqb h.number c ≡ false = less_apart h.number c (rw at_c at less) in
      ap (λ ys. map (λ a. (h.number, a)) (assignments_of h) ++ ys)
      (all_ended hs i after d (sorted_tail (λ (a : Holder) (b : Holder). nat_cmp a.number b.number) h hs sorted)
      (omega arith) at_c is_c ends)
      ∙ ap (λ ys. ys ++ map ending (all_assignments hs)) (sym (other_stays h.number apart (assignments_of h)))
      ∙ sym (map-append ending (map (λ a. (h.number, a)) (assignments_of h)) (all_assignments hs))

-- ---- outlets and names

module _ (us : List Outlet) (slot last_month : ℕ) where
  has_ended : (a : Assigned) → HasOutlet us a → HasOutlet us (ended_one slot last_month a)
  has_ended a has = cases (eqb a.assignment.slot slot) refl
    where
      cases : (t : Bool) → eqb a.assignment.slot slot ≡ t → HasOutlet us (ended_one slot last_month a)
      cases true e = rw e has
      cases false e = rw e has

  all_have_ended : (own : List Assigned) → AllByRecursion (HasOutlet us) own →
      AllByRecursion (HasOutlet us) (with_last_month slot last_month own)
  all_have_ended [] all = tt
  all_have_ended (a ∷ own) all = (has_ended a all.0, all_have_ended own all.1)

  name_ended : (a : Assigned) → with_name us a.assignment ≡ a →
      with_name us (ended_one slot last_month a).assignment ≡ ended_one slot last_month a
  name_ended a named = cases (eqb a.assignment.slot slot) refl
    where
      cases : (t : Bool) → eqb a.assignment.slot slot ≡ t →
          with_name us (ended_one slot last_month a).assignment ≡ ended_one slot last_month a
      cases true e = rw e (ap (λ (x : Assigned). record x { assignment = until last_month a.assignment }) named)
      cases false e = rw e named

  all_names_ended : (own : List Assigned) → map (with_name us) (map (λ a. a.assignment) own) ≡ own →
      map (with_name us) (map (λ a. a.assignment) (with_last_month slot last_month own)) ≡ with_last_month slot
      last_month own
  all_names_ended [] named = refl
  all_names_ended (a ∷ own) named =
      let first : with_name us a.assignment ≡ a = cc in
      let rest : map (with_name us) (map (λ a. a.assignment) own) ≡ own = cc in
      ap (λ x. x ∷ map (with_name us) (map (λ a. a.assignment) (with_last_month slot last_month own)))
      (name_ended a first)
      ∙ ap (λ xs. ended_one slot last_month a ∷ xs) (all_names_ended own rest)

  module _ (hs : List Holder) (i : ℕ) (h after : Holder) (found : h ≡ get_or hs i h)
      (ends : after.own.assignments ≡ with_last_month slot last_month h.own.assignments) where
    abbrev own : Holder → List Assigned
    own g = g.own.assignments

    pub placed_ended : ArePlaced us (map own hs) → ArePlaced us (map own (set hs i after))
    placed_ended all = all_set (AllByRecursion (HasOutlet us)) own hs i after h
        (λ old. rw (ends, found) (all_have_ended (get_or hs i h).own.assignments old)) all

    pub names_ended : named_by us (map own hs) ≡ map own hs → named_by us (map own (set hs i after)) ≡ map own
        (set hs i after)
    names_ended all = fixed_set (λ own. map (with_name us) (map (λ x. x.assignment) own)) own hs i after h
        (λ old.
        let same : after.own.assignments ≡ with_last_month slot last_month (get_or hs i h).own.assignments = ends
        ∙ ap (λ (g : Holder). with_last_month slot last_month g.own.assignments) found in
        ap (λ xs. map (with_name us) (map (λ (x : Assigned). x.assignment) xs)) same
        ∙ all_names_ended (get_or hs i h).own.assignments old ∙ sym same) all
