-- A survey that is made of rows: its collectors have these rows and no others.
use Rattle.std.proofs.Common.{◌≡◌, ◌≢◌, ℕ, zero, suc, true, false, eqb, List, [], ◌∷◌, ◌++◌, map, take, drop}
use Rattle.std.proofs.Common.{Some, None, Option, refl, sym, ap, ◌∙◌, subst, inl, inr}
use Rattle.std.specs.Prelude.{◌⊎◌, cond, IfOk, Result, Ok, Err}
use Rattle.std.specs.Result.{result_ok}
use Rattle.std.specs.declared.cmp.Ordering.{Ordering}
use Rattle.std.specs.declared.cmp.Ordering.TheVariants.{Less}
use Rattle.std.specs.Ordering.{nat_cmp, is_eq, ordering_then}
use Rattle.std.specs.List.{AllByRecursion}
use Rattle.std.specs.List.Sorted.{IsStrictlySortedBy}
use Rattle.std.proofs.lemmas.Bool.Decides.{eqb_tells}
use Rattle.std.proofs.lemmas.Cmp.{nat_cmp_total, tied_itself}
use Rattle.std.proofs.lemmas.Grind.{flat_map-append}
use Rattle.std.proofs.lemmas.List.{append-nil, map-append}
use Rattle.cpi_rows.specs.Keyed.{IsInOrder}
use Rattle.cpi_rows.specs.Held.{held_cmp, held_key}
use Rattle.cpi_rows.proofs.Puts.{different}
use Rattle.cpi_rows.proofs.Lists.{all_behind}
use Rattle.cpi_survey.specs.Own.{OwnPart}
use Rattle.cpi_survey.specs.Quote.{QuoteRow}
use Rattle.cpi_survey.specs.declared.assignment.Assigned.{Assigned}
use Rattle.cpi_store.specs.declared.registration.Registration.{Registration}
use Rattle.cpi_store.specs.declared.given.Given.{Given}
use Rattle.cpi_store.specs.declared.holder.Holder.{Holder}
use Rattle.cpi_store.specs.declared.outlet.Outlet.{Outlet}
use Rattle.cpi_store.specs.Registration.{registration_of}
use Rattle.cpi_store.specs.Holders.{HasOutlet, all_assignments, quotes_of_holders, collectors_of, collector_of_holder}
use Rattle.cpi_store.specs.Holders.{assignments_of, quotes_of, named_by}
use Rattle.cpi_store.specs.Loading.{HaveRows, rows_with_number, own_made, without_series}
use Rattle.cpi_store.specs.Outlet.{with_name}
use Rattle.cpi_store.proofs.Added.{registration_new, registration_passed}

-- ---- rows in order, and parts of them

module _ {K : Type 0} (R : K → K → Ordering) where
  abbrev AreAbove : K → List K → Type 0
  AreAbove x xs = AllByRecursion (λ y. R x y ≡ Less) xs

  above_take : (x : K) (n : ℕ) (xs : List K) → AreAbove x xs → AreAbove x (take n xs)
  above_take x zero xs all = tt
  above_take x (suc n) [] all = tt
  above_take x (suc n) (y ∷ xs) all = (all.0, above_take x n xs all.1)

  sorted_drop : (n : ℕ) (xs : List K) → IsStrictlySortedBy R xs → IsStrictlySortedBy R (drop n xs)
  unfolding IsStrictlySortedBy
  sorted_drop zero xs sorted = sorted
  sorted_drop (suc n) [] sorted = tt
  sorted_drop (suc n) (x ∷ xs) sorted = sorted_drop n xs sorted.1

  sorted_take : (n : ℕ) (xs : List K) → IsStrictlySortedBy R xs → IsStrictlySortedBy R (take n xs)
  unfolding IsStrictlySortedBy
  sorted_take zero xs sorted = tt
  sorted_take (suc n) [] sorted = tt
  sorted_take (suc n) (x ∷ xs) sorted = (above_take x n xs sorted.0, sorted_take n xs sorted.1)

module _ {X K : Type 0} (cmp : K → K → Ordering) (key : X → K) (c : ℕ) where
  abbrev held_order : ℕ × X → ℕ × X → Ordering
  held_order a b = held_cmp cmp (held_key key a) (held_key key b)

  own_above : (x : X) (own : List X) → AllByRecursion (λ y. held_order (c, x) y ≡ Less) (rows_with_number c own)
      → AllByRecursion (λ y. cmp (key x) (key y) ≡ Less) own
  own_above x [] all = tt
  own_above x (y ∷ own) all =
      let one : ordering_then (nat_cmp c c) (cmp (key x) (key y)) ≡ Less = all.0 in
      (rw (tied_itself nat_cmp_total c) at one, own_above x own all.1)

  own_sorted : (own : List X) → IsInOrder (held_cmp cmp) (held_key key) (rows_with_number c own) → IsInOrder cmp key own
  unfolding IsStrictlySortedBy
  own_sorted [] sorted = tt
  own_sorted (x ∷ own) sorted = (own_above x own sorted.0, own_sorted own sorted.1)

  -- the rows of one collector are in order among all
  pub own_in_order : (rows : List (ℕ × X)) (from n : ℕ) (own : List X)
      → IsInOrder (held_cmp cmp) (held_key key) rows → rows_with_number c own ≡ take n (drop from rows)
      → IsInOrder cmp key own
  own_in_order rows from n own sorted is =
      let part : IsInOrder (held_cmp cmp) (held_key key) (take n (drop from rows)) =
      sorted_take held_order n (drop from rows) (sorted_drop held_order from rows sorted) in
      own_sorted own (rw is part)

-- ---- one collector's part

module _ (us : List Outlet) where
  abbrev named : List Given → List Assigned
  named gs = map (with_name us) (map (λ g. g.assignment) gs)

  named_above : (n : ℕ) (gs : List Given) → AllByRecursion (λ g. nat_cmp n g.assignment.slot ≡ Less) gs
      → AllByRecursion (λ a. nat_cmp n a.assignment.slot ≡ Less) (named gs)
  named_above n [] all = tt
  named_above n (g ∷ gs) all = (all.0, named_above n gs all.1)

  -- assignments with the names of their outlets are in the order of their slots
  pub named_in_order : (gs : List Given) → IsInOrder nat_cmp (λ g. g.assignment.slot) gs
      → IsInOrder nat_cmp (λ a. a.assignment.slot) (named gs)
  unfolding IsStrictlySortedBy
  named_in_order [] sorted = tt
  named_in_order (g ∷ gs) sorted = (named_above g.assignment.slot gs sorted.0, named_in_order gs sorted.1)

  -- an assignment that has its name keeps it
  named_again : (gs : List Given) → map (with_name us) (map (λ a. a.assignment) (named gs)) ≡ named gs
  named_again [] = refl
  named_again (g ∷ gs) = ap (λ xs. with_name us g.assignment ∷ xs) (named_again gs)

  beside_named : (c : ℕ) (gs : List Given)
      → rows_with_number c (map (λ a. a.assignment) (named gs)) ≡ map without_series (rows_with_number c gs)
  beside_named c [] = refl
  beside_named c (g ∷ gs) = ap (λ xs. (c, g.assignment) ∷ xs) (beside_named c gs)

-- ---- one more collector

abbrev lists_of : List Holder → List (List Assigned)
lists_of hs = map (λ h. h.own.assignments) hs

module _ (us : List Outlet) (bs : List Registration) (gs : List (ℕ × Given)) (qs : List (ℕ × QuoteRow))
    (hs : List Holder)
    (have : HaveRows us bs gs qs hs) (b : Registration) (own_gs : List Given) (own_qs : List QuoteRow) (own : OwnPart)
    (made : own ≡ own_made us own_gs own_qs) (placed : AllByRecursion (HasOutlet us) own.assignments) where
  abbrev one : Holder
  one = record { number = b.number; key = b.key; own = own }

  abbrev lists : lists_of (hs ++ one ∷ []) ≡ lists_of hs ++ own.assignments ∷ []
  lists = map-append (λ (h : Holder). h.own.assignments) hs (one ∷ [])

  abbrev names_of : List Assigned → List Assigned
  names_of xs = map (with_name us) (map (λ a. a.assignment) xs)

  names_own : names_of own.assignments ≡ own.assignments
  names_own = rw made (named_again us own_gs)

  pub have_more : HaveRows us (bs ++ b ∷ []) (gs ++ rows_with_number b.number own_gs)
      (qs ++ rows_with_number b.number own_qs)
      (hs ++ one ∷ [])
  have_more = record {
    collectors = map-append collector_of_holder hs (one ∷ []) ∙ ap (λ xs. xs ++ b ∷ []) have.collectors;
    assignments =
        flat_map-append (λ (h : Holder). rows_with_number h.number (assignments_of h)) hs (one ∷ [])
        ∙ ap (λ xs. all_assignments hs ++ xs) (append-nil (rows_with_number b.number (assignments_of one)))
        ∙ ap (λ (o : OwnPart). all_assignments hs ++ rows_with_number b.number
        (map (λ a. a.assignment) o.assignments)) made
        ∙ ap (λ xs. all_assignments hs ++ xs) (beside_named us b.number own_gs)
        ∙ ap (λ xs. xs ++ map without_series (rows_with_number b.number own_gs)) have.assignments
        ∙ sym (map-append without_series gs (rows_with_number b.number own_gs));
    quotes =
        flat_map-append (λ (h : Holder). rows_with_number h.number (quotes_of h)) hs (one ∷ [])
        ∙ ap (λ xs. quotes_of_holders hs ++ xs) (append-nil (rows_with_number b.number (quotes_of one)))
        ∙ ap (λ (o : OwnPart). quotes_of_holders hs ++ rows_with_number b.number o.quotes) made
        ∙ ap (λ xs. xs ++ rows_with_number b.number own_qs) have.quotes;
    names =
        ap (named_by us) lists
        ∙ map-append names_of (lists_of hs) (own.assignments ∷ [])
        ∙ ap (λ xs. xs ++ names_of own.assignments ∷ []) have.names
        ∙ ap (λ x. lists_of hs ++ x ∷ []) names_own
        ∙ sym lists;
    placed = rw lists (all_behind (AllByRecursion (HasOutlet us)) (lists_of hs) own.assignments have.placed placed);
  }

-- ---- whose a key is

-- what a call ensures of its answer, once the answer is taken
pub ok_found : {T E : Type 0} (P : T → Type 0) (r : Result T E) (x : T) → Some x ≡ result_ok r → IfOk r P → P x
ok_found P (Ok y) x e h = let same : x ≡ y = cc in subst P (sym same) h
ok_found P (Err y) x e h = let no : Some x ≡ None = e in cc

-- whose a key is, after one was put after the others
pub registration_behind : (b : Registration) (bs : List Registration) → registration_of b.key bs ≡ None
    → (key : ℕ) (before after : Option Registration) → before ≡ registration_of key bs
    → after ≡ cond (is_eq (nat_cmp b.key key)) (Some b) before → after ≡ registration_of key (bs ++ b ∷ [])
registration_behind b bs free key before after was is = cases (eqb_tells b.key key)
  where
    cases : ((eqb b.key key ≡ true) × (b.key ≡ key)) ⊎ ((eqb b.key key ≡ false) × (b.key ≢ key))
        → after ≡ registration_of key (bs ++ b ∷ [])
    cases (inl same) =
        let test : is_eq (nat_cmp b.key key) ≡ true = rw (← same.1) (ap is_eq (tied_itself nat_cmp_total b.key)) in
        let none : registration_of key (bs ++ []) ≡ None =
        ap (registration_of key) (append-nil bs) ∙ ap (λ k. registration_of k bs) (sym same.1) ∙ free in
        is ∙ ap (λ t. cond t (Some b) before) test ∙ sym (registration_new key b bs [] same.0 none)
    cases (inr apart) =
        is ∙ ap (λ t. cond t (Some b) before) (different b.key key apart.1) ∙ was
        ∙ sym (registration_passed key b bs [] apart.0 ∙ ap (registration_of key) (append-nil bs))

-- ---- the order of the collectors

numbers_above : (n : ℕ) (hs : List Holder) → AllByRecursion (λ b. nat_cmp n b.number ≡ Less) (collectors_of hs)
    → AllByRecursion (λ h. nat_cmp n h.number ≡ Less) hs
numbers_above n [] all = tt
numbers_above n (h ∷ hs) all = (all.0, numbers_above n hs all.1)

-- holders are in the order of their collectors
pub holders_in_order : (hs : List Holder) → IsInOrder nat_cmp (λ b. b.number) (collectors_of hs)
    → IsInOrder nat_cmp (λ h. h.number) hs
unfolding IsStrictlySortedBy
holders_in_order [] sorted = tt
holders_in_order (h ∷ hs) sorted = (numbers_above h.number hs sorted.0, holders_in_order hs sorted.1)
