-- The lists of all after a holder who has nothing was added.
use Rattle.std.proofs.Common.{◌≡◌, ◌≢◌, ℕ, Bool, true, false, eqb, List, [], ◌∷◌, ◌++◌, map, Some, None, Option, refl}
use Rattle.std.proofs.Common.{sym, ap, ◌∙◌, inl, inr}
use Rattle.std.specs.Prelude.{cond, filter, ◌⊎◌, option_map}
use Rattle.std.specs.Ordering.{nat_cmp, is_lt, is_gt, is_eq}
use Rattle.std.specs.declared.cmp.Ordering.TheVariants.{Less}
use Rattle.std.specs.List.Sorted.{IsStrictlySortedBy}
use Rattle.std.specs.List.{AllByRecursion}
use Rattle.std.proofs.lemmas.Cmp.{nat_cmp_total, tied_itself}
use Rattle.std.proofs.lemmas.Bool.Decides.{eqb_tells}
use Rattle.cpi_rows.specs.Keyed.{row_by_number, put_by, IsInOrder}
use Rattle.cpi_rows.proofs.Puts.{parted, map_put, different}
use Rattle.cpi_rows.proofs.Found.{at_map}
use Rattle.cpi_rows.proofs.Lists.{flat_map_passes}
use Rattle.cpi_survey.specs.declared.assignment.Assigned.{Assigned}
use Rattle.cpi_store.specs.declared.registration.Registration.{Registration}
use Rattle.cpi_store.specs.declared.outlet.Outlet.{Outlet}
use Rattle.cpi_store.specs.declared.holder.Holder.{Holder}
use Rattle.cpi_store.specs.declared.taken_over.TakenOver.{TakenOver}
use Rattle.cpi_release.specs.declared.release.Release.{Release}
use Rattle.cpi_store.specs.Registration.{registration_of}
use Rattle.cpi_store.specs.Holders.{collectors_of, collector_of_holder, all_assignments, quotes_of_holders}
use Rattle.cpi_store.specs.Holders.{assignments_of}
use Rattle.cpi_store.specs.Holders.{quotes_of, named_by, ArePlaced, office_of}
use Rattle.cpi_store.specs.Office.{office_with, Registers}
use Rattle.cpi_survey.specs.Own.{OwnPart}
use Rattle.cpi_survey.specs.Public.{PublicPart}

abbrev number : Registration → ℕ
number b = b.number

abbrev own_assignments : Holder → List Assigned
own_assignments h = h.own.assignments

-- ---- whose a key is, after one was added

pub registration_new : (key : ℕ) (b : Registration) (xs ys : List Registration) → eqb b.key key ≡ true →
    registration_of key (xs ++ ys) ≡ None → registration_of key (xs ++ b ∷ ys) ≡ Some b
registration_new key b [] ys e none = rw e refl
registration_new key b (x ∷ xs) ys e none = cases (eqb x.key key) refl (registration_new key b xs ys e)
  where
    cases : (s : Bool) → eqb x.key key ≡ s → (registration_of key (xs ++ ys) ≡ None →
        registration_of key (xs ++ b ∷ ys) ≡
        Some b) →
        registration_of key (x ∷ xs ++ b ∷ ys) ≡ Some b
    cases true f rest = let no : Some x ≡ None = rw f at none in cc
    cases false f rest = rw f (rest (rw f at none))

pub registration_passed : (key : ℕ) (b : Registration) (xs ys : List Registration) → eqb b.key key ≡ false →
    registration_of key (xs ++ b ∷ ys) ≡ registration_of key (xs ++ ys)
registration_passed key b [] ys e = rw e refl
registration_passed key b (x ∷ xs) ys e = cases (eqb x.key key) refl (registration_passed key b xs ys e)
  where
    cases : (s : Bool) → eqb x.key key ≡ s → registration_of key (xs ++ b ∷ ys) ≡ registration_of key (xs ++ ys) →
        registration_of key (x ∷ xs ++ b ∷ ys) ≡ registration_of key (x ∷ xs ++ ys)
    cases true f rest = rw f refl
    cases false f rest = rw f rest

module _ (b : Registration) (bs : List Registration) (sorted : IsInOrder nat_cmp number bs)
    (none : row_by_number number b.number bs ≡ None) where
  abbrev all_others : filter (λ r. is_lt (nat_cmp r.number b.number)) bs
      ++ filter (λ r. is_gt (nat_cmp r.number b.number)) bs ≡ bs
  all_others = parted nat_cmp_total number b.number bs sorted none

  pub registration_put_own : (key : ℕ) → eqb b.key key ≡ true → registration_of key bs ≡ None →
      registration_of key (put_by number b bs) ≡ Some b
  registration_put_own key e free = registration_new key b _ _ e (ap (registration_of key) all_others ∙ free)

  pub registration_put_other : (key : ℕ) → eqb b.key key ≡ false → registration_of key (put_by number b bs) ≡
      registration_of key bs
  registration_put_other key e = registration_passed key b _ _ e ∙ ap (registration_of key) all_others

  -- a map from key to registration goes along
  pub registration_added : registration_of b.key bs ≡ None → (key : ℕ) (before after : Option Registration) →
      before ≡ registration_of key bs → after ≡ cond (is_eq (nat_cmp b.key key)) (Some b) before →
      after ≡ registration_of key (put_by number b bs)
  registration_added free key before after was is = cases (eqb_tells b.key key)
    where
      cases : ((eqb b.key key ≡ true) × (b.key ≡ key)) ⊎ ((eqb b.key key ≡ false) × (b.key ≢ key)) →
          after ≡ registration_of key (put_by number b bs)
      cases (inl same) =
          let test : is_eq (nat_cmp b.key key) ≡ true = rw (← same.1) (ap is_eq (tied_itself nat_cmp_total b.key)) in
          is ∙ ap (λ t. cond t (Some b) before) test ∙ sym
          (registration_put_own key same.0 (ap (λ k. registration_of k bs) (sym same.1) ∙ free))
      cases (inr apart) = is ∙ ap (λ t. cond t (Some b) before) (different b.key key apart.1) ∙ was
          ∙ sym (registration_put_other key apart.0)

-- ---- what the holders have, after one was added

all_more : {X Y : Type 0} (P : Y → Type 0) (f : X → Y) (h : X) (xs ys : List X) → P (f h) →
    AllByRecursion P (map f (xs ++ ys)) → AllByRecursion P (map f (xs ++ h ∷ ys))
all_more P f h [] ys here all = (here, all)
all_more P f h (x ∷ xs) ys here all = (all.0, all_more P f h xs ys here all.1)

fixed_more : {X Y : Type 0} (g : Y → Y) (f : X → Y) (h : X) (xs ys : List X) → g (f h) ≡ f h →
    map g (map f (xs ++ ys)) ≡ map f (xs ++ ys) → map g (map f (xs ++ h ∷ ys)) ≡ map f (xs ++ h ∷ ys)
fixed_more g f h [] ys here all = ap (λ y. y ∷ map g (map f ys)) here ∙ ap (λ zs. f h ∷ zs) all
fixed_more g f h (x ∷ xs) ys here all =
    let first : g (f x) ≡ f x = cc in
    let rest : map g (map f (xs ++ ys)) ≡ map f (xs ++ ys) = cc in
    ap (λ y. y ∷ map g (map f (xs ++ h ∷ ys))) first ∙ ap (λ zs. f x ∷ zs) (fixed_more g f h xs ys here rest)

-- a number that no collector has, no holder has
pub no_holder : (n : ℕ) (hs : List Holder) → row_by_number number n (collectors_of hs) ≡ None →
    row_by_number (λ (h : Holder). h.number) n hs ≡ None
no_holder n hs none = cases (row_by_number (λ (h : Holder). h.number) n hs) refl
    (sym (at_map collector_of_holder number n hs) ∙ none)
  where
    cases : (w : Option Holder) → row_by_number (λ (h : Holder). h.number) n hs ≡ w →
        option_map collector_of_holder (row_by_number (λ (h : Holder). h.number) n hs) ≡ None →
        row_by_number (λ (h : Holder). h.number) n hs ≡ None
    cases None e f = e
    cases (Some h) e f = let no : Some (collector_of_holder h) ≡ None = rw e at f in cc

all_above : (n : ℕ) (hs : List Holder) → AllByRecursion (λ h. nat_cmp n h.number ≡ Less) hs →
    AllByRecursion (λ b. nat_cmp n b.number ≡ Less) (collectors_of hs)
all_above n [] all = tt
all_above n (h ∷ hs) all = (all.0, all_above n hs all.1)

-- the collectors are in the order of the holders
pub collectors_in_order : (hs : List Holder) → IsInOrder nat_cmp (λ h. h.number) hs →
    IsInOrder nat_cmp number (collectors_of hs)
unfolding IsStrictlySortedBy
collectors_in_order [] sorted = tt
collectors_in_order (h ∷ hs) sorted = (all_above h.number hs sorted.0, collectors_in_order hs sorted.1)

module _ (h : Holder) (hs : List Holder) (sorted : IsInOrder nat_cmp (λ h. h.number) hs)
    (none : row_by_number (λ (h : Holder). h.number) h.number hs ≡ None) where
  abbrev after : List Holder
  after = put_by (λ (h : Holder). h.number) h hs

  abbrev below : List Holder
  below = filter (λ (r : Holder). is_lt (nat_cmp r.number h.number)) hs

  abbrev above : List Holder
  above = filter (λ (r : Holder). is_gt (nat_cmp r.number h.number)) hs

  abbrev others : below ++ above ≡ hs
  others = parted nat_cmp_total (λ (h : Holder). h.number) h.number hs sorted none

  pub collectors_added : collectors_of after ≡ put_by number (collector_of_holder h) (collectors_of hs)
  collectors_added = map_put nat_cmp number collector_of_holder h hs

  module _ (no_assignments : h.own.assignments ≡ []) where
    pub assignments_added : all_assignments after ≡ all_assignments hs
    assignments_added =
        flat_map_passes (λ (g : Holder). map (λ x. (g.number, x)) (assignments_of g)) h below above
        (ap (λ ws. map (λ x. (h.number, x)) (map (λ a. a.assignment) ws)) no_assignments)
        ∙ ap all_assignments others

    pub placed_added : (us : List Outlet) → ArePlaced us (map own_assignments hs) →
        ArePlaced us (map own_assignments after)
    placed_added us all = all_more _ own_assignments h below above (rw no_assignments tt) (rw others all)

    pub names_added : (us : List Outlet) → named_by us (map own_assignments hs) ≡ map own_assignments hs →
        named_by us (map own_assignments after) ≡ map own_assignments after
    names_added us all = fixed_more _ own_assignments h below above (rw no_assignments refl) (rw others all)

  pub quotes_added : h.own.quotes ≡ [] → quotes_of_holders after ≡ quotes_of_holders hs
  quotes_added no_quotes = flat_map_passes (λ (g : Holder). map (λ x. (g.number, x)) (quotes_of g)) h below above
      (ap (λ ws. map (λ x. (h.number, x)) ws) no_quotes) ∙ ap quotes_of_holders others

  pub office_added : h.own ≡ record { assignments = []; quotes = [] } →
      (public : PublicPart) (us : List Outlet) (rs : List Release) (taken : List TakenOver) →
      office_of public us rs taken after ≡ office_with (Registers (collector_of_holder h))
      (office_of public us rs taken hs)
  office_added nothing public us rs taken = rw (
    collectors_added,
    assignments_added (ap (λ (o : OwnPart). o.assignments) nothing),
    quotes_added (ap (λ (o : OwnPart). o.quotes) nothing),
  ) refl
