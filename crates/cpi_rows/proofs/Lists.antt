-- What holds of each row of a list holds of each row after the list changes; and what follows from a call's result.
use Rattle.std.proofs.Common.{◌≡◌, Bool, true, false, List, [], ◌∷◌, ◌++◌, Ok, Err, refl, ap}
use Rattle.std.specs.Prelude.{filter, OnErr, OnOk, Result}
use Rattle.std.specs.declared.cmp.Ordering.{Ordering}
use Rattle.std.specs.Ordering.{is_lt, is_gt}
use Rattle.std.specs.List.{AllByRecursion, flat_map}
use Rattle.cpi_rows.specs.Keyed.{with_row}

-- ---- what holds of each row

pub all_weaker : {X : Type 0} (P Q : X → Type 0) → ((x : X) → P x → Q x) → (xs : List X) → AllByRecursion P xs →
    AllByRecursion Q xs
all_weaker P Q f [] all = tt
all_weaker P Q f (x ∷ xs) all = (f x all.0, all_weaker P Q f xs all.1)

pub all_filtered : {X : Type 0} (P : X → Type 0) (p : X → Bool) (xs : List X) → AllByRecursion P xs →
    AllByRecursion P (filter p xs)
all_filtered P p [] all = tt
all_filtered P p (x ∷ xs) all = cases (p x) refl (all_filtered P p xs all.1)
  where
    cases : (s : Bool) → p x ≡ s → AllByRecursion P (filter p xs) → AllByRecursion P (filter p (x ∷ xs))
    cases true e rest = rw e (all.0, rest)
    cases false e rest = rw e rest

pub all_joined : {X : Type 0} (P : X → Type 0) (xs ys : List X) → AllByRecursion P xs → AllByRecursion P ys →
    AllByRecursion P (xs ++ ys)
all_joined P [] ys front back = back
all_joined P (x ∷ xs) ys front back = (front.0, all_joined P xs ys front.1 back)

pub all_behind : {X : Type 0} (P : X → Type 0) (xs : List X) (x : X) → AllByRecursion P xs → P x →
    AllByRecursion P (xs ++ x ∷ [])
all_behind P xs x all here = all_joined P xs (x ∷ []) all (here, tt)

-- a row that is put into rows in order replaces the row with its key, or is added
pub all_put : {X K : Type 0} (P : X → Type 0) (cmp : K → K → Ordering) (key : X → K) (row : X) (rows : List X) → P row →
    AllByRecursion P rows → AllByRecursion P (with_row cmp key row rows)
all_put P cmp key row rows here all =
    all_joined P _ _ (all_filtered P (λ r. is_lt (cmp (key r) (key row))) rows all)
    (here, all_filtered P (λ r. is_gt (cmp (key r) (key row))) rows all)

-- ---- what rows give

-- a row that gives nothing adds nothing
pub flat_map_passes : {X Y : Type 0} (f : X → List Y) (x : X) (xs ys : List X) → f x ≡ [] →
    flat_map f (xs ++ x ∷ ys) ≡ flat_map f (xs ++ ys)
flat_map_passes f x [] ys none = ap (λ vs. vs ++ flat_map f ys) none
flat_map_passes f x (y ∷ xs) ys none = ap (λ vs. f y ++ vs) (flat_map_passes f x xs ys none)

-- ---- what follows from a result

-- what follows from an Ok and from an Err holds
pub of_result : {T E A B G : Type 0} (result : Result T E) → OnOk result A → OnErr result B → (A → G) → (B → G) → G
of_result (Ok t) ok err f g = f ok
of_result (Err e) ok err f g = g err
