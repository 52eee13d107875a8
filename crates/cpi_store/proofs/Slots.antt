-- Rows of many holders by slot: what holds of each row, and of any two.
use Rattle.std.proofs.Common.{◌≡◌, ◌≢◌, ℕ, Bool, true, false, eqb, List, [], ◌∷◌, Some, None, refl, sym, ap, ◌∙◌, subst}
use Rattle.std.proofs.Common.{inl, inr}
use Rattle.std.specs.Prelude.{◌⊎◌}
use Rattle.std.specs.declared.cmp.Ordering.{Ordering}
use Rattle.std.specs.declared.cmp.Ordering.TheVariants.{Less, Equal, Greater}
use Rattle.std.specs.Ordering.{nat_cmp, ordering_then, is_eq}
use Rattle.std.specs.List.{AllByRecursion}
use Rattle.std.specs.List.Sorted.{IsStrictlySortedBy}
use Rattle.std.proofs.lemmas.Bool.Decides.{eqb_tells}
use Rattle.std.proofs.lemmas.Cmp.{nat_cmp_total, tied_itself, ranked}
use Rattle.cpi_rows.specs.Keyed.{IsInOrder, row_by_number, row_at}
use Rattle.cpi_rows.specs.Held.{held_by, held_cmp, held_key}
use Rattle.cpi_store.specs.Sound.{AllPairs}

module _ {X K : Type 0} (cmp : K → K → Ordering) (key : X → K) where
  -- what is found is the first row, or is found after it
  pub found_more : (c : ℕ) (k : K) (x : X) (r : ℕ × X) (rows : List (ℕ × X)) →
      row_at cmp key k (held_by c (r ∷ rows)) ≡ Some x → ((r.0 ≡ c) × (r.1 ≡ x))
      ⊎ (row_at cmp key k (held_by c rows) ≡ Some x)
  found_more c k x r rows found = cases (eqb_tells r.0 c)
    where
      of_this_row : r.0 ≡ c → eqb r.0 c ≡ true → (w : Bool) → is_eq (cmp (key r.1) k) ≡ w → ((r.0 ≡ c) × (r.1 ≡ x))
          ⊎ (row_at cmp key k (held_by c rows) ≡ Some x)
      of_this_row same t true e =
          let here : Some r.1 ≡ Some x = rw (t, e) at found in
          let is : r.1 ≡ x = cc in
          inl (same, is)
      of_this_row same t false e = inr (rw (t, e) at found)

      cases : ((eqb r.0 c ≡ true) × (r.0 ≡ c)) ⊎ ((eqb r.0 c ≡ false) × (r.0 ≢ c)) → ((r.0 ≡ c) × (r.1 ≡ x))
          ⊎ (row_at cmp key k (held_by c rows) ≡ Some x)
      cases (inl same) = of_this_row same.1 same.0 (is_eq (cmp (key r.1) k)) refl
      cases (inr apart) = inr (rw apart.0 at found)

  pub all_of_held : (P : ℕ × X → Type 0) (c : ℕ) (k : K) (x : X) (rows : List (ℕ × X)) → AllByRecursion P rows →
      row_at cmp key k (held_by c rows) ≡ Some x → P (c, x)
  all_of_held P c k x [] all found = let no : None ≡ Some x = found in cc
  all_of_held P c k x (r ∷ rows) all found = cases (found_more c k x r rows found) (all_of_held P c k x rows all.1)
    where
      cases : ((r.0 ≡ c) × (r.1 ≡ x)) ⊎ (row_at cmp key k (held_by c rows) ≡ Some x) →
          (row_at cmp key k (held_by c rows) ≡ Some x → P (c, x)) → P (c, x)
      cases (inl here) rest = subst (λ n. P (n, x)) here.0 (subst (λ y. P (r.0, y)) here.1 all.0)
      cases (inr later) rest = rest later

-- a row that is found among a holder's rows is found among all
pub row_held : {X K : Type 0} (cmp : K → K → Ordering) (key : X → K) (n : ℕ) (k : K) (x : X) (rows : List (ℕ × X)) →
    row_at cmp key k (held_by n rows) ≡ Some x → row_at (held_cmp cmp) (held_key key) (n, k) rows ≡ Some (n, x)
row_held cmp key n k x [] found = let no : None ≡ Some x = found in cc
row_held cmp key n k x (r ∷ rows) found = cases (eqb_tells r.0 n) (row_held cmp key n k x rows)
  where
    level : r.0 ≡ n → ordering_then (nat_cmp r.0 n) (cmp (key r.1) k) ≡ cmp (key r.1) k
    level same = rw (same, tied_itself nat_cmp_total n) refl

    other : (s : Ordering) → nat_cmp r.0 n ≡ s → r.0 ≢ n →
        is_eq (ordering_then (nat_cmp r.0 n) (cmp (key r.1) k)) ≡ false
    other Less e apart = rw e refl
    other Equal e apart = absurd (apart (ranked r.0 n Equal (sym e)))
    other Greater e apart = rw e refl

    of_this_row : (s : Bool) → is_eq (cmp (key r.1) k) ≡ s → eqb r.0 n ≡ true → r.0 ≡ n →
        (row_at cmp key k (held_by n rows) ≡ Some x → row_at (held_cmp cmp) (held_key key) (n, k) rows ≡ Some (n, x))
        → row_at (held_cmp cmp) (held_key key) (n, k) (r ∷ rows) ≡ Some (n, x)
    of_this_row true e f same rest =
        let here : Some r.1 ≡ Some x = rw (f, e) at found in
        let is : r.1 ≡ x = cc in
        rw (level same, e) (ap Some (rw (same, is) refl))
    of_this_row false e f same rest = rw (level same, e) (rest (rw (f, e) at found))

    cases : ((eqb r.0 n ≡ true) × (r.0 ≡ n)) ⊎ ((eqb r.0 n ≡ false) × (r.0 ≢ n)) →
        (row_at cmp key k (held_by n rows) ≡ Some x → row_at (held_cmp cmp) (held_key key) (n, k) rows ≡ Some (n, x))
        → row_at (held_cmp cmp) (held_key key) (n, k) (r ∷ rows) ≡ Some (n, x)
    cases (inl same) rest = of_this_row (is_eq (cmp (key r.1) k)) refl same.0 same.1 rest
    cases (inr apart) rest = rw (other (nat_cmp r.0 n) refl apart.1) (rest (rw apart.0 at found))

module _ {X : Type 0} (key : X → ℕ) where
  later_found : (r : ℕ × X) (rows all : List (ℕ × X)) →
      AllByRecursion (λ s. held_cmp nat_cmp (held_key key r) (held_key key s) ≡ Less) rows →
      AllByRecursion (λ (s : ℕ × X). row_by_number key (key s.1) (held_by s.0 all) ≡ Some s.1) rows →
      AllByRecursion (λ (s : ℕ × X). row_by_number key (key s.1) (held_by s.0 (r ∷ all)) ≡ Some s.1) rows
  later_found r [] all below found = tt
  later_found r (s ∷ rows) all below found = (cases (eqb_tells r.0 s.0), later_found r rows all below.1 found.1)
    where
      cases : ((eqb r.0 s.0 ≡ true) × (r.0 ≡ s.0)) ⊎ ((eqb r.0 s.0 ≡ false) × (r.0 ≢ s.0)) →
          row_by_number key (key s.1) (held_by s.0 (r ∷ all)) ≡ Some s.1
      cases (inl same) =
          let less : nat_cmp (key r.1) (key s.1) ≡ Less =
          sym (ap (λ w. ordering_then w (nat_cmp (key r.1) (key s.1)))
          (ap (λ n. nat_cmp r.0 n) (sym same.1) ∙ tied_itself nat_cmp_total r.0)) ∙ below.0 in
          rw (same.0, ap is_eq less) found.0
      cases (inr apart) = rw apart.0 found.0

  -- each row is the one in its slot
  pub each_found : (rows : List (ℕ × X)) → IsInOrder (held_cmp nat_cmp) (held_key key) rows →
      AllByRecursion (λ (s : ℕ × X). row_by_number key (key s.1) (held_by s.0 rows) ≡ Some s.1) rows
  unfolding IsStrictlySortedBy
  each_found [] sorted = tt
  each_found (r ∷ rows) sorted = (here, later_found r rows rows sorted.0 (each_found rows sorted.1))
    where
      here : row_by_number key (key r.1) (held_by r.0 (r ∷ rows)) ≡ Some r.1
      here = cases (eqb_tells r.0 r.0)
        where
          cases : ((eqb r.0 r.0 ≡ true) × (r.0 ≡ r.0)) ⊎ ((eqb r.0 r.0 ≡ false) × (r.0 ≢ r.0)) →
              row_by_number key (key r.1) (held_by r.0 (r ∷ rows)) ≡ Some r.1
          cases (inl same) = rw (same.0, ap is_eq (tied_itself nat_cmp_total (key r.1))) refl
          cases (inr apart) = absurd (apart.1 refl)

  -- ---- what holds of each row holds of what is found, and the other way round

  pub all_of_found : (P : ℕ × X → Type 0) (c k : ℕ) (x : X) (rows : List (ℕ × X)) → AllByRecursion P rows →
      row_by_number key k (held_by c rows) ≡ Some x → P (c, x)
  all_of_found P c k x rows all found = all_of_held nat_cmp key P c k x rows all found

  all_from_each : (P : ℕ × X → Type 0) (all rows : List (ℕ × X)) →
      AllByRecursion (λ (s : ℕ × X). row_by_number key (key s.1) (held_by s.0 all) ≡ Some s.1) rows →
      ((c : ℕ) (x : X) → row_by_number key (key x) (held_by c all) ≡ Some x → P (c, x)) → AllByRecursion P rows
  all_from_each P all [] each f = tt
  all_from_each P all (r ∷ rows) each f = (f r.0 r.1 each.0, all_from_each P all rows each.1 f)

  pub all_from_found : (P : ℕ × X → Type 0) (rows : List (ℕ × X)) → IsInOrder (held_cmp nat_cmp) (held_key key) rows →
      ((c : ℕ) (x : X) → row_by_number key (key x) (held_by c rows) ≡ Some x → P (c, x)) → AllByRecursion P rows
  all_from_found P rows sorted f = all_from_each P rows rows (each_found rows sorted) f

  -- ---- the same of whatever two, in slots that are not one

  abbrev pub AreTwo : ℕ × X → ℕ × X → Type 0
  AreTwo a b = (a.0 ≡ b.0) × (key a.1 ≡ key b.1) → ⊥

  pub pairs_of_found : (P : ℕ × X → ℕ × X → Type 0) → ((a b : ℕ × X) → P a b → P b a) → (rows : List (ℕ × X)) →
      AllPairs P rows →
      (c k : ℕ) (x : X) → row_by_number key k (held_by c rows) ≡ Some x → (d l : ℕ) (y : X) →
      row_by_number key l (held_by d rows) ≡ Some y → AreTwo (c, x) (d, y) → P (c, x) (d, y)
  pairs_of_found P turned [] all c k x found d l y other two = let no : None ≡ Some x = found in cc
  pairs_of_found P turned (r ∷ rows) all c k x found d l y other two =
      cases (found_more nat_cmp key c k x r rows found) (found_more nat_cmp key d l y r rows other)
      (pairs_of_found P turned rows all.1 c k x)
    where
      cases : ((r.0 ≡ c) × (r.1 ≡ x)) ⊎ (row_by_number key k (held_by c rows) ≡ Some x) → ((r.0 ≡ d) × (r.1 ≡ y))
          ⊎ (row_by_number key l (held_by d rows) ≡ Some y) →
          (row_by_number key k (held_by c rows) ≡ Some x → (d l : ℕ) (y : X) → row_by_number key l (held_by d rows)
          ≡ Some y →
          AreTwo (c, x) (d, y) → P (c, x) (d, y)) → P (c, x) (d, y)
      cases (inl here) (inl there) rest = absurd (two (sym here.0 ∙ there.0, ap key (sym here.1 ∙ there.1)))
      cases (inl here) (inr later) rest =
          subst (λ n. P (n, x) (d, y)) here.0 (subst (λ z. P (r.0, z) (d, y)) here.1
          (all_of_found (P r) d l y rows all.0 later))
      cases (inr later) (inl there) rest =
          turned (d, y) (c, x) (subst (λ n. P (n, y) (c, x)) there.0
          (subst (λ z. P (r.0, z) (c, x)) there.1 (all_of_found (P r) c k x rows all.0 later)))
      cases (inr later) (inr after) rest = rest later d l y after two

  -- a row below another is another
  below_two : (r s : ℕ × X) → held_cmp nat_cmp (held_key key r) (held_key key s) ≡ Less → AreTwo r s
  below_two r s less same =
      let level : nat_cmp r.0 s.0 ≡ Equal = ap (λ n. nat_cmp n s.0) same.0 ∙ tied_itself nat_cmp_total s.0 in
      let equal : nat_cmp (key r.1) (key s.1) ≡ Equal = ap (λ n. nat_cmp n (key s.1)) same.1
      ∙ tied_itself nat_cmp_total (key s.1) in
      let no : Equal ≡ Less = sym equal ∙ ap (λ w. ordering_then w (nat_cmp (key r.1) (key s.1))) (sym level) ∙ less in
      cc

  all_above : (P : ℕ × X → Type 0) (all : List (ℕ × X)) (r : ℕ × X) (rows : List (ℕ × X)) →
      AllByRecursion (λ s. held_cmp nat_cmp (held_key key r) (held_key key s) ≡ Less) rows →
      AllByRecursion (λ (s : ℕ × X). row_by_number key (key s.1) (held_by s.0 all) ≡ Some s.1) rows →
      ((s : ℕ × X) → row_by_number key (key s.1) (held_by s.0 all) ≡ Some s.1 → AreTwo r s → P s) →
      AllByRecursion P rows
  all_above P all r [] below each f = tt
  all_above P all r (s ∷ rows) below each f = (
    f s each.0 (below_two r s below.0),
    all_above P all r rows below.1 each.1 f,
  )

  pairs_from_each : (P : ℕ × X → ℕ × X → Type 0) (all rows : List (ℕ × X)) →
      IsInOrder (held_cmp nat_cmp) (held_key key) rows →
      AllByRecursion (λ (s : ℕ × X). row_by_number key (key s.1) (held_by s.0 all) ≡ Some s.1) rows →
      ((a b : ℕ × X) → row_by_number key (key a.1) (held_by a.0 all) ≡ Some a.1 → row_by_number key (key b.1)
      (held_by b.0 all) ≡ Some b.1 →
      AreTwo a b → P a b) → AllPairs P rows
  unfolding IsStrictlySortedBy
  pairs_from_each P all [] sorted each f = tt
  pairs_from_each P all (r ∷ rows) sorted each f = (
    all_above (P r) all r rows sorted.0 each.1 (λ s found two. f r s each.0 found two),
    pairs_from_each P all rows sorted.1 each.1 f,
  )

  pub pairs_from_found : (P : ℕ × X → ℕ × X → Type 0) (rows : List (ℕ × X)) →
      IsInOrder (held_cmp nat_cmp) (held_key key) rows →
      ((a b : ℕ × X) → row_by_number key (key a.1) (held_by a.0 rows) ≡ Some a.1 →
      row_by_number key (key b.1) (held_by b.0 rows) ≡ Some b.1 → AreTwo a b → P a b) → AllPairs P rows
  pairs_from_found P rows sorted f = pairs_from_each P rows rows sorted (each_found rows sorted) f

-- ---- one holder's rows are in order

module _ {X K : Type 0} (cmp : K → K → Ordering) (key : X → K) where
  held_above : (n : ℕ) (r : ℕ × X) (rows : List (ℕ × X)) → r.0 ≡ n →
      AllByRecursion (λ s. held_cmp cmp (held_key key r) (held_key key s) ≡ Less) rows →
      AllByRecursion (λ x. cmp (key r.1) (key x) ≡ Less) (held_by n rows)
  held_above n r [] same all = tt
  held_above n r (s ∷ rows) same all = cases (eqb_tells s.0 n) (held_above n r rows same all.1)
    where
      cases : ((eqb s.0 n ≡ true) × (s.0 ≡ n)) ⊎ ((eqb s.0 n ≡ false) × (s.0 ≢ n)) →
          AllByRecursion (λ x. cmp (key r.1) (key x) ≡ Less) (held_by n rows) →
          AllByRecursion (λ x. cmp (key r.1) (key x) ≡ Less) (held_by n (s ∷ rows))
      cases (inl here) rest = rw here.0 (rw (same, here.1, tied_itself nat_cmp_total n) at all.0, rest)
      cases (inr apart) rest = rw apart.0 rest

  pub held_in_order : (n : ℕ) (rows : List (ℕ × X)) → IsInOrder (held_cmp cmp) (held_key key) rows →
      IsInOrder cmp key (held_by n rows)
  unfolding IsStrictlySortedBy
  held_in_order n [] sorted = tt
  held_in_order n (r ∷ rows) sorted = cases (eqb_tells r.0 n) (held_in_order n rows sorted.1)
    where
      cases : ((eqb r.0 n ≡ true) × (r.0 ≡ n)) ⊎ ((eqb r.0 n ≡ false) × (r.0 ≢ n)) →
          IsInOrder cmp key (held_by n rows) →
          IsInOrder cmp key (held_by n (r ∷ rows))
      cases (inl same) rest = rw same.0 (held_above n r rows same.1 sorted.0, rest)
      cases (inr apart) rest = rw apart.0 rest
