-- What putting a row among rows in order does to a filter, a map and a search.
use Rattle.std.proofs.Common.{◌≡◌, ◌≢◌, ℕ, Bool, true, false, List, [], ◌∷◌, ◌++◌, map, Some, None, Option, refl, sym}
use Rattle.std.proofs.Common.{ap, ◌∙◌, subst}
use Rattle.std.specs.Prelude.{if◌then◌else◌, filter, IsSome}
use Rattle.std.specs.declared.cmp.Ordering.{Ordering}
use Rattle.std.specs.declared.cmp.Ordering.TheVariants.{Less, Equal, Greater}
use Rattle.std.specs.Ordering.{nat_cmp, is_lt, is_gt, is_eq, ordering_reverse}
use Rattle.std.specs.Cmp.{IsTotalOrder}
use Rattle.std.specs.List.{AllByRecursion}
use Rattle.std.proofs.lemmas.Bool.{false≢true}
use Rattle.std.proofs.lemmas.Cmp.{alike_right, nat_cmp_total, tied_itself}
use Rattle.std.proofs.lemmas.List.Elements.{filter-append}
use Rattle.std.proofs.lemmas.List.{map-append}
use Rattle.std.proofs.lemmas.Map.Keys.{sorted_head, sorted_tail}
use Rattle.cpi_rows.specs.Keyed.{with_row, row_at, IsInOrder, row_by_number, put_by}
pub use Rattle.cpi_rows.proofs.Places.{parted}
pub use Rattle.cpi_rows.proofs.Truth.{different}

-- two filters in either order
filter_filter : {X : Type 0} (p q : X → Bool) (xs : List X) → filter p (filter q xs) ≡ filter q (filter p xs)
filter_filter p q [] = refl
filter_filter p q (x ∷ xs) = cases (p x) (q x) refl refl (filter_filter p q xs)
  where
    cases : (s t : Bool) → p x ≡ s → q x ≡ t → filter p (filter q xs) ≡ filter q (filter p xs) →
        filter p (filter q (x ∷ xs)) ≡ filter q (filter p (x ∷ xs))
    cases true true e f rest = rw (e, f, e) (ap (λ ys. x ∷ ys) rest)
    cases true false e f rest = rw (e, f) rest
    cases false true e f rest = rw (e, f, e) rest
    cases false false e f rest = rw (e, f) rest

-- a filter by what a map gives
map_filter : {X Y : Type 0} (f : X → Y) (p : Y → Bool) (xs : List X) →
    map f (filter (λ x. p (f x)) xs) ≡ filter p (map f xs)
map_filter f p [] = refl
map_filter f p (x ∷ xs) = cases (p (f x)) refl (map_filter f p xs)
  where
    cases : (s : Bool) → p (f x) ≡ s → map f (filter (λ x. p (f x)) xs) ≡ filter p (map f xs) →
        map f (filter (λ x. p (f x)) (x ∷ xs)) ≡ filter p (map f (x ∷ xs))
    cases true e rest = rw e (ap (λ ys. f x ∷ ys) rest)
    cases false e rest = rw e rest

filter_head : {X : Type 0} (p : X → Bool) (x : X) (xs : List X) → p x ≡ true → filter p (x ∷ xs) ≡ x ∷ filter p xs
filter_head p x xs e = rw e refl

filter_skip : {X : Type 0} (p : X → Bool) (x : X) (xs : List X) → p x ≡ false → filter p (x ∷ xs) ≡ filter p xs
filter_skip p x xs e = rw e refl

module _ {X K : Type 0} (cmp : K → K → Ordering) (key : X → K) (p : X → Bool) (row : X) (rows : List X) where
  abbrev below : X → Bool
  below r = is_lt (cmp (key r) (key row))

  abbrev above : X → Bool
  above r = is_gt (cmp (key r) (key row))

  -- a row that passes a filter is put among the rows that pass
  pub filter_put : p row ≡ true → filter p (with_row cmp key row rows) ≡ with_row cmp key row (filter p rows)
  filter_put e =
      filter-append p (filter below rows) (row ∷ filter above rows)
      ∙ ap (λ ys. filter p (filter below rows) ++ ys) (filter_head p row (filter above rows) e)
      ∙ ap (λ ys. ys ++ row ∷ filter p (filter above rows)) (filter_filter p below rows)
      ∙ ap (λ ys. filter below (filter p rows) ++ row ∷ ys) (filter_filter p above rows)

-- a map that keeps the keys
pub map_put : {X Y K : Type 0} (cmp : K → K → Ordering) (key : Y → K) (f : X → Y) (row : X) (rows : List X) →
    map f (with_row cmp (λ x. key (f x)) row rows) ≡ with_row cmp key (f row) (map f rows)
map_put cmp key f row rows =
    map-append f (filter (λ r. is_lt (cmp (key (f r)) (key (f row)))) rows)
    (row ∷ filter (λ r. is_gt (cmp (key (f r)) (key (f row)))) rows)
    ∙ ap (λ ys. ys ++ f row ∷ map f (filter (λ r. is_gt (cmp (key (f r)) (key (f row)))) rows))
    (map_filter f (λ r. is_lt (cmp (key r) (key (f row)))) rows)
    ∙ ap (λ ys. filter (λ r. is_lt (cmp (key r) (key (f row)))) (map f rows) ++ f row ∷ ys)
    (map_filter f (λ r. is_gt (cmp (key r) (key (f row)))) rows)

module _ {X K : Type 0} {R : K → K → Ordering} (o : IsTotalOrder R) (key : X → K) where
  abbrev c : X → X → Ordering
  c a b = R (key a) (key b)

  -- rows above a key: none is below it, all are above, and none has it
  record AreAbove (k : K) (rows : List X) : Type 0 where
    pub none_below : filter (λ r. is_lt (R (key r) k)) rows ≡ []
    pub all_above : filter (λ r. is_gt (R (key r) k)) rows ≡ rows
    pub none_there : row_at R key k rows ≡ None

  are_above : (k : K) (rows : List X) → AllByRecursion (λ r. R k (key r) ≡ Less) rows → AreAbove k rows
  are_above k [] all = record { none_below = refl; all_above = refl; none_there = refl }
  are_above k (r ∷ rows) all =
      let greater : R (key r) k ≡ Greater = o.antisymm (key r) k ∙ ap ordering_reverse all.0 in
      let rest = are_above k rows all.1 in
      record {
        none_below = rw (ap is_lt greater) rest.none_below;
        all_above = rw (ap is_gt greater) (ap (λ ys. r ∷ ys) rest.all_above);
        none_there = rw (ap is_eq greater) rest.none_there;
      }

  -- what is above a row is above a key that the row is level with or above
  above_level : (k : K) (r : X) (rows : List X) → R (key r) k ≡ Equal → AllByRecursion (λ y. c r y ≡ Less) rows →
      AllByRecursion (λ y. R k (key y) ≡ Less) rows
  above_level k r [] e all = tt
  above_level k r (y ∷ ys) e all = (sym (o.congr (key r) k (key y) e) ∙ all.0, above_level k r ys e all.1)

  above_higher : (k : K) (r : X) (rows : List X) → R (key r) k ≡ Greater → AllByRecursion (λ y. c r y ≡ Less) rows →
      AllByRecursion (λ y. R k (key y) ≡ Less) rows
  above_higher k r [] e all = tt
  above_higher k r (y ∷ ys) e all = (
    o.trans k (key r) (key y) (o.antisymm k (key r) ∙ ap ordering_reverse e) all.0,
    above_higher k r ys e all.1,
  )

  -- a row that is there already is put in place of itself
  pub put_standing : (row : X) (rows : List X) → IsInOrder R key rows → row_at R key (key row) rows ≡ Some row →
      with_row R key row rows ≡ rows
  put_standing row [] sorted there = let no : None ≡ Some row = there in cc
  put_standing row (r ∷ rows) sorted there = cases (R (key r) (key row)) refl there
      (put_standing row rows (sorted_tail c r rows sorted))
    where
      cases : (s : Ordering) → R (key r) (key row) ≡ s → row_at R key (key row) (r ∷ rows) ≡ Some row →
          (row_at R key (key row) rows ≡ Some row → with_row R key row rows ≡ rows) → with_row R key row (r ∷ rows)
          ≡ r ∷ rows
      cases Less e there rest = rw (ap is_lt e, ap is_gt e)
          (ap (λ ys. r ∷ ys) (rest (rw (ap is_eq e) at there)))
      cases Equal e there rest =
          let all = are_above (key row) rows (above_level (key row) r rows e (sorted_head c r rows sorted)) in
          let same : Some r ≡ Some row = rw (ap is_eq e) at there in
          let is : row ≡ r = cc in
          rw (ap is_lt e, ap is_gt e, all.none_below, all.all_above) (ap (λ x. x ∷ rows) is)
      cases Greater e there rest =
          let all = are_above (key row) rows (above_higher (key row) r rows e (sorted_head c r rows sorted)) in
          let no : None ≡ Some row = sym all.none_there ∙ (rw (ap is_eq e) at there) in cc

  -- a new row that does not pass a filter
  pub filter_put_out : (p : X → Bool) (row : X) (rows : List X) → IsInOrder R key rows →
      row_at R key (key row) rows ≡ None → p row ≡ false → filter p (with_row R key row rows) ≡ filter p rows
  filter_put_out p row rows sorted none e =
      let below : X → Bool = λ r. is_lt (R (key r) (key row)) in
      let above : X → Bool = λ r. is_gt (R (key r) (key row)) in
      filter-append p (filter below rows) (row ∷ filter above rows)
      ∙ ap (λ ys. filter p (filter below rows) ++ ys) (filter_skip p row (filter above rows) e)
      ∙ sym (filter-append p (filter below rows) (filter above rows))
      ∙ ap (filter p) (parted o key (key row) rows sorted none)

  -- a later row has another key than the first
  pub first_apart : (k : K) (x y : X) (rows : List X) → IsInOrder R key (x ∷ rows) → row_at R key k rows ≡ Some y →
      is_eq (R (key x) k) ≡ false
  first_apart k x y rows sorted there = cases (R (key x) k) refl
    where
      cases : (s : Ordering) → R (key x) k ≡ s → is_eq (R (key x) k) ≡ false
      cases Less e = ap is_eq e
      cases Equal e =
          let all = are_above k rows (above_level k x rows e (sorted_head c x rows sorted)) in
          let no : None ≡ Some y = sym all.none_there ∙ there in cc
      cases Greater e = ap is_eq e

  passed_over : (k : K) (row : X) (xs ys : List X) → is_eq (R (key row) k) ≡ false →
      row_at R key k (xs ++ row ∷ ys) ≡ row_at R key k (xs ++ ys)
  passed_over k row [] ys e = rw e refl
  passed_over k row (x ∷ xs) ys e = cases (is_eq (R (key x) k)) refl (passed_over k row xs ys e)
    where
      cases : (s : Bool) → is_eq (R (key x) k) ≡ s → row_at R key k (xs ++ row ∷ ys) ≡ row_at R key k (xs ++ ys) →
          row_at R key k (x ∷ xs ++ row ∷ ys) ≡ row_at R key k (x ∷ xs ++ ys)
      cases true f rest = rw f refl
      cases false f rest = rw f rest

  -- a new row leaves each other key's row
  pub row_at_put_other : (k : K) (row : X) (rows : List X) → IsInOrder R key rows →
      row_at R key (key row) rows ≡ None → is_eq (R (key row) k) ≡ false →
      row_at R key k (with_row R key row rows) ≡ row_at R key k rows
  row_at_put_other k row rows sorted none e =
      passed_over k row _ _ e ∙ ap (row_at R key k) (parted o key (key row) rows sorted none)

  -- among rows in order, what is put away from a key leaves that key's row, also where it replaces another
  level_apart : (k k' : K) (r : X) → R (key r) k' ≡ Equal → is_eq (R k' k) ≡ false → is_eq (R (key r) k) ≡ false
  level_apart k k' r e apart = ap is_eq (o.congr (key r) k' k e) ∙ apart

  others_kept : (k k' : K) (rows : List X) → IsInOrder R key rows → is_eq (R k' k) ≡ false →
      row_at R key k (filter (λ r. is_lt (R (key r) k')) rows ++ filter (λ r. is_gt (R (key r) k')) rows) ≡ row_at R
      key k rows
  others_kept k k' [] sorted apart = refl
  others_kept k k' (r ∷ rows) sorted apart = cases (R (key r) k') refl
      (others_kept k k' rows (sorted_tail c r rows sorted) apart)
    where
      Kept : List X → Type 0
      Kept rs = row_at R key k (filter (λ r. is_lt (R (key r) k')) rs ++ filter (λ r. is_gt (R (key r) k')) rs) ≡
          row_at R key k rs

      front : (s : Bool) → is_eq (R (key r) k) ≡ s → Kept rows →
          row_at R key k (r ∷ filter (λ r. is_lt (R (key r) k')) rows ++ filter (λ r. is_gt (R (key r) k')) rows) ≡
          row_at R key k (r ∷ rows)
      front true f rest = rw f refl
      front false f rest = rw f rest

      cases : (s : Ordering) → R (key r) k' ≡ s → row_at R key k
          (filter (λ r. is_lt (R (key r) k')) rows ++ filter (λ r. is_gt (R (key r) k')) rows) ≡ row_at R key k rows →
          row_at R key k (filter (λ r. is_lt (R (key r) k')) (r ∷ rows)
          ++ filter (λ r. is_gt (R (key r) k')) (r ∷ rows)) ≡ row_at R key k (r ∷ rows)
      cases Less e rest = rw (ap is_lt e, ap is_gt e) (front (is_eq (R (key r) k)) refl rest)
      cases Equal e rest = rw (ap is_lt e, ap is_gt e, level_apart k k' r e apart) rest
      cases Greater e rest =
          let all = are_above k' rows (above_higher k' r rows e (sorted_head c r rows sorted)) in
          rw (ap is_lt e, ap is_gt e, all.none_below, all.all_above) refl

  pub row_at_put_apart : (k : K) (row : X) (rows : List X) → IsInOrder R key rows → is_eq (R (key row) k) ≡ false →
      row_at R key k (with_row R key row rows) ≡ row_at R key k rows
  row_at_put_apart k row rows sorted e = passed_over k row _ _ e ∙ others_kept k (key row) rows sorted e

  -- a row above all is put at the end
  pub put_last : (row : X) (rows : List X) → AllByRecursion (λ r. R (key r) (key row) ≡ Less) rows →
      with_row R key row rows ≡ rows ++ row ∷ []
  put_last row [] all = refl
  put_last row (r ∷ rows) all = rw (ap is_lt all.0, ap is_gt all.0) (ap (λ ys. r ∷ ys) (put_last row rows all.1))

  found_after : (k : K) (row : X) (xs ys : List X) → is_eq (R (key row) k) ≡ true →
      row_at R key k (filter (λ r. is_lt (R (key r) k)) xs ++ row ∷ ys) ≡ Some row
  found_after k row [] ys e = rw e refl
  found_after k row (x ∷ xs) ys e = cases (R (key x) k) refl (found_after k row xs ys e)
    where
      cases : (s : Ordering) → R (key x) k ≡ s →
          row_at R key k (filter (λ r. is_lt (R (key r) k)) xs ++ row ∷ ys) ≡ Some
          row → row_at R key k (filter (λ r. is_lt (R (key r) k)) (x ∷ xs) ++ row ∷ ys) ≡ Some row
      cases Less f rest = rw (ap is_lt f, ap is_eq f) rest
      cases Equal f rest = rw (ap is_lt f) rest
      cases Greater f rest = rw (ap is_lt f) rest

  pub row_at_put_same : (row : X) (rows : List X) → row_at R key (key row) (with_row R key row rows) ≡ Some row
  row_at_put_same row rows = found_after (key row) row rows _ (ap is_eq (tied_itself o (key row)))

-- ---- what is found is still found

-- keys that are level are found alike
row_at_level : {X K : Type 0} {R : K → K → Ordering} (o : IsTotalOrder R) (key : X → K) (k k' : K) (rows : List X) →
    R k k' ≡ Equal → row_at R key k rows ≡ row_at R key k' rows
row_at_level o key k k' [] e = refl
row_at_level {R = R} o key k k' (r ∷ rows) e =
    rw (alike_right o k k' (key r) e) (cases (is_eq (R (key r) k')) (row_at_level o key k k' rows e))
  where
    cases : (s : Bool) → row_at R key k rows ≡ row_at R key k' rows →
        (if s then Some r else row_at R key k rows) ≡ (if s then Some r else row_at R key k' rows)
    cases true rest = refl
    cases false rest = rest

module _ {X K : Type 0} {R : K → K → Ordering} (o : IsTotalOrder R) (key : X → K) (row : X) (rows : List X)
    (sorted : IsInOrder R key rows) (none : row_at R key (key row) rows ≡ None) where
  pub row_at_put_found : (k : K) (x : X) → row_at R key k rows ≡ Some x → row_at R key k
      (with_row R key row rows) ≡ Some x
  row_at_put_found k x found = cases (R (key row) k) refl
    where
      apart : is_eq (R (key row) k) ≡ false → row_at R key k (with_row R key row rows) ≡ Some x
      apart e = row_at_put_other o key k row rows sorted none e ∙ found

      cases : (s : Ordering) → R (key row) k ≡ s → row_at R key k (with_row R key row rows) ≡ Some x
      cases Less e = apart (ap is_eq e)
      cases Equal e = let nothing : None ≡ Some x = sym none ∙ row_at_level o key (key row) k rows e ∙ found in cc
      cases Greater e = apart (ap is_eq e)

  pub row_at_put_some : (k : K) → IsSome (row_at R key k rows) → IsSome (row_at R key k (with_row R key row rows))
  row_at_put_some k some = cases (row_at R key k rows) refl some
    where
      cases : (s : Option X) → row_at R key k rows ≡ s → IsSome s → IsSome (row_at R key k (with_row R key row rows))
      cases None e some = absurd (false≢true some)
      cases (Some x) e some = subst IsSome (sym (row_at_put_found k x e)) some

-- ---- lists by a number

module _ {X : Type 0} (key : X → ℕ) (row : X) (rows : List X) (sorted : IsInOrder nat_cmp key rows)
    (none : row_by_number key (key row) rows ≡ None) where
  pub at_put_other : (n : ℕ) → key row ≢ n → row_by_number key n (put_by key row rows) ≡ row_by_number key n rows
  at_put_other n h = row_at_put_other nat_cmp_total key n row rows sorted none (different (key row) n h)

  pub at_put_found_row : (n : ℕ) (x : X) → row_by_number key n rows ≡ Some x → row_by_number key n
      (put_by key row rows) ≡ Some x
  at_put_found_row = row_at_put_found nat_cmp_total key row rows sorted none

  pub at_put_some : (n : ℕ) → IsSome (row_by_number key n rows) → IsSome (row_by_number key n (put_by key row rows))
  at_put_some = row_at_put_some nat_cmp_total key row rows sorted none
