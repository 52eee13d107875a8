-- The assignments of all collectors, of which one ends sooner or one more is put: their order, and the row of each
-- slot.
use Rattle.std.proofs.Common.{◌≡◌, ◌≢◌, ℕ, suc, Bool, true, false, eqb, List, [], ◌∷◌, Some, None, refl, sym, ap, ◌∙◌}
use Rattle.std.proofs.Common.{arith, inl, inr}
use Rattle.std.specs.Prelude.{◌⊎◌, ◌==◌, map, option_map, if◌then◌else◌}
use Rattle.std.specs.List.{AllByRecursion}
use Rattle.std.specs.List.Sorted.{IsStrictlySortedBy}
use Rattle.std.specs.declared.cmp.Ordering.TheVariants.{Less}
use Rattle.std.specs.Ordering.{nat_cmp, is_eq}
use Rattle.std.specs.Cmp.{IsTotalOrder}
use Rattle.std.proofs.lemmas.Bool.{lt-leb}
use Rattle.std.proofs.lemmas.Bool.Decides.{eqb_tells}
use Rattle.std.proofs.lemmas.Cmp.{nat_cmp_total}
use Rattle.cpi_rows.specs.Keyed.{with_row, IsInOrder, row_by_number}
use Rattle.cpi_rows.specs.Held.{held_by, held_cmp, held_key}
use Rattle.cpi_rows.proofs.Held.{puts_own, puts_other, held_total}
use Rattle.cpi_rows.proofs.Places.{put_in_order}
use Rattle.cpi_rows.proofs.Puts.{put_standing, different, row_at_put_same, row_at_put_apart, at_put_found_row}
use Rattle.cpi_survey.specs.Assignment.{until, with_last_month}
use Rattle.cpi_store.specs.declared.given.Given.{Given}
use Rattle.cpi_store.specs.declared.series_move.SeriesMove.{SeriesMove}
use Rattle.cpi_store.specs.declared.outlet.Outlet.{Outlet}
use Rattle.cpi_store.specs.Outlet.{with_name}
use Rattle.cpi_store.specs.Office.{put_given, given_until, row_until, end_given, given_over, hand_over}
use Rattle.cpi_store.proofs.Slots.{row_held, all_from_found, held_in_order}

abbrev pub AreInOrder : List (ℕ × Given) → Type 0
AreInOrder rows = IsInOrder (held_cmp nat_cmp) (held_key (λ (g : Given). g.assignment.slot)) rows

-- ---- what a slot was given, if one slot's assignment ends sooner

-- what was given to one slot, with this last month if it is this slot
abbrev pub ended_given : ℕ → ℕ → Given → Given
ended_given slot last_month g = if g.assignment.slot == slot then given_until last_month g else g

-- a row that has ended, and one that has not
until_tells : (n slot last : ℕ) (r : ℕ × Given) →
    ((row_until n slot last r ≡ (r.0, given_until last r.1)) × (r.0 ≡ n) × (r.1.assignment.slot ≡ slot))
    ⊎ ((row_until n slot last r ≡ r) × ((r.0 ≡ n) × (r.1.assignment.slot ≡ slot) → ⊥))
until_tells n slot last r = cases (eqb_tells r.0 n) (eqb_tells r.1.assignment.slot slot)
  where
    cases : ((eqb r.0 n ≡ true) × (r.0 ≡ n)) ⊎ ((eqb r.0 n ≡ false) × (r.0 ≢ n)) →
        ((eqb r.1.assignment.slot slot ≡ true) × (r.1.assignment.slot ≡ slot))
        ⊎ ((eqb r.1.assignment.slot slot ≡ false) × (r.1.assignment.slot ≢ slot)) →
        ((row_until n slot last r ≡ (r.0, given_until last r.1)) × (r.0 ≡ n) × (r.1.assignment.slot ≡ slot))
        ⊎ ((row_until n slot last r ≡ r) × ((r.0 ≡ n) × (r.1.assignment.slot ≡ slot) → ⊥))
    cases (inl mine) (inl here) = inl (rw (mine.0, here.0) refl, mine.1, here.1)
    cases (inl mine) (inr there) = inr (rw (mine.0, there.0) refl, λ same. there.1 same.1)
    cases (inr other) tells = inr (rw other.0 refl, λ same. other.1 same.0)

-- of the collector's own rows, only this slot's
pub held_ended_own : (n slot last : ℕ) (rows : List (ℕ × Given)) →
    held_by n (end_given n slot last rows) ≡ map (ended_given slot last) (held_by n rows)
held_ended_own n slot last [] = refl
held_ended_own n slot last (r ∷ rows) = cases (eqb_tells r.0 n) (eqb_tells r.1.assignment.slot slot)
    (held_ended_own n slot last rows)
  where
    Has : List (ℕ × Given) → Type 0
    Has rs = held_by n (end_given n slot last rs) ≡ map (ended_given slot last) (held_by n rs)

    cases : ((eqb r.0 n ≡ true) × (r.0 ≡ n)) ⊎ ((eqb r.0 n ≡ false) × (r.0 ≢ n)) →
        ((eqb r.1.assignment.slot slot ≡ true) × (r.1.assignment.slot ≡ slot))
        ⊎ ((eqb r.1.assignment.slot slot ≡ false) × (r.1.assignment.slot ≢ slot)) → Has rows → Has (r ∷ rows)
    cases (inl mine) (inl here) rest = rw (mine.0, here.0, mine.0) (ap (λ gs. given_until last r.1 ∷ gs) rest)
    cases (inl mine) (inr there) rest = rw (mine.0, there.0, mine.0) (ap (λ gs. r.1 ∷ gs) rest)
    cases (inr other) tells rest = rw (other.0, other.0) rest

-- of another collector's, none
pub held_ended_other : (c n slot last : ℕ) (rows : List (ℕ × Given)) → c ≢ n →
    held_by c (end_given n slot last rows) ≡ held_by c rows
held_ended_other c n slot last [] apart = refl
held_ended_other c n slot last (r ∷ rows) apart = cases (until_tells n slot last r) (eqb_tells r.0 c)
    (held_ended_other c n slot last rows apart)
  where
    cases : ((row_until n slot last r ≡ (r.0, given_until last r.1)) × (r.0 ≡ n) × (r.1.assignment.slot ≡ slot))
        ⊎ ((row_until n slot last r ≡ r) × ((r.0 ≡ n) × (r.1.assignment.slot ≡ slot) → ⊥)) →
        ((eqb r.0 c ≡ true) × (r.0 ≡ c)) ⊎ ((eqb r.0 c ≡ false) × (r.0 ≢ c)) →
        held_by c (end_given n slot last rows) ≡ held_by c rows →
        held_by c (end_given n slot last (r ∷ rows)) ≡ held_by c (r ∷ rows)
    cases (inl ended) (inl mine) rest = absurd (apart (sym mine.1 ∙ ended.1))
    cases (inl ended) (inr other) rest = rw (ended.0, other.0) rest
    cases (inr stays) (inl mine) rest = rw (stays.0, mine.0) (ap (λ gs. r.1 ∷ gs) rest)
    cases (inr stays) (inr other) rest = rw (stays.0, other.0) rest

own_same : (slot last : ℕ) (own : List Given) →
    row_by_number (λ g. g.assignment.slot) slot (map (ended_given slot last) own) ≡ option_map (given_until last)
    (row_by_number (λ g. g.assignment.slot) slot own)
own_same slot last [] = refl
own_same slot last (g ∷ own) = cases (eqb_tells g.assignment.slot slot) (own_same slot last own)
  where
    Has : List Given → Type 0
    Has gs = row_by_number (λ g. g.assignment.slot) slot (map (ended_given slot last) gs) ≡ option_map
        (given_until last)
        (row_by_number (λ g. g.assignment.slot) slot gs)

    passed : is_eq (nat_cmp g.assignment.slot slot) ≡ false → Has own →
        row_by_number (λ g. g.assignment.slot) slot (g ∷ map (ended_given slot last) own) ≡ option_map
        (given_until last)
        (row_by_number (λ g. g.assignment.slot) slot (g ∷ own))
    passed e rest = rw e rest

    cases : ((eqb g.assignment.slot slot ≡ true) × (g.assignment.slot ≡ slot))
        ⊎ ((eqb g.assignment.slot slot ≡ false) × (g.assignment.slot ≢ slot)) → Has own → Has (g ∷ own)
    cases (inl here) rest = let same : g.assignment.slot ≡ slot = here.1 in
        rw (here.0, lt-leb (suc g.assignment.slot) slot (omega (arith, same)), here.0) refl
    cases (inr there) rest = ap (λ x. row_by_number (λ g. g.assignment.slot) slot (x ∷ map (ended_given slot last) own))
        (rw there.0 refl) ∙ passed (different g.assignment.slot slot there.1) rest

own_other : (slot last k : ℕ) → k ≢ slot → (own : List Given) →
    row_by_number (λ g. g.assignment.slot) k (map (ended_given slot last) own) ≡ row_by_number
    (λ g. g.assignment.slot) k own
own_other slot last k apart [] = refl
own_other slot last k apart (g ∷ own) = cases (eqb_tells g.assignment.slot slot) (own_other slot last k apart own)
  where
    Has : List Given → Type 0
    Has gs = row_by_number (λ g. g.assignment.slot) k (map (ended_given slot last) gs) ≡ row_by_number
        (λ g. g.assignment.slot) k gs

    stays : (w : Bool) → is_eq (nat_cmp g.assignment.slot k) ≡ w → eqb g.assignment.slot slot ≡ false → Has own →
        Has (g ∷ own)
    stays true e there rest = rw (there, e) refl
    stays false e there rest = rw (there, e) rest

    cases : ((eqb g.assignment.slot slot ≡ true) × (g.assignment.slot ≡ slot))
        ⊎ ((eqb g.assignment.slot slot ≡ false) × (g.assignment.slot ≢ slot)) → Has own → Has (g ∷ own)
    cases (inl here) rest = rw (here.0, different g.assignment.slot k (λ same. apart (sym same ∙ here.1))) rest
    cases (inr there) rest = stays (is_eq (nat_cmp g.assignment.slot k)) refl there.0 rest

pub at_ended_same : (n slot last : ℕ) (rows : List (ℕ × Given)) →
    row_by_number (λ g. g.assignment.slot) slot (held_by n (end_given n slot last rows)) ≡ option_map (given_until last)
    (row_by_number (λ g. g.assignment.slot) slot (held_by n rows))
at_ended_same n slot last rows = ap (row_by_number (λ g. g.assignment.slot) slot) (held_ended_own n slot last rows)
    ∙ own_same slot last (held_by n rows)

pub at_ended_other : (n slot last k : ℕ) (rows : List (ℕ × Given)) → k ≢ slot →
    row_by_number (λ g. g.assignment.slot) k (held_by n (end_given n slot last rows)) ≡ row_by_number
    (λ g. g.assignment.slot) k
    (held_by n rows)
at_ended_other n slot last k rows apart = ap (row_by_number (λ g. g.assignment.slot) k)
    (held_ended_own n slot last rows)
    ∙ own_other slot last k apart (held_by n rows)

key_until : (n slot last : ℕ) (r : ℕ × Given) →
    held_key (λ (g : Given). g.assignment.slot) (row_until n slot last r) ≡ held_key
    (λ (g : Given). g.assignment.slot) r
key_until n slot last r = cases (until_tells n slot last r)
  where
    cases : ((row_until n slot last r ≡ (r.0, given_until last r.1)) × (r.0 ≡ n) × (r.1.assignment.slot ≡ slot))
        ⊎ ((row_until n slot last r ≡ r) × ((r.0 ≡ n) × (r.1.assignment.slot ≡ slot) → ⊥)) →
        held_key (λ (g : Given). g.assignment.slot) (row_until n slot last r) ≡ held_key
        (λ (g : Given). g.assignment.slot) r
    cases (inl ended) = ap (held_key (λ (g : Given). g.assignment.slot)) ended.0
    cases (inr stays) = ap (held_key (λ (g : Given). g.assignment.slot)) stays.0

-- each row keeps its place
pub end_in_order : (n slot last : ℕ) (rows : List (ℕ × Given)) → AreInOrder rows →
    AreInOrder (end_given n slot last rows)
unfolding IsStrictlySortedBy
end_in_order n slot last [] sorted = tt
end_in_order n slot last (r ∷ rows) sorted = (above rows sorted.0, end_in_order n slot last rows sorted.1)
  where
    above : (rs : List (ℕ × Given)) → AllByRecursion
        (λ s. held_cmp nat_cmp (held_key (λ (g : Given). g.assignment.slot) r)
        (held_key (λ (g : Given). g.assignment.slot) s) ≡ Less) rs →
        AllByRecursion (λ s. held_cmp nat_cmp (held_key (λ (g : Given). g.assignment.slot) (row_until n slot last r))
        (held_key (λ (g : Given). g.assignment.slot) s) ≡ Less) (end_given n slot last rs)
    above [] all = tt
    above (s ∷ rs) all = (
      ap (λ k. held_cmp nat_cmp k (held_key (λ (g : Given). g.assignment.slot) (row_until n slot last s)))
          (key_until n slot last r)
          ∙ ap (λ k. held_cmp nat_cmp (held_key (λ (g : Given). g.assignment.slot) r) k) (key_until n slot last s)
          ∙ all.0,
      above rs all.1,
    )

all_fixed : {X : Type 0} (f : X → X) (xs : List X) → AllByRecursion (λ x. f x ≡ x) xs → map f xs ≡ xs
all_fixed f [] all = refl
all_fixed f (x ∷ xs) all = ap (λ y. y ∷ map f xs) all.0 ∙ ap (λ ys. x ∷ ys) (all_fixed f xs all.1)

-- an assignment that has that last month already stays as it is
pub end_standing : (n slot : ℕ) (g : Given) (rows : List (ℕ × Given)) → AreInOrder rows →
    row_by_number (λ g. g.assignment.slot) slot (held_by n rows) ≡ Some g → end_given n slot g.assignment.last_month
    rows ≡ rows
end_standing n slot g rows sorted found = all_fixed (row_until n slot g.assignment.last_month) rows
    (all_from_found (λ x. x.assignment.slot) _ rows sorted fixed)
  where
    fixed : (c : ℕ) (x : Given) → row_by_number (λ (y : Given). y.assignment.slot) x.assignment.slot (held_by c rows)
        ≡ Some x →
        row_until n slot g.assignment.last_month (c, x) ≡ (c, x)
    fixed c x there = cases (until_tells n slot g.assignment.last_month (c, x))
      where
        cases : ((row_until n slot g.assignment.last_month (c, x) ≡ (c, given_until g.assignment.last_month x)) ×
            (c ≡ n)
            × (x.assignment.slot ≡ slot))
            ⊎ ((row_until n slot g.assignment.last_month (c, x) ≡ (c, x))
            × ((c ≡ n) × (x.assignment.slot ≡ slot) → ⊥)) → row_until n slot g.assignment.last_month (c, x) ≡ (c, x)
        cases (inl ended) =
            let same : Some x ≡ Some g = sym there ∙ ap (λ k. row_by_number (λ (y : Given). y.assignment.slot) k
            (held_by c rows)) ended.2 ∙ ap
            (λ m. row_by_number (λ (y : Given). y.assignment.slot) slot (held_by m rows))
            ended.1 ∙ found in
            let is : g ≡ x = cc in
            ended.0 ∙ ap (λ (y : Given). (c, given_until y.assignment.last_month x)) is
        cases (inr stays) = stays.0

-- ---- what a slot was given, when one is put

pub given_total : IsTotalOrder (held_cmp nat_cmp)
given_total = held_total nat_cmp_total

pub put_given_in_order : (n : ℕ) (g : Given) (rows : List (ℕ × Given)) → AreInOrder rows →
    AreInOrder (put_given n g rows)
put_given_in_order n g rows sorted = put_in_order given_total (held_key (λ (g : Given). g.assignment.slot)) rows
    (n, g) sorted

-- what was put is in its slot
pub at_put_same : (n : ℕ) (g : Given) (rows : List (ℕ × Given)) →
    row_by_number (λ g. g.assignment.slot) g.assignment.slot (held_by n (put_given n g rows)) ≡ Some g
at_put_same n g rows = ap (row_by_number (λ g. g.assignment.slot) g.assignment.slot)
    (puts_own nat_cmp (λ (g : Given). g.assignment.slot) n g rows)
    ∙ row_at_put_same nat_cmp_total (λ (g : Given). g.assignment.slot) g (held_by n rows)

-- another slot's row is still there: the slot of the new row was free
pub at_put_found : (n : ℕ) (g : Given) (rows : List (ℕ × Given)) → AreInOrder rows →
    row_by_number (λ g. g.assignment.slot) g.assignment.slot (held_by n rows) ≡ None →
    (c slot : ℕ) (x : Given) → row_by_number (λ g. g.assignment.slot) slot (held_by c rows) ≡ Some x →
    row_by_number (λ g. g.assignment.slot) slot (held_by c (put_given n g rows)) ≡ Some x
at_put_found n g rows sorted new c slot x found = cases (eqb_tells c n)
  where
    cases : ((eqb c n ≡ true) × (c ≡ n)) ⊎ ((eqb c n ≡ false) × (c ≢ n)) →
        row_by_number (λ g. g.assignment.slot) slot (held_by c (put_given n g rows)) ≡ Some x
    cases (inl same) =
        ap (λ k. row_by_number (λ g. g.assignment.slot) slot (held_by k (put_given n g rows))) same.1
        ∙ ap (row_by_number (λ g. g.assignment.slot) slot)
        (puts_own nat_cmp (λ (g : Given). g.assignment.slot) n g rows)
        ∙ at_put_found_row (λ g. g.assignment.slot) g (held_by n rows)
        (held_in_order nat_cmp (λ g. g.assignment.slot) n rows sorted) new slot x
        (ap (λ k. row_by_number (λ g. g.assignment.slot) slot (held_by k rows)) (sym same.1) ∙ found)
    cases (inr apart) = ap (row_by_number (λ g. g.assignment.slot) slot)
        (puts_other nat_cmp (λ (g : Given). g.assignment.slot) c n g rows apart.1) ∙ found

-- ---- what is found then

-- what is found after a row was put into a free slot is that row, or was there before
pub found_put : (n : ℕ) (g : Given) (rows : List (ℕ × Given)) → AreInOrder rows → (c k : ℕ) (x : Given) →
    row_by_number (λ g. g.assignment.slot) k (held_by c (put_given n g rows)) ≡ Some x →
    ((c ≡ n) × (k ≡ g.assignment.slot) × (x ≡ g)) ⊎ (row_by_number (λ g. g.assignment.slot) k (held_by c rows) ≡ Some x)
found_put n g rows sorted c k x found = cases (eqb_tells c n) (eqb_tells g.assignment.slot k)
  where
    own : c ≡ n → row_by_number (λ g. g.assignment.slot) k
        (with_row nat_cmp (λ (g : Given). g.assignment.slot) g (held_by n rows)) ≡
        Some x
    own same = sym (ap (λ m. row_by_number (λ g. g.assignment.slot) k (held_by m (put_given n g rows))) same
        ∙ ap (row_by_number (λ g. g.assignment.slot) k)
        (puts_own nat_cmp (λ (g : Given). g.assignment.slot) n g rows)) ∙ found

    cases : ((eqb c n ≡ true) × (c ≡ n)) ⊎ ((eqb c n ≡ false) × (c ≢ n)) →
        ((eqb g.assignment.slot k ≡ true) × (g.assignment.slot ≡ k))
        ⊎ ((eqb g.assignment.slot k ≡ false) × (g.assignment.slot ≢ k)) →
        ((c ≡ n) × (k ≡ g.assignment.slot) × (x ≡ g)) ⊎
        (row_by_number (λ g. g.assignment.slot) k (held_by c rows) ≡ Some x)
    cases (inl same) (inl here) =
        let is : Some g ≡ Some x = sym (row_at_put_same nat_cmp_total (λ (g : Given). g.assignment.slot) g
        (held_by n rows)) ∙ ap (λ j. row_by_number (λ g. g.assignment.slot) j
        (with_row nat_cmp (λ (g : Given). g.assignment.slot) g (held_by n rows))) here.1 ∙ own same.1 in
        let equal : x ≡ g = cc in
        inl (same.1, sym here.1, equal)
    cases (inl same) (inr there) = inr (
        ap (λ m. row_by_number (λ g. g.assignment.slot) k (held_by m rows)) same.1
        ∙ sym (row_at_put_apart nat_cmp_total (λ (g : Given). g.assignment.slot) k g (held_by n rows)
        (held_in_order nat_cmp (λ g. g.assignment.slot) n rows sorted) (different g.assignment.slot k there.1))
        ∙ own same.1
        )
    cases (inr apart) tells = inr (sym (ap (row_by_number (λ g. g.assignment.slot) k)
        (puts_other nat_cmp (λ (g : Given). g.assignment.slot) c n g rows apart.1)) ∙ found)

-- what is found after an assignment was ended is that assignment, or was there before
pub found_ended : (n slot last : ℕ) (rows : List (ℕ × Given)) (c k : ℕ) (x : Given) →
    row_by_number (λ g. g.assignment.slot) k (held_by c (end_given n slot last rows)) ≡ Some x →
    ((c ≡ n) × (k ≡ slot) × (option_map (given_until last)
    (row_by_number (λ g. g.assignment.slot) slot (held_by n rows)) ≡ Some
    x))
    ⊎ ((row_by_number (λ g. g.assignment.slot) k (held_by c rows) ≡ Some x) × ((c ≡ n) × (k ≡ slot) → ⊥))
found_ended n slot last rows c k x found = cases (eqb_tells c n) (eqb_tells k slot)
  where
    own : c ≡ n → row_by_number (λ g. g.assignment.slot) k (held_by n (end_given n slot last rows)) ≡ Some x
    own same = ap (λ m. row_by_number (λ g. g.assignment.slot) k (held_by m (end_given n slot last rows)))
        (sym same) ∙ found

    cases : ((eqb c n ≡ true) × (c ≡ n)) ⊎ ((eqb c n ≡ false) × (c ≢ n)) → ((eqb k slot ≡ true) × (k ≡ slot))
        ⊎ ((eqb k slot ≡ false) × (k ≢ slot)) →
        ((c ≡ n) × (k ≡ slot) × (option_map (given_until last)
        (row_by_number (λ g. g.assignment.slot) slot (held_by n rows)) ≡
        Some x))
        ⊎ ((row_by_number (λ g. g.assignment.slot) k (held_by c rows) ≡ Some x) × ((c ≡ n) × (k ≡ slot) → ⊥))
    cases (inl same) (inl here) = inl (
      same.1,
      here.1,
      sym (at_ended_same n slot last rows)
          ∙ ap (λ j. row_by_number (λ g. g.assignment.slot) j (held_by n (end_given n slot last rows))) (sym here.1) ∙
          own same.1,
    )
    cases (inl same) (inr there) = inr (
      ap (λ m. row_by_number (λ g. g.assignment.slot) k (held_by m rows)) same.1
          ∙ sym (at_ended_other n slot last k rows there.1) ∙ own same.1,
      λ both. there.1 both.1,
    )
    cases (inr apart) tells = inr (
      sym (ap (row_by_number (λ g. g.assignment.slot) k) (held_ended_other c n slot last rows apart.1))
          ∙ found,
      λ both. apart.1 both.0,
    )

-- ---- what a hand-over leaves as it is, and what a collector is shown of one

-- a handover that was made already changes nothing
pub handed_standing : (rows : List (ℕ × Given)) (h : SeriesMove) → AreInOrder rows →
    row_by_number (λ g. g.assignment.slot) h.ended.assignment.slot (held_by h.former.number rows) ≡ Some h.ended →
    row_by_number (λ g. g.assignment.slot) h.assigned.assignment.slot (held_by h.taker.number rows) ≡ Some
    (given_over h) →
    hand_over h rows ≡ rows
handed_standing rows h sorted former new =
    ap (put_given h.taker.number (given_over h)) (end_standing h.former.number h.ended.assignment.slot h.ended rows
    sorted former)
    ∙ put_standing given_total (held_key (λ (g : Given). g.assignment.slot))
    (h.taker.number, given_over h) rows sorted (row_held nat_cmp (λ (g : Given). g.assignment.slot) h.taker.number
    h.assigned.assignment.slot (given_over h) rows new)

-- what a collector is shown of an assignment that was ended
pub shown_ended : (outlets : List Outlet) (slot last : ℕ) (own : List Given) →
    map (with_name outlets) (map (λ g. g.assignment) (map (ended_given slot last) own)) ≡ with_last_month slot last
    (map (with_name outlets) (map (λ g. g.assignment) own))
shown_ended outlets slot last [] = refl
shown_ended outlets slot last (g ∷ own) = cases (eqb g.assignment.slot slot) refl (shown_ended outlets slot last own)
  where
    Same : List Given → Type 0
    Same gs = map (with_name outlets) (map (λ (x : Given). x.assignment) (map (ended_given slot last) gs)) ≡
        with_last_month
        slot last (map (with_name outlets) (map (λ (x : Given). x.assignment) gs))

    cases : (w : Bool) → eqb g.assignment.slot slot ≡ w → Same own → Same (g ∷ own)
    cases true e rest = rw e (ap (λ xs. with_name outlets (until last g.assignment) ∷ xs) rest)
    cases false e rest = rw e (ap (λ xs. with_name outlets g.assignment ∷ xs) rest)
