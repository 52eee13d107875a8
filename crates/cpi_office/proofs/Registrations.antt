-- The collector of a key, the collector of a number, and the rows that a collector holds.
use Rattle.std.proofs.Common.{◌≡◌, ◌≢◌, ℕ, Bool, true, false, eqb, List, [], ◌∷◌, ◌++◌, map, Some, None, Option, refl}
use Rattle.std.proofs.Common.{sym, ap, ◌∙◌, subst, inl, inr}
use Rattle.std.specs.Prelude.{filter, ◌⊎◌, IsSome}
use Rattle.std.specs.Ordering.{nat_cmp, is_lt, is_gt, is_eq}
use Rattle.std.specs.List.{AllByRecursion}
use Rattle.std.proofs.lemmas.Bool.{eq-eqb, false≢true}
use Rattle.std.proofs.lemmas.Bool.Decides.{eqb_tells}
use Rattle.std.proofs.lemmas.Cmp.{tied_itself, nat_cmp_total}
use Rattle.std.proofs.lemmas.Map.Keys.{sorted_tail}
use Rattle.cpi_rows.specs.Keyed.{IsInOrder, row_by_number, put_by}
use Rattle.cpi_rows.specs.Held.{held_by}
use Rattle.cpi_store.specs.Registration.{registration_of}
use Rattle.cpi_store.specs.Outlet.{with_name}
use Rattle.cpi_store.specs.Orderly.{HaveOwnKeys}
use Rattle.cpi_store.specs.declared.registration.Registration.{Registration}
use Rattle.cpi_store.specs.declared.outlet.Outlet.{Outlet}
use Rattle.cpi_store.specs.declared.given.Given.{Given}
use Rattle.cpi_store.proofs.Added.{registration_new, registration_passed}
use Rattle.cpi_rows.proofs.Puts.{parted, first_apart, at_put_found_row, at_put_other, row_at_put_same}

abbrev number : Registration → ℕ
number b = b.number

-- a key's collector is found by the number: nobody else has it
pub record IsListed (key : ℕ) (b : Registration) (bs : List Registration) : Type 0 where
  pub found : row_by_number (λ b. b.number) b.number bs ≡ Some b
  pub key_is : b.key ≡ key

pub registration_listed : (key : ℕ) (b : Registration) (bs : List Registration) → IsInOrder nat_cmp (λ b. b.number) bs →
    registration_of key bs ≡ Some b → IsListed key b bs
registration_listed key b [] sorted known = let no : None ≡ Some b = known in cc
registration_listed key b (x ∷ bs) sorted known = cases (eqb_tells x.key key)
    (registration_listed key b bs (sorted_tail _ x bs sorted))
  where
    cases : ((eqb x.key key ≡ true) × (x.key ≡ key)) ⊎ ((eqb x.key key ≡ false) × (x.key ≢ key)) →
        (registration_of key bs ≡ Some b → IsListed key b bs) → IsListed key b (x ∷ bs)
    cases (inl same) rest =
        let here : Some x ≡ Some b = rw same.0 at known in
        let is : x ≡ b = cc in
        record {
          found = rw (← is, ap is_eq (tied_itself nat_cmp_total x.number)) refl;
          key_is = ap (λ b. b.key) (sym is) ∙ same.1;
        }
    cases (inr apart) rest =
        let listed = rest (rw apart.0 at known) in
        record {
          found = rw (first_apart nat_cmp_total number b.number x b bs sorted listed.found) listed.found;
          key_is = listed.key_is;
        }

-- another collector has another number
pub numbers_apart : (key : ℕ) (b other : Registration) (bs : List Registration) → IsInOrder nat_cmp (λ b. b.number) bs →
    row_by_number (λ b. b.number) b.number bs ≡ Some b → b.key ≢ key → registration_of key bs ≡ Some other →
    other.number ≢ b.number
numbers_apart key b other bs sorted found apart known same =
    let listed = registration_listed key other bs sorted known in
    let both : Some other ≡ Some b = sym listed.found ∙ ap (λ n. row_by_number number n bs) same ∙ found in
    let is : other ≡ b = cc in
    apart (ap (λ b. b.key) (sym is) ∙ listed.key_is)

-- ---- after a registration is added

module _ (b : Registration) (bs : List Registration) (sorted : IsInOrder nat_cmp (λ b. b.number) bs)
    (none : row_by_number (λ b. b.number) b.number bs ≡ None) where
  abbrev all_others : filter (λ r. is_lt (nat_cmp r.number b.number)) bs
      ++ filter (λ r. is_gt (nat_cmp r.number b.number)) bs ≡ bs
  all_others = parted nat_cmp_total number b.number bs sorted none

  pub registration_put_own : (key : ℕ) → eqb b.key key ≡ true → registration_of key bs ≡ None →
      registration_of key (put_by (λ b. b.number) b bs) ≡ Some b
  registration_put_own key e free = registration_new key b _ _ e (ap (registration_of key) all_others ∙ free)

  pub registration_put_other : (key : ℕ) → eqb b.key key ≡ false →
      registration_of key (put_by (λ b. b.number) b bs) ≡ registration_of key bs
  registration_put_other key e = registration_passed key b _ _ e ∙ ap (registration_of key) all_others

  -- each collector still has a key that no other has
  pub keys_put : HaveOwnKeys bs → registration_of b.key bs ≡ None → HaveOwnKeys (put_by (λ b. b.number) b bs)
  keys_put keys free n x found = cases (eqb_tells b.number n)
    where
      other : (eqb b.key x.key ≡ true) × (b.key ≡ x.key) ⊎ (eqb b.key x.key ≡ false) × (b.key ≢ x.key) →
          registration_of x.key bs ≡ Some x → registration_of x.key (put_by (λ b. b.number) b bs) ≡ Some x
      other (inl same) known = let no : None ≡ Some x = sym free ∙ ap (λ k. registration_of k bs) same.1 ∙ known in cc
      other (inr apart) known = registration_put_other x.key apart.0 ∙ known

      cases : ((eqb b.number n ≡ true) × (b.number ≡ n)) ⊎ ((eqb b.number n ≡ false) × (b.number ≢ n)) →
          registration_of x.key (put_by (λ b. b.number) b bs) ≡ Some x
      cases (inl same) =
          let both : Some b ≡ Some x = sym (row_at_put_same nat_cmp_total number b bs)
          ∙ ap (λ n. row_by_number number n (put_by number b bs)) same.1 ∙ found in
          let is : b ≡ x = cc in
          subst (λ x. registration_of x.key (put_by (λ b. b.number) b bs) ≡ Some x) is
          (registration_put_own b.key (eq-eqb b.key b.key refl) free)
      cases (inr apart) = other (eqb_tells b.key x.key)
          (keys n x (sym (at_put_other number b bs sorted none n apart.1) ∙ found))

-- ---- what a number holds

-- a number that no collector has holds no rows
pub none_held : {X : Type 0} (n : ℕ) (bs : List Registration) (rows : List (ℕ × X)) →
    AllByRecursion (λ row. IsSome (row_by_number (λ b. b.number) row.0 bs)) rows →
    row_by_number (λ b. b.number) n bs ≡ None → held_by n rows ≡ []
none_held n bs [] all none = refl
none_held n bs (r ∷ rows) all none = cases (eqb_tells r.0 n) (none_held n bs rows all.1 none)
  where
    cases : ((eqb r.0 n ≡ true) × (r.0 ≡ n)) ⊎ ((eqb r.0 n ≡ false) × (r.0 ≢ n)) → held_by n rows ≡ [] →
        held_by n (r ∷ rows) ≡ []
    cases (inl same) rest = absurd (false≢true (subst IsSome (ap (λ k. row_by_number number k bs) same.1 ∙ none) all.0))
    cases (inr apart) rest = rw apart.0 rest

-- an outlet that is added gives no other name to an assignment whose outlet is known
pub names_stay : (n : ℕ) (u : Outlet) (us : List Outlet) (rows : List (ℕ × Given)) →
    IsInOrder nat_cmp (λ u. u.number) us → row_by_number (λ u. u.number) u.number us ≡ None →
    AllByRecursion (λ row. IsSome (row_by_number (λ u. u.number) row.1.assignment.outlet us)) rows →
    map (with_name (put_by (λ u. u.number) u us)) (map (λ g. g.assignment) (held_by n rows)) ≡ map (with_name us)
    (map (λ g. g.assignment) (held_by n rows))
names_stay n u us [] sorted none all = refl
names_stay n u us (r ∷ rows) sorted none all = cases (eqb r.0 n) refl (names_stay n u us rows sorted none all.1)
  where
    named : (s : Option Outlet) → row_by_number (λ u. u.number) r.1.assignment.outlet us ≡ s → IsSome s →
        with_name (put_by (λ u. u.number) u us) r.1.assignment ≡ with_name us r.1.assignment
    named None e some = absurd (false≢true some)
    named (Some x) e some = rw (at_put_found_row (λ u. u.number) u us sorted none r.1.assignment.outlet x e, e) refl

    cases : (s : Bool) → eqb r.0 n ≡ s → map (with_name (put_by (λ u. u.number) u us))
        (map (λ g. g.assignment) (held_by n rows)) ≡ map (with_name us) (map (λ g. g.assignment) (held_by n rows)) →
        map (with_name (put_by (λ u. u.number) u us)) (map (λ g. g.assignment) (held_by n (r ∷ rows))) ≡ map
        (with_name us) (map (λ g. g.assignment) (held_by n (r ∷ rows)))
    cases true e rest = rw (e, rest) (ap (λ a. a ∷ map (with_name us) (map (λ g. g.assignment) (held_by n rows)))
        (named (row_by_number (λ u. u.number) r.1.assignment.outlet us) refl all.0))
    cases false e rest = rw e rest
