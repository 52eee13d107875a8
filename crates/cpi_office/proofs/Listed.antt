-- The collector of a key is listed by a number.
use Rattle.std.proofs.Common.{◌≡◌, ℕ, Bool, true, false, eqb, List, [], ◌∷◌, Some, None, refl, sym, ap, ◌∙◌}
use Rattle.std.specs.Prelude.{IsSome}
use Rattle.std.specs.Ordering.{nat_cmp, is_eq}
use Rattle.std.proofs.lemmas.Bool.{eqb-true}
use Rattle.std.proofs.lemmas.Cmp.{tied_itself, nat_cmp_total}
use Rattle.cpi_rows.specs.Keyed.{row_by_number}
use Rattle.cpi_store.specs.declared.registration.Registration.{Registration}
use Rattle.cpi_store.specs.Registration.{registration_of}

some_more : (n : ℕ) (x : Registration) (bs : List Registration) → (t : Bool) → is_eq (nat_cmp x.number n) ≡ t →
    IsSome (row_by_number (λ b. b.number) n bs) → IsSome (row_by_number (λ b. b.number) n (x ∷ bs))
some_more n x bs true e some = rw e refl
some_more n x bs false e some = rw e some

pub registration_some : (key : ℕ) (b : Registration) (bs : List Registration) → registration_of key bs ≡ Some b →
    IsSome (row_by_number (λ b. b.number) b.number bs)
registration_some key b [] known = let no : None ≡ Some b = known in cc
registration_some key b (x ∷ bs) known = cases (eqb x.key key) refl (registration_some key b bs)
  where
    cases : (t : Bool) → eqb x.key key ≡ t →
        (registration_of key bs ≡ Some b → IsSome (row_by_number (λ b. b.number) b.number bs)) →
        IsSome (row_by_number (λ b. b.number) b.number (x ∷ bs))
    cases true e rest =
        let here : Some x ≡ Some b = rw e at known in
        let is : x ≡ b = cc in
        rw (← is, ap is_eq (tied_itself nat_cmp_total x.number)) refl
    cases false e rest = some_more b.number x bs (is_eq (nat_cmp x.number b.number)) refl (rest (rw e at known))

-- and the registration has the key
pub registration_key : (key : ℕ) (b : Registration) (bs : List Registration) → registration_of key bs ≡ Some b →
    b.key ≡ key
registration_key key b [] known = let no : None ≡ Some b = known in cc
registration_key key b (x ∷ bs) known = cases (eqb x.key key) refl (registration_key key b bs)
  where
    cases : (t : Bool) → eqb x.key key ≡ t → (registration_of key bs ≡ Some b → b.key ≡ key) → b.key ≡ key
    cases true e rest =
        let here : Some x ≡ Some b = rw e at known in
        let is : x ≡ b = cc in
        ap (λ (b : Registration). b.key) (sym is) ∙ eqb-true x.key key e
    cases false e rest = rest (rw e at known)
