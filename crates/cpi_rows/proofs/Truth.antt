-- Facts about truth values, the order of two things, and tests of two numbers.
use Rattle.std.proofs.Common.{◌≡◌, ◌≢◌, ℕ, ◌<◌, Bool, true, false, refl, sym, ap, arith, ◌&&◌, ◌||◌, ◌==◌}
use Rattle.std.specs.Prelude.{not}
use Rattle.std.specs.declared.cmp.Ordering.{Ordering}
use Rattle.std.specs.declared.cmp.Ordering.TheVariants.{Less, Equal, Greater}
use Rattle.std.specs.Ordering.{nat_cmp, is_eq, ordering_then}
use Rattle.std.proofs.lemmas.Bool.Decides.{nat_tests}
use Rattle.std.proofs.lemmas.Cmp.{ranked}

pub no_true_false : true ≡ false → ⊥
no_true_false e = cc

-- ---- both of two

pub and_first : (a b : Bool) → (a && b) ≡ true → a ≡ true
and_first true b h = refl
and_first false b h = cc

pub and_second : (a b : Bool) → (a && b) ≡ true → b ≡ true
and_second true b h = h
and_second false b h = cc

pub and_both : (a b : Bool) → (a && b) ≡ true → (a ≡ true) × (b ≡ true)
and_both a b h = (and_first a b h, and_second a b h)

pub and_true : (a b : Bool) → a ≡ true → b ≡ true → (a && b) ≡ true
and_true true b h k = k
and_true false b h k = cc

pub and_false_second : (a b : Bool) → b ≡ false → (a && b) ≡ false
and_false_second true b h = h
and_false_second false b h = refl

-- ---- one of two

pub or_of_first : (a b : Bool) → a ≡ true → (a || b) ≡ true
or_of_first true b h = refl
or_of_first false b h = cc

pub or_of_second : (a b : Bool) → b ≡ true → (a || b) ≡ true
or_of_second true b h = refl
or_of_second false b h = h

pub or_false_first : (a b : Bool) → (a || b) ≡ false → a ≡ false
or_false_first true b h = cc
or_false_first false b h = refl

pub or_false_second : (a b : Bool) → (a || b) ≡ false → b ≡ false
or_false_second true b h = cc
or_false_second false b h = h

pub not_false : (a : Bool) → not a ≡ false → a ≡ true
not_false true h = refl
not_false false h = cc

-- ---- the order of two things

pub equal_of_is_eq : (o : Ordering) → is_eq o ≡ true → o ≡ Equal
equal_of_is_eq Less h = cc
equal_of_is_eq Equal h = refl
equal_of_is_eq Greater h = cc

-- an order by one thing and then by another ties when both tie
pub then_first : (o r : Ordering) → ordering_then o r ≡ Equal → o ≡ Equal
then_first Less r e = e
then_first Equal r e = refl
then_first Greater r e = e

pub then_second : (o r : Ordering) → ordering_then o r ≡ Equal → r ≡ Equal
then_second Less r e = cc
then_second Equal r e = e
then_second Greater r e = cc

-- ---- two numbers

pub less_of_lt : (m n : ℕ) → m < n → nat_cmp m n ≡ Less
less_of_lt m n h = grind (arith, nat_tests)

pub equal_of_order : (m n : ℕ) → nat_cmp m n ≡ Equal → m ≡ n
equal_of_order m n e = ranked m n Equal (sym e)

-- two different numbers don't tie
pub different : (m n : ℕ) → m ≢ n → is_eq (nat_cmp m n) ≡ false
different m n h = cases (nat_cmp m n) refl
  where
    cases : (o : Ordering) → nat_cmp m n ≡ o → is_eq (nat_cmp m n) ≡ false
    cases Less e = ap is_eq e
    cases Equal e = absurd (h (ranked m n Equal (sym e)))
    cases Greater e = ap is_eq e

pub same_of_equal : (m n : ℕ) → (m == n) ≡ true → m ≡ n
same_of_equal m n h = grind (arith, nat_tests)

pub equal_itself : (n : ℕ) → (n == n) ≡ true
equal_itself n = grind (arith, nat_tests)
