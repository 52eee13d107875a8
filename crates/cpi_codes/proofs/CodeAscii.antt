-- The text of a code is ASCII.
use Rattle.std.proofs.Common.{◌≡◌, ℕ, ◌+◌, ◌<◌, ◌≤◌, ◌/◌, ◌%◌, true, IsTrue, List, ◌++◌, Option, Some, None, refl}
use Rattle.std.proofs.Common.{arith, nat_lt}
use Rattle.std.specs.Char.{is_ascii}
use Rattle.std.specs.List.{list_all}
use Rattle.std.proofs.lemmas.Bool.Decides.{nat_tests}
use Rattle.cpi_codes.specs.CodeParts.{two_digits, dot_and_digit, dash_and_number, is_digit_part, is_number_part}
use Rattle.cpi_codes.specs.CodeParts.{are_parts}
use Rattle.cpi_codes.specs.CodeText.{code_text}
use Rattle.cpi_codes.specs.declared.codes.Code.{Code}

below : (m : ℕ) → m < 128 → nat_lt m 128 ≡ true
below m h = grind (arith, nat_tests)

two_ascii : (n : ℕ) (rest : List ℕ) → n ≤ 99 → list_all is_ascii rest ≡ true →
    list_all is_ascii (two_digits n ++ rest) ≡ true
two_ascii n rest h r = rw (below (48 + n / 10) (omega (arith, h)), below (48 + n % 10) (omega (arith, h))) r

dotted_ascii : (part : Option ℕ) (rest : List ℕ) → is_digit_part part ≡ true → list_all is_ascii rest ≡ true →
    list_all is_ascii (dot_and_digit part ++ rest) ≡ true
dotted_ascii None rest h r = r
dotted_ascii (Some d) rest h r =
    let digit : d ≤ 9 = grind (arith, nat_tests) in
    rw (below (48 + d) (omega (arith, digit))) r

dashed_ascii : (part : Option ℕ) → is_number_part part ≡ true → list_all is_ascii (dash_and_number part) ≡ true
dashed_ascii None h = refl
dashed_ascii (Some n) h =
    let number : n ≤ 99 = grind (arith, nat_tests) in
    rw (below (48 + n / 10) (omega (arith, number)), below (48 + n % 10) (omega (arith, number))) refl

parts_ascii : (d : ℕ) (g c s a : Option ℕ) → IsTrue (are_parts d g c s a) →
    list_all is_ascii (two_digits d ++ (dot_and_digit g ++
    (dot_and_digit c ++ (dot_and_digit s ++ dash_and_number a)))) ≡ true
parts_ascii d g c s a h =
    let division : d ≤ 99 = grind (arith, nat_tests) in
    let group : is_digit_part g ≡ true = grind (arith, nat_tests) in
    let class : is_digit_part c ≡ true = grind (arith, nat_tests) in
    let subclass : is_digit_part s ≡ true = grind (arith, nat_tests) in
    let aggregate : is_number_part a ≡ true = grind (arith, nat_tests) in
    two_ascii d (dot_and_digit g ++ (dot_and_digit c ++ (dot_and_digit s ++ dash_and_number a))) division
    (dotted_ascii g (dot_and_digit c ++ (dot_and_digit s ++ dash_and_number a)) group
    (dotted_ascii c (dot_and_digit s ++ dash_and_number a) class
    (dotted_ascii s (dash_and_number a) subclass (dashed_ascii a aggregate))))

pub code_ascii : (c : Code) → list_all is_ascii (code_text c) ≡ true
code_ascii c = parts_ascii c.division c.group c.class c.subclass c.aggregate c.valid
