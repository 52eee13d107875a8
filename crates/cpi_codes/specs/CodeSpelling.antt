-- What a text of a code looks like, also where its numbers are refused.
use Rattle.std.specs.Prelude.{ℕ, Bool, true, ◌&&◌, ◌||◌, nat_le, ◌≤◌, List, ◌++◌, ◌≡◌, Option, Some, None, is_none}
use Rattle.std.specs.Prelude.{IsTrue}
use Rattle.cpi_codes.specs.CodeParts.{two_digits, dot_and_digit, dash_and_number, is_digit_part, is_under}
use Rattle.cpi_codes.specs.declared.spelling.Parts.{Parts}
use Rattle.cpi_codes.specs.declared.code_texts.CodeFault.{CodeFault}
use Rattle.cpi_codes.specs.declared.code_texts.CodeFault.TheVariants.{Shape, NotHousehold, Zero}

abbrev pub spelling : Parts → List ℕ
spelling p = two_digits p.division ++ (dot_and_digit p.group ++
    (dot_and_digit p.class ++ (dot_and_digit p.subclass ++ dash_and_number p.aggregate)))

abbrev pub is_two_digit_part : Option ℕ → Bool
is_two_digit_part None = true
is_two_digit_part (Some n) = nat_le n 99

-- a division up to 15, or 00 alone
abbrev pub is_numbered : Parts → Bool
is_numbered p = nat_le p.division 15 && (nat_le 1 p.division || is_none p.group)

-- the further parts are digits, each there only below a part that is there
abbrev pub is_nested : Parts → Bool
is_nested p =
    is_under p.group p.class && is_under p.class p.subclass && is_under p.subclass p.aggregate
    && is_digit_part p.group && is_digit_part p.class && is_digit_part p.subclass && is_two_digit_part p.aggregate

abbrev pub IsSpelled : Parts → List ℕ → Type 0
IsSpelled p bytes = IsTrue (is_numbered p) × IsTrue (is_nested p) × (spelling p ≡ bytes)

-- why a text is no code: another shape; else a division that isn't a household's; else an aggregate 00
abbrev pub IsCodeFault : CodeFault → List ℕ → Type 0
IsCodeFault Shape bytes = (p : Parts) → IsSpelled p bytes → ⊥
IsCodeFault NotHousehold bytes = (p : Parts) × IsSpelled p bytes × (14 ≤ p.division)
IsCodeFault Zero bytes = (p : Parts) × IsSpelled p bytes × (p.division ≤ 13) × (p.aggregate ≡ Some 0)
