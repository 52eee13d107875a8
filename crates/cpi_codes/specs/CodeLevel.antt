-- The level of a code and the code above it, read off its text.
use Rattle.std.specs.Prelude.{ℕ, ◌*◌, ◌-◌, ◌/◌, List, Option, Some, None, length, take, if◌then◌else◌, nat_lt}
use Rattle.cpi_codes.specs.declared.codes.Code.{Code}
use Rattle.cpi_codes.specs.CodeText.{code_text, are_one_text, all_items}

-- 0 for `00`, 1 for a division (two bytes) up to 5 for an elementary aggregate (eleven bytes)
abbrev pub level_of_code : Code → ℕ
level_of_code c = if are_one_text (code_text c) all_items then 0 else length (code_text c) / 2

-- the text of the code above: `00` above a division, else the text without its last part
abbrev pub parent_text : Code → Option (List ℕ)
parent_text c =
    if are_one_text (code_text c) all_items then None else
    if nat_lt 1 (level_of_code c) then Some (take (2 * (level_of_code c - 1)) (code_text c)) else Some all_items
