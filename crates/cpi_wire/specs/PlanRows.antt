-- The rows of a plan's body: a letter, and one field or two.
use Rattle.std.specs.Prelude.{List, if◌then◌else◌, Option, Some, None, bytes_eq, codes}
use Rattle.cpi_codes.specs.CodeOf.{spelled_code}
use Rattle.cpi_codes.specs.ItemCode.{item_code_of}
use Rattle.cpi_wire.specs.declared.plan_rows.PlanRow.{PlanRow}
use Rattle.cpi_wire.specs.declared.plan_rows.PlanRow.TheVariants as row
use Rattle.cpi_wire.specs.Arguments.{Text, exactly_two_or_three}
use Rattle.cpi_codes.specs.Following.{◌>>=◌}
use Rattle.cpi_wire.specs.Values.{spelled_name, spelled_weight, spelled_month}

-- the title of a code
abbrev pub title_row : Text → Text → Option PlanRow
title_row a b = do
  c ← spelled_code a
  t ← spelled_name b
  Some (row.Title (record { code = c; title = t }))

-- the weight of a code
abbrev pub weight_row : Text → Text → Option PlanRow
weight_row a b = do
  c ← spelled_code a
  w ← spelled_weight b
  Some (row.Weight (record { code = c; parts = w }))

-- the place of an item
abbrev pub place_row : Text → Text → Option PlanRow
place_row a b = do
  i ← item_code_of a
  c ← spelled_code b
  Some (row.Place (record { item = i; aggregate = c }))

-- a month that the weights refer to
abbrev pub spelled_reference_row : Text → Option PlanRow
spelled_reference_row a = spelled_month a >>= λ m. Some (row.Reference m)

-- a letter with one field
abbrev pub spelled_month_row : Text → Text → Option PlanRow
spelled_month_row letter a = if bytes_eq letter (codes "R") then spelled_reference_row a else None

-- a letter with two fields
abbrev pub spelled_code_row : Text → Text → Text → Option PlanRow
spelled_code_row letter a b =
    if bytes_eq letter (codes "T") then title_row a b
    else if bytes_eq letter (codes "W") then weight_row a b
    else if bytes_eq letter (codes "I") then place_row a b
    else None

abbrev pub lettered_row : Text → Text → Option Text → Option PlanRow
lettered_row letter a None = spelled_month_row letter a
lettered_row letter a (Some b) = spelled_code_row letter a b

abbrev pub spelled_plan_row : List Text → Option PlanRow
spelled_plan_row fields = exactly_two_or_three fields >>= λ f. lettered_row f.0 f.1 f.2
