-- An assignment with the name of its outlet, and when two outlets are the same.
use Rattle.std.specs.Prelude.{ℕ, Bool, ◌&&◌, ◌==◌, List, [], Option, Some, None}
use Rattle.std.specs.Ordering.{nat_cmp}
use Rattle.cpi_codes.specs.Text.{same_text}
use Rattle.cpi_rows.specs.Keyed.{row_at}
use Rattle.cpi_survey.specs.declared.assignment.Assignment.{Assignment}
use Rattle.cpi_survey.specs.declared.assignment.Assigned.{Assigned}
use Rattle.cpi_store.specs.declared.outlet.Outlet.{Outlet}

abbrev pub same_outlet : Outlet → Outlet → Bool
same_outlet a b = a.number == b.number && same_text a.name b.name

-- the name of an outlet
abbrev pub name_in : Option Outlet → List ℕ
name_in None = []
name_in (Some outlet) = outlet.name

-- an assignment with the name that its outlet has
abbrev pub with_name : List Outlet → Assignment → Assigned
with_name outlets a = record { assignment = a; outlet_name = name_in (row_at nat_cmp (λ o. o.number) a.outlet outlets) }
