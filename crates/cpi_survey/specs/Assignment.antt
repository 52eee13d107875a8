-- Assignments: when two have one content, when one is active, and how one ends sooner.
use Rattle.std.specs.Prelude.{ℕ, Bool, true, false, ◌&&◌, ◌==◌, nat_le, List, map, Option, Some, None, if◌then◌else◌}
use Rattle.cpi_survey.specs.declared.assignment.Assignment.{Assignment}
use Rattle.cpi_survey.specs.declared.assignment.Assigned.{Assigned}

-- the same price, or none in both
abbrev pub same_price : Option ℕ → Option ℕ → Bool
same_price None None = true
same_price None (Some q) = false
same_price (Some p) None = false
same_price (Some p) (Some q) = p == q

abbrev pub same_assignment : Assignment → Assignment → Bool
same_assignment a b = a.slot == b.slot && a.outlet == b.outlet && a.item == b.item && a.first_month == b.first_month
    && a.last_month == b.last_month && same_price a.copied b.copied

-- active from the first month to the last, both included
abbrev pub is_active : ℕ → Assignment → Bool
is_active month a = nat_le a.first_month month && nat_le month a.last_month

-- the assignment with this last month
abbrev pub until : ℕ → Assignment → Assignment
until last_month a = record a { last_month = last_month }

-- the assignments, of which that of the slot has this last month
abbrev pub ended_one : ℕ → ℕ → Assigned → Assigned
ended_one slot last_month a =
    if a.assignment.slot == slot then record a { assignment = until last_month a.assignment } else a

abbrev pub with_last_month : ℕ → ℕ → List Assigned → List Assigned
with_last_month slot last_month assignments = map (ended_one slot last_month) assignments
