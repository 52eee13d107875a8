-- The cached survey follows each write.
use Rattle.std.specs.Prelude.{◌≡◌, ℕ, Bool, IsSome, IsTrue, None}
use Rattle.cpi_rows.specs.Held.{held_by}
use Rattle.cpi_rows.specs.Keyed.{row_by_number}
use Rattle.cpi_store.specs.Office.{Change, Office, office_with}
use Rattle.cpi_store.specs.Outlet.{with_name}
use Rattle.cpi_store.specs.declared.series_move.SeriesMove.{SeriesMove}
use Rattle.cpi_survey.specs.declared.assignment.Assigned.{Assigned}

-- if the survey still counts as read, it did before, and has the change
abbrev pub Follows : Change → Office → Office → Bool → Bool → Type 0
Follows change old new was_read is_read = IsTrue is_read → IsTrue was_read × (new ≡ office_with change old)

-- the outlet is there, and the name is its own
pub record HasNamedOutlet (survey : Office) (assigned : Assigned) : Type 0 where
  pub there : IsSome (row_by_number (λ u. u.number) assigned.assignment.outlet survey.outlets)
  pub name : assigned ≡ with_name survey.outlets assigned.assignment

-- the collector is there, the slot is free, and so is the outlet under its name
pub record CanTake (survey : Office) (collector : ℕ) (assigned : Assigned) : Type 0 where
  pub known : IsSome (row_by_number (λ b. b.number) collector survey.collectors)
  pub new : row_by_number (λ g. g.assignment.slot) assigned.assignment.slot
      (held_by collector survey.assignments) ≡ None
  pub outlet : HasNamedOutlet survey assigned

-- the assignment that ends is there, and the taker can take the new one
pub record CanPass (survey : Office) (handover : SeriesMove) : Type 0 where
  pub stands : IsSome (row_by_number (λ g. g.assignment.slot) handover.ended.assignment.slot
      (held_by handover.former.number survey.assignments))
  pub takes : CanTake survey handover.taker.number handover.assigned
