-- The names that most contracts over a database cite, passed on from one place. Declares nothing.
pub use Rattle.std.specs.Prelude.{[], ℕ, pos, Bool, true, false, ⊤}
pub use Rattle.std.specs.Prelude.{List, Option, Some, None, Ok, Err, IfErr, IfOk, IfSome, IsPermutation, IsSome, IsTrue}
pub use Rattle.std.specs.Prelude.{OnErr, OnOk, length, map, nat_le, option_map, refl, slice_index_or}
pub use Rattle.std.specs.Ordering.{int_cmp, nat_cmp}
pub use Rattle.std.specs.String.{string_bytes}
pub use Rattle.sqlite.specs.declared.types.Value.TheVariants.{Int, Text}
pub use Rattle.sqlite.specs.Held.{state}
pub use Rattle.sqlite.specs.Order.{Row, column}
pub use Rattle.sqlite.specs.State.{CommitsBy, CommitsShowing, Executes, HasCleanDisk, IsLive, KeepsCommit, Shown}
pub use Rattle.sqlite.specs.State.{Survives}
pub use Rattle.sqlite.specs.Schema.{Schema}
pub use Rattle.sqlite.specs.Values.{bound}
pub use Rattle.cpi_rows.specs.Held.{held_by, held_cmp, held_key}
pub use Rattle.cpi_rows.specs.Keyed.{IsInOrder, row_by_number, row_at}
pub use Rattle.cpi_sql_rows.specs.Finding.{AreWhole, IsOfOffice, IsSecond, LooksOver}
pub use Rattle.cpi_sql_rows.specs.Lists.{rows_in_key_order}
pub use Rattle.cpi_sql_rows.specs.Read.{QueryLeaves, ShowsAll}
pub use Rattle.cpi_sql_rows.specs.Shelf.{AllStand, AllStandOf, AreTaken, HasRowids, HasTables, IsCleanBook, IsDone}
pub use Rattle.cpi_sql_rows.specs.Shelf.{IsKept, IsSurveyOf, IsWhole, Looks, Shelf, StaysOpen, book_state, shelf_code}
pub use Rattle.cpi_sql_rows.specs.Shelf.{AllStandFor, ArePlansTaken, IsPlanTaken, survey_of, year_in}
pub use Rattle.cpi_sql_rows.specs.Tables.{first_schema, office_schema}
