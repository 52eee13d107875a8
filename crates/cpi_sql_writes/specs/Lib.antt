pub mod GivenColumns
pub mod ReleaseSteps
pub mod Rest
pub mod Within
pub mod Written
pub mod PlanSteps
pub mod Columns
