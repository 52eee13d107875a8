pub mod Beginning
pub mod Fronts
pub mod Jobs
pub mod Losing
pub mod Numbers
pub mod Served
pub mod ServedRuns
pub mod Tabled
