pub mod Looking
pub mod HeaderLists
pub mod OneLess
pub mod StoredLists
pub mod LatestHeaders
pub mod PlanYears
