pub mod Calls
pub mod Counted
pub mod Followed
pub mod Lending
pub mod TablesTaken
