pub mod Earlier
pub mod Following
pub mod Headers
pub mod CachedLists
pub mod ReleaseLists
pub mod Samples
pub mod Tells
