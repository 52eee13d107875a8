pub mod Caches
pub mod Calls
pub mod Opens
pub mod WorkedRows
