pub mod Alike
pub mod Carrying
pub mod ChangedRows
pub mod FieldValues
pub mod Front
pub mod Serving
pub mod TableResponses
pub mod Unique
