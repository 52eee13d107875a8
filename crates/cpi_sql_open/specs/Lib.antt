pub mod Said
pub mod Looks
pub mod Making
pub mod Stages
pub mod Left
