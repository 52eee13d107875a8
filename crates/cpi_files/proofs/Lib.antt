pub mod Reopened
pub mod Serving
pub mod Answered
pub mod Tables
pub mod OneRun
