pub mod Answers
pub mod Databases
pub mod Filters
pub mod Loads
