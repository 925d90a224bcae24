pub mod Answers
pub mod Arrivals
pub mod Executions
pub mod Listings
pub mod Owing
pub mod Runs
pub mod Sequences
pub mod Sessions
