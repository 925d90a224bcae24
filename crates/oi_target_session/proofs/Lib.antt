pub mod Answered
pub mod Drains
pub mod Executed
pub mod Joins
pub mod Pieces
pub mod Room
pub mod Wakes
pub mod Walks
