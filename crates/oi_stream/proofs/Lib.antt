pub mod Fronts
pub mod Kept
pub mod Steps
pub mod Course
pub mod Unique
pub mod Streams
pub mod Bytewise
pub mod Determined
