pub mod Turned
pub mod Data
pub mod Decided
