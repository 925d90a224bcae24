pub mod Views
pub mod Kept
pub mod Turns
pub mod Halves
