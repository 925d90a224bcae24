pub mod Changes
pub mod Comings
pub mod Counts
pub mod Endings
pub mod Fits
