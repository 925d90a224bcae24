pub mod Cuts
pub mod Placings
