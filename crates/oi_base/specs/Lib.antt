pub mod Counts
pub mod Decimal
pub mod Extended
pub mod Fronts
pub mod Limits
pub mod Serials
pub mod TagLayout
