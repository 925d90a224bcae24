pub mod Halves
pub mod Kept
pub mod Ledgers
pub mod Limits
pub mod Lists
pub mod Seats
pub mod Views
