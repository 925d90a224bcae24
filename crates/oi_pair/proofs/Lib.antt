pub mod Counter
pub mod Leaves
pub mod Ledgers
pub mod Lists
pub mod Places
pub mod Seats
pub mod Sounds
pub mod Takes
