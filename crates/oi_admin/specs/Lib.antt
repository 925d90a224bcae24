pub mod Applies
pub mod Commands
pub mod Listings
pub mod Readings
pub mod Rows
