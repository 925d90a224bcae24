pub mod Listings
pub mod Payloads
pub mod Steps
