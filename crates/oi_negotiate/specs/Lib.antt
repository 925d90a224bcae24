pub mod Keys
pub mod Negotiated
pub mod Offers
pub mod Rows
pub mod Values
