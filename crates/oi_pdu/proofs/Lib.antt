pub mod Bits
pub mod Joined
pub mod RoundTrip
pub mod Rows
pub mod Words
