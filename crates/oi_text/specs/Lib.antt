pub mod Binary
pub mod Pairs
