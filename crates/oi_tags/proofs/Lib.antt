pub mod Kept
pub mod Handing
