pub mod Numbering
pub mod Raised
