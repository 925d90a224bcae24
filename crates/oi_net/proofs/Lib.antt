mod Order
pub mod Loops
